-- What is told loses nothing: two answers that tell the same are equal, since each can be read back from its numbers.
use mathlib.Core.Path.{◌≡◌, refl, sym, ap, ◌∙◌}
use Prim.Native.Nat.{ℕ}
use mathlib.Core.Bool.{false, cond}
use mathlib.Core.List.{List, [], ◌∷◌}
use lib.ListN.{length, get_or}
use lib.Dec.{eqb}
use Rattle.std.specs.Prelude.{is_ok, Result, Ok, Err}
use Rattle.terms.specs.Told.{is_granted, caused, cause_told, told_cause, told_refusal, told_first, told, told_checked, told_written}
use Rattle.terms.specs.declared.First.{First}
use Rattle.terms.specs.declared.First.TheVariants.{Nothing, Whole, Damage, Begun}
use Rattle.terms.specs.declared.Refusal.{Refusal}
use Rattle.terms.specs.declared.Refusal.TheVariants.{Damaged, OverLimit, NoRoom, PastEnd, Inside, Unusable, ListRoom, BadState, NoScalar, NotInPage}

-- what can be read back is not lost
pub by-back : {A : Type 0} (told : A → List ℕ) (back : List ℕ → A) → ((a : A) → back (told a) ≡ a) → (a b : A) → told a ≡ told b → a ≡ b
by-back told back h a b e = sym (h a) ∙ ap back e ∙ h b

-- the cause of what stands first, by its number
pub caused-told : (f : First) → told_cause (caused f) ≡ cause_told f
caused-told Nothing = refl
caused-told (Whole n) = refl
caused-told (Damage n cause) = refl
caused-told (Begun n) = refl

unfoldable pub back_refusal : List ℕ → Refusal
back_refusal l =
    let n = get_or l 0 0 in
    let v = get_or l 1 0 in
    cond (eqb n 1) (Damaged v (get_or l 2 0) (record { 0 = get_or l 3 0 })) (cond (eqb n 2) OverLimit (cond (eqb n 3) (NoRoom v) (cond (eqb n 4) PastEnd
    (cond (eqb n 5) Inside (cond (eqb n 6) (Unusable v) (cond (eqb n 7) ListRoom (cond (eqb n 8) BadState (cond (eqb n 9) (NoScalar v) (NotInPage v)))))))))

pub refusal_back : (a : Refusal) → back_refusal (told_refusal a) ≡ a
unfolding back_refusal
refusal_back (Damaged start length cause) = refl
refusal_back OverLimit = refl
refusal_back (NoRoom needed) = refl
refusal_back PastEnd = refl
refusal_back Inside = refl
refusal_back (Unusable checkpoint) = refl
refusal_back ListRoom = refl
refusal_back BadState = refl
refusal_back (NoScalar position) = refl
refusal_back (NotInPage offset) = refl

pub told_refusal_lem : (a b : Refusal) → told_refusal a ≡ told_refusal b → a ≡ b
told_refusal_lem = by-back told_refusal back_refusal refusal_back

back_first : List ℕ → First
back_first l =
    let n = get_or l 1 0 in
    cond (eqb (length l) 0) Nothing (cond (eqb (get_or l 2 0) 0) (Begun n) (cond (eqb (get_or l 0 0) 0) (Whole n) (Damage n (record { 0 = get_or l 3 0 }))))

first_back : (a : First) → back_first (told_first a) ≡ a
unfolding back_first
first_back Nothing = refl
first_back (Whole n) = refl
first_back (Damage n cause) = refl
first_back (Begun n) = refl

pub told-first : (a b : First) → told_first a ≡ told_first b → a ≡ b
told-first = by-back told_first back_first first_back

-- a refusal's number is not 0, so that it is told from what is granted
abbrev pub number : Refusal → ℕ
number r = get_or (told_refusal r) 0 0

pub no_zero : (r : Refusal) → eqb (number r) 0 ≡ false
no_zero (Damaged start length cause) = refl
no_zero OverLimit = refl
no_zero (NoRoom needed) = refl
no_zero PastEnd = refl
no_zero Inside = refl
no_zero (Unusable checkpoint) = refl
no_zero ListRoom = refl
no_zero BadState = refl
no_zero (NoScalar position) = refl
no_zero (NotInPage offset) = refl

-- an answer, where what it grants can be read back
module _ {A : Type 0} (values : A → List ℕ) (back : List ℕ → A) (h : (a : A) → back (0 ∷ values a) ≡ a) where
  back_told : List ℕ → Result A Refusal
  back_told l = cond (eqb (get_or l 0 0) 0) (Ok (back l)) (Err (back_refusal l))

  told_back : (a : Result A Refusal) → back_told (told values a) ≡ a
  unfolding back_told
  told_back (Ok a) = ap (λ (x : A). Ok x) (h a)
  told_back (Err r) = rw (no_zero r, refusal_back r)

  pub told_lem : (a b : Result A Refusal) → told values a ≡ told values b → a ≡ b
  told_lem = by-back (told values) back_told told_back

pub told-checked : (a b : Result (Unit {0}) Refusal) → told_checked a ≡ told_checked b → a ≡ b
told-checked = told_lem (λ _. []) (λ _. tt) (λ _. refl)

pub told-written : (a b : Result ℕ Refusal) → told_written a ≡ told_written b → a ≡ b
told-written = told_lem (λ n. n ∷ []) (λ l. get_or l 1 0) (λ _. refl)

-- an answer that grants is told so, and only such a one
pub ok-granted : {A : Type 0} (values : A → List ℕ) (r : Result A Refusal) → is_ok r ≡ is_granted (told values r)
ok-granted values (Ok a) = refl
ok-granted values (Err r) = sym (no_zero r)
