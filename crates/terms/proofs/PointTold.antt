-- The code point that stands first in a text, from what the segment reader told of the text, over any form.
use mathlib.Core.Path.{◌≡◌, refl, sym, ap, ◌∙◌}
use Prim.Native.Nat.{ℕ, zero, suc, ◌+◌, ◌≤◌, ◌<◌}
use mathlib.Core.Bool.{Bool, true, false, cond}
use mathlib.Core.List.{List, [], ◌∷◌}
use lib.ListN.{length, get_or, take, drop}
use lib.Seq.{drop-cons}
use native.Mathlib.Omega.{arith}
use Rattle.theory.specs.Table.{ended, Kind, whole, damage, is_damage}
use Rattle.theory.proofs.Divisions.{Division, first-size}
use Rattle.std.specs.Prelude.{Option, None, Some}
use Rattle.terms.specs.Form.{Form, replacement, first_point, told_point, point_says}
use Rattle.terms.specs.declared.Point.{Point}
use Rattle.terms.specs.Told.{number_of, told_first, first_says}
use Rattle.terms.specs.declared.Cause.{Cause}
use Rattle.terms.specs.declared.First.{First}
use Rattle.terms.specs.declared.First.TheVariants.{Nothing, Whole, Damage, Begun}
use Rattle.terms.proofs.WalkBySegments.{nothing_seen, Seen, seen}

-- n elements of a text from an index on, one by one
abbrev pub elements : List ℕ → ℕ → ℕ → List ℕ
elements text i zero = []
elements text i (suc n) = get_or text i 0 ∷ elements text (suc i) n

take-elements : (text : List ℕ) (i n : ℕ) → i + n ≤ length text → take n (drop i text) ≡ elements text i n
take-elements text i zero h = refl
take-elements text i (suc n) h =
    let l : i < length text = omega arith in
    rw (drop-cons text i 0 l) (ap (λ (r : List ℕ). get_or text i 0 ∷ r) (take-elements text (suc i) n (omega arith)))

-- what the first n elements of a text stand for, where a test said how many they are
pub value_of : (value : List ℕ → ℕ) (text : List ℕ) (n k : ℕ) → n ≡ k → n ≤ length text → value (elements text 0 k) ≡ value (take n text)
value_of value text n k e h = ap value (rw (← e) (sym (take-elements text 0 n (omega arith))))

-- a code point of so many elements
abbrev pub of_point : ℕ → ℕ → Option Point
of_point c n = Some (record { number = c; size = n })

-- a whole segment of n elements stands first, and its code point is told
pub record Pointed (F : Form) (text : List ℕ) (n : ℕ) : Type 0 where
  pub seen_as : Seen F.look text n whole true
  pub some : 0 < n
  pub inside : n ≤ length text
  pub says : of_point (F.value (take n text)) n ≡ first_point F text

-- the same from its elements, where a test said how many they are
pub says_of : {F : Form} {text : List ℕ} {n : ℕ} → Pointed F text n → (k : ℕ) → n ≡ k → of_point (F.value (elements text 0 k)) n ≡ first_point F text
says_of {F} {text} {n} p k e = ap (λ (v : ℕ). of_point v n) (value_of F.value text n k e p.inside) ∙ p.says

-- ---- from what the segment reader told

module _ (F : Form) (D : Division F.look) (text : List ℕ) where
  point-of : (n : ℕ) (kind : Kind) (sure : Bool) → Seen F.look text n kind sure
      → of_point (cond (is_damage kind) replacement (F.value (take n text))) n ≡ first_point F text
  point-of n kind sure s = rw (s.text-is, s.long-is, s.kind-is, first-size D s.head s.tail)

  module _ (r : First) (told : told_first r ≡ first_says F.look text) where
    told-as : (q : First) → r ≡ q → told_first q ≡ first_says F.look text
    told-as q e = ap told_first (sym e) ∙ told

    pub point-nothing : r ≡ Nothing → None ≡ first_point F text
    point-nothing e = rw (nothing_seen F.look text (told-as Nothing e))

    pub point-whole : (n : ℕ) → r ≡ Whole n → Pointed F text n
    point-whole n e =
        let s = seen F.look text n whole true (told-as (Whole n) e) in
        let l : length text ≡ suc (length s.tail) = ap length s.text-is in
        let f : (F.look s.head s.tail).more ≤ length s.tail = D.fits s.head s.tail in
        record { seen_as = s; some = omega arith; inside = omega arith; says = point-of n whole true s }

    pub point-damage : (n : ℕ) (c : Cause) → r ≡ Damage n c → of_point replacement n ≡ first_point F text
    point-damage n c e = point-of n (damage (number_of c)) true (seen F.look text n (damage (number_of c)) true (told-as (Damage n c) e))

    pub point-begun : (n : ℕ) → r ≡ Begun n → of_point replacement n ≡ first_point F text
    point-begun n e = point-of n (damage ended) false (seen F.look text n (damage ended) false (told-as (Begun n) e))

-- ---- in the numbers in which it is told

pub told-first-point : (F : Form) (text : List ℕ) → told_point (first_point F text) ≡ point_says F text
told-first-point F [] = refl
told-first-point F (x ∷ xs) = refl

-- one that was read
pub point_read : (F : Form) (text : List ℕ) (p : Point) → Some p ≡ first_point F text → (0 < length text) × (p.number ∷ p.size ∷ [] ≡ point_says F text)
point_read F [] p e = absurd (some_none p e)
  where
    some_none : (q : Point) → ◌≡◌ {A = Option Point} (Some q) None → ⊥
    some_none q e = cc
point_read F (x ∷ xs) p e = (omega arith, ap told_point e)
