-- THE FIRST MATCH IS THE SMALLEST OFFSET where the needle's bytes stand, and there is none exactly if they stand nowhere.
use mathlib.Core.Path.{◌≡◌, refl, sym, ap, ◌∙◌, subst}
use Prim.Native.Nat.{ℕ, zero, suc, ◌+◌, ◌<◌}
use mathlib.Core.Bool.{true, false, true≢false}
use mathlib.Core.List.{List, [], ◌∷◌}
use Rattle.std.specs.Prelude.{Option, None, Some}
use lib.ListN.{length, take, drop, length-drop}
use lib.Seq.{length-take-le, get_or-take, get_or-drop, ext_get_or}
use lib.Dec.{eqb}
use borrow.Author.Tests.{eqb-true, eq-eqb}
use native.Mathlib.Omega.{arith}
use Rattle.theory.proofs.Cases.{split, both, under}
use Rattle.find.specs.Match.{begins, match_from, first_match}
use Rattle.find.specs.Inside.Compared.{at, Stands}

-- ---- the needle at the start, byte by byte

nothing-stands : (text : List ℕ) → Stands text [] 0
nothing-stands text = record { inside = omega arith; same = λ i h. absurd (omega arith) }

stands_tail : (c : ℕ) (text : List ℕ) (b : ℕ) (needle : List ℕ) → Stands (c ∷ text) (b ∷ needle) 0 → Stands text needle 0
stands_tail c text b needle s =
    record {
      inside = omega (arith, s.inside);
      same = λ i h. ap (at (c ∷ text)) (index i) ∙ s.same (suc i) (omega arith);
    }
  where
    index : (i : ℕ) → suc (0 + i) ≡ 0 + suc i
    index i = omega arith

stands_cons : (c : ℕ) (text needle : List ℕ) → Stands text needle 0 → Stands (c ∷ text) (c ∷ needle) 0
stands_cons c text needle s = record { inside = omega (arith, s.inside); same = each }
  where
    index : (i : ℕ) → 0 + suc i ≡ suc (0 + i)
    index i = omega arith

    each : (i : ℕ) → i < length (c ∷ needle) → at (c ∷ text) (0 + i) ≡ at (c ∷ needle) i
    each zero h = refl
    each (suc i) h = ap (at (c ∷ text)) (index i) ∙ s.same i (omega arith)

stands-begins : (text needle : List ℕ) → Stands text needle 0 → begins text needle ≡ true
unfolding begins
stands-begins text [] s = refl
stands-begins [] (b ∷ needle) s = absurd (omega (arith, s.inside))
stands-begins (c ∷ text) (b ∷ needle) s =
    rw (eq-eqb c b (s.same 0 (omega arith)), stands-begins text needle (stands_tail c text b needle s))

begins-stands : (text needle : List ℕ) → begins text needle ≡ true → Stands text needle 0
unfolding begins
begins-stands text [] e = nothing-stands text
begins-stands [] (b ∷ needle) e = absurd (true≢false (sym e))
begins-stands (c ∷ text) (b ∷ needle) e =
    let h = both (eqb c b) (begins text needle) e in
    subst (λ (d : ℕ). Stands (c ∷ text) (d ∷ needle) 0) (eqb-true c b h.0) (stands_cons c text needle (begins-stands text needle h.1))

-- ---- one byte more in front

later : (c : ℕ) (text needle : List ℕ) (k : ℕ) → Stands text needle k → Stands (c ∷ text) needle (suc k)
later c text needle k s =
    record { inside = omega (arith, s.inside); same = λ i h. ap (at (c ∷ text)) (index i) ∙ s.same i h }
  where
    index : (i : ℕ) → suc k + i ≡ suc (k + i)
    index i = omega arith

sooner : (c : ℕ) (text needle : List ℕ) (k : ℕ) → Stands (c ∷ text) needle (suc k) → Stands text needle k
sooner c text needle k s =
    record { inside = omega (arith, s.inside); same = λ i h. ap (at (c ∷ text)) (index i) ∙ s.same i h }
  where
    index : (i : ℕ) → suc (k + i) ≡ suc k + i
    index i = omega arith

-- ---- the first of the places

pub record First (entry needle : List ℕ) (k : ℕ) : Type 0 where
  pub stands : Stands entry needle k
  pub none : (j : ℕ) → j < k → Stands entry needle j → ⊥

-- what an answer says, counted on from a
abbrev Answers : ℕ → List ℕ → List ℕ → Option ℕ → Type 0
Answers a entry needle None = (k : ℕ) → Stands entry needle k → ⊥
Answers a entry needle (Some k) = (j : ℕ) × ((k ≡ a + j) × First entry needle j)

here : (a : ℕ) (entry needle : List ℕ) → begins entry needle ≡ true → Answers a entry needle (Some a)
here a entry needle e = (0, (omega arith, record { stands = begins-stands entry needle e; none = λ j h s. omega arith }))

not-here : (entry needle : List ℕ) → begins entry needle ≡ false → Stands entry needle 0 → ⊥
not-here entry needle e s = true≢false (sym (stands-begins entry needle s) ∙ e)

behind : (a c : ℕ) (text needle : List ℕ) → begins (c ∷ text) needle ≡ false → (o : Option ℕ)
    → Answers (suc a) text needle o → Answers a (c ∷ text) needle o
behind a c text needle e None f = never
  where
    never : (k : ℕ) → Stands (c ∷ text) needle k → ⊥
    never zero s = not-here (c ∷ text) needle e s
    never (suc k) s = f k (sooner c text needle k s)
behind a c text needle e (Some k) f = (suc f.0, (omega (arith, f.1.0), record { stands = later c text needle f.0 f.1.1.stands; none = before }))
  where
    before : (j : ℕ) → j < suc f.0 → Stands (c ∷ text) needle j → ⊥
    before zero h s = not-here (c ∷ text) needle e s
    before (suc j) h s = f.1.1.none j (omega arith) (sooner c text needle j s)

answers : (a : ℕ) (entry needle : List ℕ) → Answers a entry needle (match_from a entry needle)
unfolding match_from
answers a [] needle = split (begins [] needle)
    (λ e. rw e (here a [] needle e))
    (λ e. rw e (λ k s. not-here [] needle e (subst (Stands [] needle) (omega (arith, s.inside)) s)))
answers a (c ∷ text) needle = split (begins (c ∷ text) needle)
    (λ e. rw e (here a (c ∷ text) needle e))
    (λ e. rw e (behind a c text needle e (match_from (suc a) text needle) (answers (suc a) text needle)))

first-answers : (entry needle : List ℕ) → Answers 0 entry needle (first_match entry needle)
unfolding first_match
first-answers entry needle = answers 0 entry needle

-- ---- both ways

pub match_first : (entry needle : List ℕ) (k : ℕ) → first_match entry needle ≡ Some k → First entry needle k
match_first entry needle k e =
    let f = subst (Answers 0 entry needle) e (first-answers entry needle) in
    subst (First entry needle) (omega (arith, f.1.0)) f.1.1

pub match_stands : (entry needle : List ℕ) (k : ℕ) → first_match entry needle ≡ Some k → Stands entry needle k
match_stands entry needle k e = (match_first entry needle k e).stands

pub match_none : (entry needle : List ℕ) → first_match entry needle ≡ None → (k : ℕ) → Stands entry needle k → ⊥
match_none entry needle e = subst (Answers 0 entry needle) e (first-answers entry needle)

pub first_match_lem : (entry needle : List ℕ) (k : ℕ) → First entry needle k → first_match entry needle ≡ Some k
first_match_lem entry needle k f = go (first_match entry needle) (first-answers entry needle)
  where
    go : (o : Option ℕ) → Answers 0 entry needle o → o ≡ Some k
    go None n = absurd (n k f.stands)
    go (Some i) n =
        let g = n.1.1 in
        under n.0 k (λ h. absurd (f.none n.0 h g.stands))
        (λ h. under k n.0 (λ l. absurd (g.none k l f.stands)) (λ l. ap (λ (x : ℕ). Some x) (omega (arith, n.1.0))))

pub none_match : (entry needle : List ℕ) → ((k : ℕ) → Stands entry needle k → ⊥) → first_match entry needle ≡ None
none_match entry needle f = go (first_match entry needle) (first-answers entry needle)
  where
    go : (o : Option ℕ) → Answers 0 entry needle o → o ≡ None
    go None n = refl
    go (Some i) n = absurd (f n.0 n.1.1.stands)

-- an empty needle stands at 0
pub empty_match : (entry needle : List ℕ) → length needle ≡ 0 → first_match entry needle ≡ Some 0
empty_match entry needle e =
    first_match_lem entry needle 0
    (record {
      stands = record { inside = omega arith; same = λ i h. absurd (omega arith) };
      none = λ j h s. absurd (omega arith);
    })

-- the needle is the part of the entry where it stands
pub stands-part : (entry needle : List ℕ) (k : ℕ) → Stands entry needle k → take (length needle) (drop k entry) ≡ needle
stands-part entry needle k s =
    let long = length-take-le (length needle) (drop k entry) (omega (arith, length-drop k entry, s.inside)) in
    ext_get_or 0 (take (length needle) (drop k entry)) needle long
    (λ i h. get_or-take (length needle) (drop k entry) i 0 (omega arith) ∙ get_or-drop k entry i 0 ∙ s.same i (omega arith))
