-- A walk that keeps the rest of its text: how far it has come, and the code point that it meets there, over any form.
use mathlib.Core.Path.{◌≡◌, refl, sym, ap, subst, ◌∙◌}
use Prim.Native.Nat.{ℕ, ◌+◌, ◌-◌, ◌≤◌, ◌<◌}
use mathlib.Core.List.{List, [], ◌∷◌}
use lib.ListN.{length, drop, length-drop}
use native.Mathlib.Omega.{arith}
use Rattle.std.specs.Prelude.{Option, None, Some}
use Rattle.std.specs.Option.{IsSome}
use Rattle.terms.specs.Form.{Form, first_point, point_says}
use Rattle.terms.specs.declared.Point.{Point}
use Rattle.terms.proofs.PointTold.{point_read}
use Rattle.terms.proofs.FaithfulForms.{Faithful}
use Rattle.terms.proofs.WalkBySegments.{part_is}
use Rattle.terms.proofs.WalkWrites.{Met, met, lent, lent-long, lent-there}

-- the code point that was read in `&text[at..]`
pub met_at : {F : Form} → Faithful F → (text : List ℕ) (at : ℕ) → at < length text → (p : Point) → Some p ≡ first_point F (lent text at)
    → Met F text at p.size p.number
met_at {F} f text at h p e = met f text at h p.size p.number (point_read F (lent text at) p e).1

-- there is one in front of the end
pub point_there : (F : Form) (text : List ℕ) (at : ℕ) → at < length text → (o : Option Point) → o ≡ first_point F (lent text at) → IsSome o
point_there F text at h o e = go (lent text at) (lent-long text at) e
  where
    go : (t : List ℕ) → length t ≡ length text - at → o ≡ first_point F t → IsSome o
    go [] l e = absurd (omega arith)
    go (x ∷ xs) l e = subst IsSome (sym e) refl

-- there is none in an empty text
pub none_read : (F : Form) (text : List ℕ) → None ≡ first_point F text → text ≡ []
none_read F [] e = refl
none_read F (x ∷ xs) e = absurd (none_some e)
  where
    none_some : {p : Point} → ◌≡◌ {A = Option Point} None (Some p) → ⊥
    none_some e = cc

module _ (text : List ℕ) where
  -- how far a walk has come that has this rest before it
  abbrev pub come : List ℕ → ℕ
  come rest = length text - length rest

  -- the rest is the text from there on
  abbrev pub Rest : List ℕ → Type 0
  Rest rest = rest ≡ drop (come rest) text

  module _ (rest : List ℕ) (r : Rest rest) where
    -- it is no longer than the text
    pub rest-inside : come rest + length rest ≡ length text
    rest-inside = omega (arith, ap length r, length-drop (come rest) text)

    -- where nothing is left, the walk has come to the end
    pub rest-end : (F : Form) → None ≡ first_point F rest → length text ≤ come rest
    rest-end F e = omega (arith, rest-inside, ap length (none_read F rest e))

    module _ {F : Form} (f : Faithful F) (p : Point) (e : Some p ≡ first_point F rest) where
      pub met_rest : Met F text (come rest) p.size p.number
      met_rest =
          let q = point_read F rest p e in
          met f text (come rest) (omega (arith, q.0, rest-inside)) p.size p.number (q.1 ∙ ap (point_says F) (r ∙ sym (part_is text (come rest))))

    -- n elements on
    module _ (n : ℕ) (h : come rest + n ≤ length text) where
      pub come_on : come (lent rest n) ≡ come rest + n
      come_on = omega (arith, h, rest-inside, ap length (part_is rest n), length-drop n rest)

      pub rest-on : Rest (lent rest n)
      rest-on = lent-there text rest (come rest) r n ∙ ap (λ (k : ℕ). drop k text) (sym come_on)
