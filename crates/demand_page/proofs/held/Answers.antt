-- Nothing is lacking up to the place that the walk has come to.
use mathlib.Core.Path.{◌≡◌, refl, sym, ap, ◌∙◌}
use mathlib.Core.Path.{◌≡◌, refl, ap}
use Prim.Native.Nat.{ℕ, ◌-◌, ◌≤◌}
use mathlib.Core.List.{List, [], ◌∷◌}
use Rattle.std.specs.Prelude.{Option, None, Some}
use Rattle.terms.specs.Form.{first_point}
use Rattle.terms.specs.declared.Point.{Point}
use lib.ListN.{length, length-drop, take, drop}
use native.Mathlib.Omega.{arith}
use Rattle.terms.proofs.PointTold.{point_read}
use Rattle.terms.proofs.WalkBySegments.{part_is}
use Rattle.terms.proofs.WalkWrites.{Met, met}
use Rattle.utf8.specs.Scalar.{utf8}
use Rattle.utf8.proofs.FaithfulForm.{utf8-faithful}
use Rattle.page.specs.Tables.{table_of}
use Rattle.demand_page.proofs.PlainWalk.{passed_start, passed-next, passed-stop, passed-end}
use Rattle.demand_page.proofs.held.Goals as goal

-- the code point that was read
met-read : (text : List ℕ) (at : ℕ) → at ≤ length text → (p : Point) → Some p ≡ first_point utf8 (take (length text - at) (drop at text)) → Met utf8 text at p.size p.number
met-read text at h p e =
    let r = point_read utf8 (take (length text - at) (drop at text)) p e in
    met utf8-faithful text at (omega (arith, r.0, ap length (part_is text at), length-drop at text)) p.size p.number r.1

-- or none: all was passed
all-read : (text : List ℕ) (at : ℕ) → at ≤ length text → None ≡ first_point utf8 (take (length text - at) (drop at text)) → length text ≤ at
all-read text at h e = go (drop at text) refl (rw part_is at e)
  where
    go : (t : List ℕ) → drop at text ≡ t → None ≡ first_point utf8 t → length text ≤ at
    go [] e n = omega (arith, length-drop at text, ap length e)
    go (x ∷ xs) e n = absurd (none_some n)
      where
        none_some : {q : Point} → ◌≡◌ {A = Option Point} None (Some q) → ⊥
        none_some n = cc

pub loop-p-init : goal.loop-p-init
loop-p-init c = let a = c.args in passed_start (table_of a.page) a.text.now

pub returns-then-not-has : goal.returns-then-not-has
returns-then-not-has c =
    let a = c.args in
    passed-stop (table_of a.page) a.text.now c.loop-p.at c.loop-p.invariant _ _
    (met-read a.text.now c.loop-p.at c.loop-p.invariant.inside c.in-Some.p (sym c.in-Some.is ∙ c.point.ensures)) (sym c.has.ensures ∙ c.if-not-has.true)

pub loop-p-preserved : goal.loop-p-preserved
loop-p-preserved c =
    let a = c.args in
    passed-next (table_of a.page) a.text.now c.loop-p.at c.loop-p.invariant _ _
    (met-read a.text.now c.loop-p.at c.loop-p.invariant.inside c.in-Some.p (sym c.in-Some.is ∙ c.point.ensures)) (sym c.has.ensures ∙ c.if-not-has.false)

pub returns : goal.returns
returns c =
    let a = c.args in
    passed-end (table_of a.page) a.text.now c.loop-p.at c.loop-p.invariant
    (all-read a.text.now c.loop-p.at c.loop-p.invariant.inside (sym c.in_default.is ∙ c.point.ensures))
