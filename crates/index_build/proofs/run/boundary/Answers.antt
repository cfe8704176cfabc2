-- `run::boundary` meets its contract: the boundary before the byte is that before the one reached.
use Prim.Native.Nat.{ℕ, suc, ◌-◌, ◌<◌}
use mathlib.Core.Path.{◌≡◌, refl, sym, ap, ◌∙◌}
use mathlib.Core.Bool.{true}
use lib.ListN.{get_or}
use native.Mathlib.Omega.{arith}
use Rattle.utf8_scan.specs.Stands.{is_later}
use Rattle.index_build.specs.Inside.Summed.{boundary}
use Rattle.index_build.proofs.BoundaryBefore.{boundary-before, boundary-here, later-behind}
use Rattle.index_build.proofs.run.boundary.Goals.{In-loop-b}
use Rattle.index_build.proofs.run.boundary.Goals as goal

pub loop-b-init : goal.loop-b-init
loop-b-init c = (omega arith, refl)

-- the byte there is a later one
later : (c : In-loop-b) → is_later (get_or c.args.text.now c.loop-b.b 0) ≡ true
later c = sym c.is_later.ensures ∙ c.loop-b-test.true

-- so that it is not the first
behind : (c : In-loop-b) → 0 < c.loop-b.b
behind c = later-behind c.args.text.now c.requires.1 c.loop-b.b (later c)

pub overflow_sub-b : goal.overflow_sub-b
overflow_sub-b c = behind (goal.at.overflow_sub-b c).In-loop-b

pub loop-b-smaller : goal.loop-b-smaller
loop-b-smaller c = omega (arith, behind (goal.at.loop-b-smaller c).In-loop-b)

pub loop-b-preserved : goal.loop-b-preserved
loop-b-preserved c =
    let at = (goal.at.loop-b-preserved c).In-loop-b in
    let text = c.args.text.now in
    let b : ℕ = c.loop-b.b in
    let s : b ≡ suc (b - 1) = omega (arith, behind at) in
    let f : is_later (get_or text (suc (b - 1)) 0) ≡ true = ap (λ (m : ℕ). is_later (get_or text m 0)) (sym s) ∙ later at in
    (omega (arith, c.loop-b.invariant.0), c.loop-b.invariant.1 ∙ ap (boundary text) s ∙ boundary-before text (b - 1) f)

pub returns : goal.returns
returns c =
    sym (c.loop-b.invariant.1 ∙ boundary-here c.args.text.now c.loop-b.b (sym c.is_later.ensures ∙ c.loop-b-test.false))
