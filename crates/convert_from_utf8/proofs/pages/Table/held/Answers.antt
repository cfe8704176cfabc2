-- The page has each code point up to the place that the walk has come to.
use Prim.Native.Nat.{◌+◌}
use mathlib.Core.Path.{ap, ◌∙◌}
use lib.ListN.{length, length-drop}
use native.Mathlib.Omega.{arith}
use Rattle.terms.proofs.WalkBySegments.{part_is}
use Rattle.convert_from_utf8.specs.Inside.Held.{Reached}
use Rattle.convert_from_utf8.proofs.HeldWalk.{reached-start, reached-on, held-end, held-stop}
use Rattle.convert_from_utf8.proofs.pages.Table.held.Goals.{After-held_stride-n}
use Rattle.convert_from_utf8.proofs.pages.Table.held.Goals as goal

pub loop-at-init : goal.loop-at-init
loop-at-init c = reached-start c.args.self.now.numbers c.args.text.now c.requires.text_value

pub held_stride-n-requires : goal.held_stride-n-requires
held_stride-n-requires c =
    let t = c.args.text.now in
    let at = c.loop-at.at in
    record {
      text_nonzero = (omega (arith, ap length (part_is t at) ∙ length-drop at t, c.loop-at-test.true), rw (part_is t at) c.loop-at.invariant.behind);
    }

-- what is passed then
after : (c : After-held_stride-n)
    → let a = c.args in
    Reached a.self.now.numbers a.text.now (c.loop-at.at + c.held_stride-n.result)
after c =
    let a = c.args in
    reached-on a.self.now.numbers a.text.now c.loop-at.at c.loop-at.invariant c.held_stride-n.result c.held_stride-n.ensures.reached

pub returns-then-n-eq0 : goal.returns-then-n-eq0
returns-then-n-eq0 c =
    let a = c.args in
    held-stop a.self.now.numbers a.text.now c.loop-at.at c.loop-at.invariant c.held_stride-n.result c.held_stride-n.ensures c.if-n-eq0.true

pub overflow_add-at : goal.overflow_add-at
overflow_add-at c =
    omega (arith, (after (goal.at.overflow_add-at c).After-held_stride-n).inside, c.well_formed)

pub loop-at-smaller : goal.loop-at-smaller
loop-at-smaller c = omega (arith, (after (goal.at.loop-at-smaller c).After-held_stride-n).inside, c.if-n-eq0.false)

pub loop-at-preserved : goal.loop-at-preserved
loop-at-preserved c = after (goal.at.loop-at-preserved c).After-held_stride-n

pub returns : goal.returns
returns c =
    let a = c.args in
    held-end a.self.now.numbers a.text.now c.loop-at.at c.loop-at.invariant c.loop-at-test.false
