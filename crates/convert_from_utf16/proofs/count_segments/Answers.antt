-- What is counted is what the segments passed take.
use Prim.Native.Nat.{◌+◌}
use native.Mathlib.Omega.{arith}
use Rattle.terms.proofs.WalkWrites.{Met}
use Rattle.utf8.specs.Scalar.{utf8}
use Rattle.utf16.specs.Scalar.{utf16}
use Rattle.utf16.proofs.FaithfulForm.{utf16-faithful}
use Rattle.convert_point.proofs.RestOfText.{met_at}
use Rattle.convert_point.proofs.WalkInPasses.{Passed, passed-few, passed-next}
use Rattle.convert_point.specs.declared.Target.TheVariants.{Bytes, Units}
use Rattle.convert_point.proofs.Enough.{text_few}
use mathlib.Core.Path.{sym, ◌∙◌}
use Rattle.convert_from_utf16.proofs.count_segments.Goals.{After-bytes_of-places, After-unwrap-p}
use Rattle.convert_from_utf16.proofs.count_segments.Goals as goal

-- the code point that was read
here : (c : After-unwrap-p)
    → Met utf16 c.args.text.now c.loop-at.at c.unwrap-p.result.size c.unwrap-p.result.number
here c =
    met_at utf16-faithful c.args.text.now c.loop-at.at (omega (arith, c.loop-at-test.true, c.requires)) c.unwrap-p.result (sym c.unwrap-p.ensures ∙ c.point.ensures)

-- and what is counted then
after : (c : After-bytes_of-places)
    (here : Met utf16 c.args.text.now c.loop-at.at c.unwrap-p.result.size c.unwrap-p.result.number)
    → Passed utf16 utf8 c.args.text.now (c.loop-at.at + c.unwrap-p.result.size) (c.loop-at.places + c.bytes_of-places.result)
after c here =
    rw c.bytes_of-places.ensures (passed-next utf16 utf8 c.args.text.now c.loop-at.at c.loop-at.places c.loop-at.invariant _ _ here)

pub overflow_add-places : goal.overflow_add-places
overflow_add-places c =
    let t = c.args.text.now in
    let h = here (goal.at.overflow_add-places c).After-unwrap-p in
    omega (arith, passed-few utf16 utf8 t _ _ (after c h), text_few Units Bytes t, c.requires)

pub loop-at-preserved : goal.loop-at-preserved
loop-at-preserved c =
    after (goal.at.loop-at-preserved c).After-bytes_of-places (here (goal.at.loop-at-preserved c).After-unwrap-p)
