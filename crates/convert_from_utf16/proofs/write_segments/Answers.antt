-- What is written, and what the rest of the text writes, is the form; so what is written is a pass.
use mathlib.Core.Path.{sym, ◌∙◌}
use Prim.Native.Nat.{◌+◌}
use native.Mathlib.Omega.{arith}
use Rattle.terms.proofs.WalkWrites.{Met, back, Wrote, wrote-room, wrote-next}
use Rattle.utf16.specs.Scalar.{utf16}
use Rattle.utf8.specs.Scalar.{utf8}
use Rattle.utf16.proofs.FaithfulForm.{utf16-faithful}
use Rattle.convert_point.proofs.RestOfText.{met_at}
use Rattle.convert_point.proofs.WalkInPasses.{wrote-passes}
use Rattle.convert_from_utf16.proofs.write_segments.Goals.{After-unwrap-p, After-put_sequence-done}
use Rattle.convert_from_utf16.proofs.write_segments.Goals as goal

-- the code point that was read, and what is written so far
here : (c : After-unwrap-p)
    → Met utf16 c.args.text.now c.loop-at.at c.unwrap-p.result.size c.unwrap-p.result.number
here c =
    met_at utf16-faithful c.args.text.now c.loop-at.at (omega (arith, c.loop-at-test.true, c.requires.1)) c.unwrap-p.result (sym c.unwrap-p.ensures ∙ c.point.ensures)

pub put_sequence-done-requires : goal.put_sequence-done-requires
put_sequence-done-requires c =
    let m = here (goal.at.put_sequence-done-requires c).After-unwrap-p in
    record {
      c_value = m.scalar;
      c_in_bounds = wrote-room utf16 utf8 c.args.text.now c.args.out.now _ _ _ c.loop-at.invariant c.requires.2 _ _ m;
    }

-- and what is written then
after : (c : After-put_sequence-done)
    (here : Met utf16 c.args.text.now c.loop-at.at c.unwrap-p.result.size c.unwrap-p.result.number)
    → let a = c.args in
    Wrote utf16 utf8 a.text.now a.out.now (back c.loop-at.out c.loop-at.done c.put_sequence-done.new.out)
    (c.loop-at.at + c.unwrap-p.result.size) (c.loop-at.done + c.put_sequence-done.result)
after c here =
    rw c.put_sequence-done.ensures.count
    (wrote-next utf16 utf8 c.args.text.now c.args.out.now c.loop-at.out c.loop-at.at c.loop-at.done c.loop-at.invariant
    c.requires.2 _ _ here c.put_sequence-done.new.out c.put_sequence-done.ensures.output)

pub loop-at-preserved : goal.loop-at-preserved
loop-at-preserved c =
    after (goal.at.loop-at-preserved c).After-put_sequence-done (here (goal.at.loop-at-preserved c).After-unwrap-p)

pub returns : goal.returns
returns c =
    wrote-passes utf16 utf8 c.args.text.now c.args.out.now c.loop-at.out c.loop-at.at c.loop-at.done c.loop-at.invariant
    (omega (arith, c.loop-at-test.false, c.requires.0))
