-- A page has what is below 0x80; else it is the stride of code points.
use native.Mathlib.Omega.{arith}
use Rattle.convert_from_utf8.proofs.HeldWalk.{ascii-reached}
use Rattle.convert_from_utf8.proofs.pages.Table.held_stride.Goals as goal

pub returns-then-n-gt0 : goal.returns-then-n-gt0
returns-then-n-gt0 c =
    let h = c.near_run-n.ensures in
    record {
      reached = ascii-reached c.args.self.now.numbers c.args.self.now.is_page c.args.self.now.keeps c.args.text.now c.near_run-n.result h.0 h.1 c.requires.text_nonzero.1;
      ended = λ e. absurd (omega (arith, e, c.if-n-gt0.true));
    }
