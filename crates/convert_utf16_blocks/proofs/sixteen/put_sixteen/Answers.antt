-- What is written are the first units, which the text and the output have room for.
use native.Mathlib.Omega.{arith}
use Rattle.std.proofs.Common.{◌≡◌, ◌∙◌, sym, true, length}
use Rattle.convert_utf16_blocks.specs.Block.{opening, low}
use Rattle.convert_utf16_blocks.proofs.LowUnits.{puts_low, first-long, opening-all, within_all}
use Rattle.convert_utf16_blocks.proofs.sixteen.put_sixteen.Goals as goal

pub returns : goal.returns
returns c =
    let a = c.args in
    let t = a.text.now in
    let u = c.in_ok-units.units.now in
    let l = c.in_ok-units.ensures.cases in
    let p : low u ≡ true = sym c.are_low.ensures ∙ c.if-not-are_low.false in
    record {
      told =
          rw (within_all 16 (length a.out.now) (opening low 16 t) c.if-out-lt16.false, opening-all low 16 t u l.enough l.same p)
          (puts_low u a.out.now c.put_low.new.out 16 (first-long 16 t u l.enough l.same) p c.put_low.ensures);
      some = omega arith;
    }
