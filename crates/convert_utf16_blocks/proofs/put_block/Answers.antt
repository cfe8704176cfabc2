-- What is written is the first block, which the text and the output have room for.
use native.Mathlib.Omega.{arith}
use Rattle.std.proofs.Common.{◌∙◌, sym, length}
use Rattle.utf16.specs.Alone.{all_alone}
use Rattle.convert_utf16_blocks.specs.Block.{block}
use Rattle.convert_utf16_blocks.proofs.LowUnits.{low-alone, puts_low, puts_mixed, first-long, opening-all, within_all}
use Rattle.convert_utf16_blocks.proofs.put_block.Goals as goal

pub returns-then-are_low : goal.returns-then-are_low
returns-then-are_low c =
    let a = c.args in
    let t = a.text.now in
    let u = c.in_ok-units.units.now in
    let l = c.in_ok-units.ensures.cases in
    let p = sym c.are_low.ensures ∙ c.if-are_low.true in
    record {
      told =
          rw (within_all 384 (length a.out.now) (block t) c.if-out-lt384.false, opening-all all_alone 128 t u l.enough l.same (low-alone u p))
          (puts_low u a.out.now c.put_low.new.out 128 (first-long 128 t u l.enough l.same) p c.put_low.ensures);
      some = omega arith;
    }

pub returns : goal.returns
returns c =
    let a = c.args in
    let t = a.text.now in
    let u = c.in_ok-units.units.now in
    let l = c.in_ok-units.ensures.cases in
    record {
      told =
          rw (within_all 384 (length a.out.now) (block t) c.if-out-lt384.false, opening-all all_alone 128 t u l.enough l.same (sym c.are_alone.ensures ∙ c.if-not-are_alone.false))
          (puts_mixed u a.out.now c.put_mixed.new.out (first-long 128 t u l.enough l.same) _ c.put_mixed.ensures);
      some = omega arith;
    }
