-- A block of units below 0x80 is alone.
use native.Mathlib.Omega.{arith}
use Rattle.std.proofs.Common.{◌∙◌, sym}
use Rattle.utf16.specs.Alone.{all_alone}
use Rattle.convert_utf16_blocks.proofs.LowUnits.{low-alone, counts_low, first-long, opening-all}
use Rattle.convert_utf16_blocks.proofs.count_block.Goals as goal

pub returns-then-are_low : goal.returns-then-are_low
returns-then-are_low c =
    let u = c.in_ok-units.units.now in
    let l = c.in_ok-units.ensures.cases in
    let p = sym c.are_low.ensures ∙ c.if-are_low.true in
    record {
      told =
          rw (opening-all all_alone 128 c.args.text.now u l.enough l.same (low-alone u p)) (counts_low u 128 (first-long 128 c.args.text.now u l.enough l.same) p);
      some = omega arith;
    }
