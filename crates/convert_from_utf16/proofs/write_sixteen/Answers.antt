-- Units below 0x80 are a pass, and so are the segments that are written where there is none.
use mathlib.Core.Path.{◌≡◌, subst}
use mathlib.Core.List.{List}
use Prim.Native.Nat.{ℕ}
use lib.ListN.{length}
use native.Mathlib.Omega.{arith}
use Rattle.convert_utf16_blocks.specs.Block.{sixteen}
use Rattle.convert_utf16_blocks.proofs.LowUnits.{sixteen-is}
use Rattle.utf8.specs.Scalar.{utf8}
use Rattle.utf16.specs.Scalar.{utf16}
use Rattle.convert_point.specs.Inside.Passes.{PassesTo}
use Rattle.convert_from_utf16.proofs.BlocksArePasses.{block-passes-to, no_block}
use Rattle.convert_from_utf16.proofs.write_sixteen.Goals.{In_default}
use Rattle.convert_from_utf16.proofs.write_sixteen.Goals as goal

-- without them the output is as it was
untouched : (c : In_default) → c.put_sixteen.new.out ≡ c.args.out.now
untouched c =
    let a = c.args in
    let p = c.in_default.ensures.told in
    no_block (sixteen (length a.out.now) a.text.now) a.out.now c.put_sixteen.new.out (omega (arith, p.counts.read_is)) p.output

pub returns-in-Some : goal.returns-in-Some
returns-in-Some c =
    let a = c.args in
    let t = a.text.now in
    let room = length a.out.now in
    let p = c.in-Some.ensures.told in
    block-passes-to t (sixteen room t) (sixteen-is t room).0 (sixteen-is t room).1 _ _ p.counts.read_is p.counts.places_is c.in-Some.ensures.some
    a.out.now c.put_sixteen.new.out p.output

-- a part that was read and written stands behind what was there before
stands : (c : In_default) (read places : ℕ) (out : List ℕ) → PassesTo utf16 utf8 c.args.text.now c.put_sixteen.new.out out read places
    → PassesTo utf16 utf8 c.args.text.now c.args.out.now out read places
stands c read places out = subst (λ (before : List ℕ). PassesTo utf16 utf8 c.args.text.now before out read places) (untouched c)

pub returns-then-text-lt128 : goal.returns-then-text-lt128
returns-then-text-lt128 c = stands (goal.at.returns-then-text-lt128 c).In_default _ _ _ c.write_segments.ensures

pub returns : goal.returns
returns c = stands (goal.at.returns c).In_default _ _ _ c.write_segments-2.ensures
