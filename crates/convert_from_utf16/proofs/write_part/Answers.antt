-- A block of units that stand alone is a pass, and so is what is written where there is none.
use mathlib.Core.Path.{◌≡◌, subst}
use mathlib.Core.List.{List}
use Prim.Native.Nat.{ℕ}
use lib.ListN.{length}
use native.Mathlib.Omega.{arith}
use Rattle.convert_utf16_blocks.specs.Block.{roomy}
use Rattle.convert_utf16_blocks.proofs.LowUnits.{roomy-is}
use Rattle.utf8.specs.Scalar.{utf8}
use Rattle.utf16.specs.Scalar.{utf16}
use Rattle.convert_point.specs.Inside.Passes.{PassesTo}
use Rattle.convert_from_utf16.proofs.BlocksArePasses.{block-passes-to, no_block}
use Rattle.convert_from_utf16.proofs.write_part.Goals as goal

pub returns-in-Some : goal.returns-in-Some
returns-in-Some c =
    let a = c.args in
    let t = a.text.now in
    let room = length a.out.now in
    let p = c.in-Some.ensures.told in
    block-passes-to t (roomy room t) (roomy-is t room).0 (roomy-is t room).1 _ _ p.counts.read_is p.counts.places_is c.in-Some.ensures.some
    a.out.now c.put_block.new.out p.output

pub returns : goal.returns
returns c =
    let a = c.args in
    let p = c.in_default.ensures.told in
    let same : c.put_block.new.out ≡ a.out.now = no_block (roomy (length a.out.now) a.text.now) a.out.now c.put_block.new.out (omega (arith, p.counts.read_is)) p.output in
    subst (λ (out : List ℕ). PassesTo utf16 utf8 a.text.now out c.write_sixteen.new.out c.write_sixteen.result.read c.write_sixteen.result.places) same c.write_sixteen.ensures
