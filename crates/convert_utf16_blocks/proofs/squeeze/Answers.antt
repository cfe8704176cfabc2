-- The units passed are squeezed into the output.
use Rattle.std.proofs.Common.{◌≡◌, ◌∙◌, ℕ, get_or, refl, subst, arith}
use Rattle.utf8.specs.Scalar.{later}
use Rattle.convert_utf16_blocks.specs.Inside.Places.{size_of, first_byte, second_byte, Squeezed}
use Rattle.convert_utf16_blocks.proofs.BytesSqueezed.{squeezed-next}
use Rattle.convert_utf16_blocks.proofs.squeeze.Goals as goal

pub loop-k-preserved : goal.loop-k-preserved
loop-k-preserved c =
    let u = c.args.units.now in
    let k = c.loop-k.k in
    let i = c.loop-k.invariant in
    let x : ℕ = get_or u k 0 in
    let first : get_or c.row-first.result k 0 ≡ first_byte x = c.row-first.ensures.each k (omega arith) in
    let second : get_or c.row-second.result k 0 ≡ second_byte x = c.row-second.ensures.each k (omega arith) in
    let third : get_or c.row-third.result k 0 ≡ later x = c.row-third.ensures.each k (omega arith) in
    let size : get_or c.row-size.result k 0 ≡ size_of x = c.row-size.ensures.each k (omega arith) in
    rw (c.from-at.ensures ∙ size, first, second, third)
    (squeezed-next u c.args.out.now c.loop-k.out k 2 c.loop-k.at i (omega (arith, i.few, i.long)) (omega arith) x refl (omega (arith, c.fits-units k)) refl)

pub returns : goal.returns
returns c =
    let e : c.loop-k.k ≡ 126 = omega arith in
    subst (λ (k : ℕ). Squeezed c.args.units.now k 2 c.args.out.now c.loop-k.out c.loop-k.at) e c.loop-k.invariant
