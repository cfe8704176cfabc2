-- The units passed are whole segments.
use Rattle.std.proofs.Common.{◌≡◌, ◌∙◌, ◌+◌, ap, sym, length, get_or, take, drop, arith}
use Rattle.std.proofs.lemmas.List.{get_or-drop}
use Rattle.terms.specs.Told.{bit}
use Rattle.terms.proofs.WalkBySegments.{part_is}
use Rattle.utf16_check.specs.Inside.Paired.{is_second}
use Rattle.utf16_check.proofs.PairedIsWhole.{whole_on, block_whole, bit_is}
use Rattle.utf16_check.proofs.whole_blocks.Goals as goal

pub loop-units-preserved : goal.loop-units-preserved
loop-units-preserved c =
    let t = c.args.text.now in
    let at = c.loop-units.at in
    let u = c.in-Some.units.now in
    let l = c.in-Some.ensures.cases in
    let r = part_is t at in
    let n : c.from.result ≡ bit (is_second (get_or u 128 0)) =
    c.from.ensures ∙ bit_is c.is_second-in-Some.result ∙ ap bit c.is_second-in-Some.ensures in
    rw n
    (whole_on t at (128 + bit (is_second (get_or u 128 0))) c.loop-units.invariant
    (block_whole (drop at t) u (omega (arith, l.enough, ap length r)) (l.same ∙ ap (take 129) r) (sym c.is_second.ensures ∙ c.if-is_second.false)
    (c.is_paired.ensures c.if-not-is_paired.false) (λ k. omega (arith, get_or-drop at t k 0, c.type_inv.text (at + k)))))
