-- The low bytes of units below 0x80 are the units.
use Rattle.std.proofs.Common.{◌≡◌, ◌∙◌, ◌%◌, ℕ, List, ◌++◌, ap, drop, get_or, arith, rules}
use Rattle.convert_utf16_blocks.proofs.LowUnits.{low-row}
use Rattle.convert_utf16_blocks.proofs.put_low.Goals as goal

pub returns : goal.returns
returns g c =
    let u = c.args.units.now in
    let b = c.row-bytes.result in
    let e : b ≡ u = low-row u b c.requires.under (omega arith)
    (λ k h. let p = c.row-bytes.ensures.each k h in let q : get_or b k 0 ≡ get_or u k 0 % 0x100 = search rules in q) in
    ap (λ (b : List ℕ). b ++ drop g.row.N c.args.out.now) (c.copy_from_slice.ensures.after ∙ e)
