-- `filled` meets its contract: the row has what is looked at.
use mathlib.Core.Path.{◌∙◌}
use native.Mathlib.Omega.{arith}
use Rattle.utf8_count.proofs.LineEndsInRow.{row_behind, row_is}
use Rattle.utf8_count.proofs.lines.filled.Goals as goal

pub in_row-requires : goal.in_row-requires
in_row-requires c =
    let m = c.min-m.result in
    let row = c.copy_from_slice in (
      c.requires,
      λ i l. row_behind c.args.text.now row.new.self m (omega (arith, c.min-m.ensures)) row.ensures.after 130 i (omega (arith, c.min-m.ensures, l)),
    )

pub returns : goal.returns
returns c =
    let m = c.min-m.result in
    let row = c.copy_from_slice in
    c.in_row.ensures
    ∙ row_is c.args.text.now row.new.self m (omega (arith, c.min-m.ensures)) row.ensures.after c.args.n 130 (omega (arith, c.min-m.ensures))
