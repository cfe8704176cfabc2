-- Three bytes exactly, or two stores.
use native.Mathlib.Omega.{arith}
use Rattle.convert_from_page.proofs.NumberStored.{two-stored, exactly, unit-put}
use borrow.Author.Rules.{rules}
use Rattle.convert_from_page.proofs.numbers.put_two.Goals as goal

pub returns-then-n-ge2048 : goal.returns-then-n-ge2048
returns-then-n-ge2048 c =
    exactly (unit-put c.args.n (search rules) c.args.out.now c.put_bytes.new.out c.put_bytes.result c.requires.1 c.put_bytes.ensures)

pub lead-requires : goal.lead-requires
lead-requires c = omega (arith, c.if-n-ge2048.false)

pub long-requires : goal.long-requires
long-requires c = omega (arith, c.if-n-ge2048.false)

pub returns : goal.returns
returns c =
    rw (c.long.ensures, c.lead.ensures) (two-stored c.args.n (omega (arith, c.if-n-ge2048.false)) c.args.out.now c.requires.0)
