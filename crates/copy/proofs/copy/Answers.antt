-- As many bytes as both have.
use Rattle.copy.proofs.Copied.{copied_all}
use Rattle.copy.proofs.copy.Goals as goal

pub returns-then-n-lt16 : goal.returns-then-n-lt16
returns-then-n-lt16 c =
    let a = c.args in
    copied_all a.text.now a.out.now _ c.min-n.result c.min-n.ensures c.copy_few.ensures

pub returns : goal.returns
returns c =
    let a = c.args in
    copied_all a.text.now a.out.now _ c.min-n.result c.min-n.ensures c.copy_many.ensures
