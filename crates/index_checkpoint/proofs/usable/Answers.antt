-- `usable` meets its contract: its tests are the definition's.
use Rattle.place.specs.Walk.{number, measure}
use Rattle.index_checkpoint.proofs.UsableByTests.{usable-other, usable-far, usable-near}
use Rattle.index_checkpoint.proofs.usable.Goals as goal

pub returns-then-q-over : goal.returns-then-q-over
returns-then-q-over c = let a = c.args in usable-other (measure a.to) (number a.to) a.j a.q c.if-q-over.true

pub returns-then-over-ge-LONGEST : goal.returns-then-over-ge-LONGEST
returns-then-over-ge-LONGEST c =
    let a = c.args in
    usable-far (measure a.to) (number a.to) a.j a.q c.if-q-over.false c.if-over-ge-LONGEST.true

pub returns : goal.returns
returns c =
    let a = c.args in
    rw (c.fair.ensures, c.count.ensures, c.number.ensures)
    (usable-near (measure a.to) (number a.to) a.j a.q c.if-q-over.false c.if-over-ge-LONGEST.false)
