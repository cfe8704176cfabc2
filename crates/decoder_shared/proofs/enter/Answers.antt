-- `enter` meets its contract: where there is no room the list stays as it is.
use lib.ListN.{length-set}
use native.Mathlib.Omega.{arith}
use Rattle.terms.specs.Told.{number_of}
use Rattle.decoder_shared.proofs.EntryStored.{full, short, stored}
use Rattle.decoder_shared.proofs.enter.Goals as goal

pub returns-then-room-i : goal.returns-then-room-i
returns-then-room-i c =
    let a = c.args in
    full a.room a.i a.start a.length (number_of a.cause) a.list.now (omega arith)

pub returns-then-list-i : goal.returns-then-list-i
returns-then-list-i c =
    let a = c.args in
    short a.room a.i a.start a.length (number_of a.cause) a.list.now (omega arith) (omega arith)

pub bounds-list-at-2 : goal.bounds-list-at-2
bounds-list-at-2 c = simp length-set (omega arith)

pub bounds-list-at-3 : goal.bounds-list-at-3
bounds-list-at-3 c = simp length-set (omega arith)

pub returns : goal.returns
returns c =
    let a = c.args in
    rw c.number.ensures (stored a.room a.i a.start a.length (number_of a.cause) a.list.now (omega arith) (omega arith))
