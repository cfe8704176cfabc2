-- `from_start` meets its contract: refusal 2, then the walk from the start of the text.
use mathlib.Core.Path.{◌∙◌}
use native.Mathlib.Omega.{arith}
use Rattle.utf8.specs.Classes.{classes}
use Rattle.utf8.proofs.ClassesRead.{table, by-table}
use Rattle.place.specs.Walk.{number, measure}
use Rattle.place.proofs.WalkReached.{start-roomy}
use Rattle.place_lookup.proofs.AnswersReached.{lookup-over, lookup-within}
use Rattle.place_lookup.proofs.from_start.Goals as goal

pub returns-then-text-gt-LIMIT : goal.returns-then-text-gt-LIMIT
returns-then-text-gt-LIMIT c =
    let a = c.args in
    lookup-over (measure a.to) (number a.to) a.text.now c.if-text-gt-LIMIT.true

pub walk-requires : goal.walk-requires
unfolding classes table
walk-requires c =
    record { roomy = rw c.start.ensures (start-roomy c.args.text.now (omega arith)); classes_value = by-table }

pub returns : goal.returns
returns c =
    let a = c.args in
    c.walk.ensures ∙ rw c.start.ensures (lookup-within (measure a.to) (number a.to) a.text.now c.if-text-gt-LIMIT.false)
