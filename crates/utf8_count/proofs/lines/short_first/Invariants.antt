-- `short_first` meets its contract: where all are short, they are counted; or all is looked at.
use Rattle.std.specs.Slice.Iter.{iter_rest}
use Rattle.std.specs.Iterator.Adapters.{zip_first, zip_second}
use Rattle.utf8_count.proofs.LineEndsAdd.{Short}
use Rattle.utf8_count.proofs.lines.short_first.Given as goal

abbrev pub invariant-loop-x : goal.invariant-loop-x
invariant-loop-x l =
    let two = zip_first l.x-iterator in
    (goal.iterator-loop-x).can_next l.x-iterator × (goal.iterator-loop-x).is_finite l.x-iterator
    × Short l.row (iter_rest (zip_first two)) (iter_rest (zip_second two)) (iter_rest (zip_second l.x-iterator)) l.ends l.long
