-- `stretch` meets its contract: the stream behind the text is that behind the rest, from the place reached.
use Prim.Native.Nat.{◌+◌}
use mathlib.Core.Path.{◌≡◌, sym, subst, ◌∙◌}
use lib.ListN.{drop}
use native.Mathlib.Omega.{arith}
use Rattle.theory.specs.Tally.{total, size}
use Rattle.terms.proofs.WalkBySegments.{part_is}
use Rattle.utf8_pending.specs.Tail.{first_settled}
use Rattle.utf8_count.specs.Counts.{end_first}
use Rattle.place.specs.Measures.{reader}
use Rattle.index_build.specs.Inside.Steps.{Walked}
use Rattle.index_build.proofs.LoneReturn.{told-settled}
use Rattle.index_build.proofs.StreamBehindWalk.{walked_start, walked-ahead, walked_next, walked-stretched}
use borrow.Author.Rules.{rules}
use Rattle.index_build.proofs.stretch.Goals.{After-advance-p, After-end_first, After-settled_by-size, Else-size-eq0}
use Rattle.index_build.proofs.stretch.Goals as goal

pub loop-k-init : goal.loop-k-init
loop-k-init c =
    (walked_start c.args.text.now c.args.from c.args.row.now c.requires.stretches.walks, λ e. search rules)

-- how many bytes are settled there
size_is : (c : After-settled_by-size)
    → c.settled_by-size.result ≡ total size (first_settled reader (drop c.loop-k.at c.args.text.now))
size_is c =
    let left = drop c.loop-k.at c.args.text.now in
    (rw part_is at c.settled_by-size.ensures)
    ∙ told-settled c.segment_by.result left (rw (part_is, c.requires.classes_value) at c.segment_by.ensures)

pub shape_of-row-then-size-eq0 : goal.shape_of-row-then-size-eq0
shape_of-row-then-size-eq0 c = c.loop-k.invariant.0.long

pub returns-then-size-eq0 : goal.returns-then-size-eq0
returns-then-size-eq0 c =
    let s = size_is (goal.at.returns-then-size-eq0 c).After-settled_by-size in
    walked-stretched c.args.text.now c.args.from c.args.row.now c.loop-k.invariant.0
    (λ e. subst (λ k. total size (first_settled reader (drop k c.args.text.now)) ≡ 0) e (sym s ∙ c.if-size-eq0.true))

some : (c : Else-size-eq0)
    (size_is : c.settled_by-size.result ≡ total size (first_settled reader (drop c.loop-k.at c.args.text.now)))
    → total size (first_settled reader (drop c.loop-k.at c.args.text.now)) ≡ 0 → ⊥
some c size_is n = c.if-size-eq0.false (size_is ∙ n)

-- whether a line ends behind them
ends : (c : After-end_first)
    → c.end_first.result ≡ end_first (drop c.loop-k.at c.args.text.now)
ends c = rw part_is at c.end_first.ensures

pub advance-p-requires : goal.advance-p-requires
advance-p-requires c =
    let s = size_is (goal.at.advance-p-requires c).After-settled_by-size in
    let n = some (goal.at.advance-p-requires c).Else-size-eq0 s in
    let e = ends (goal.at.advance-p-requires c).After-end_first in
    rw s (walked-ahead c.args.text.now c.args.from c.args.row.now c.requires.stretches.walks c.loop-k.invariant.0 n e)

-- behind the segment
turned : (c : After-advance-p)
    (size_is : c.settled_by-size.result ≡ total size (first_settled reader (drop c.loop-k.at c.args.text.now)))
    (some : total size (first_settled reader (drop c.loop-k.at c.args.text.now)) ≡ 0 → ⊥)
    (ends : c.end_first.result ≡ end_first (drop c.loop-k.at c.args.text.now))
    → Walked c.args.text.now c.args.from c.args.row.now
    c.advance-p.new.row c.advance-p.result (c.loop-k.at + c.settled_by-size.result)
turned c size_is some ends =
    rw size_is
    (walked_next c.args.text.now c.args.from c.args.row.now c.requires.stretches.walks c.loop-k.invariant.0 some ends
    (rw size_is at c.advance-p.ensures))

pub overflow_add-at : goal.overflow_add-at
overflow_add-at c =
    let s = size_is (goal.at.overflow_add-at c).After-settled_by-size in
    let n = some (goal.at.overflow_add-at c).Else-size-eq0 s in
    let e = ends (goal.at.overflow_add-at c).After-end_first in
    let t = turned (goal.at.overflow_add-at c).After-advance-p s n e in
    omega (arith, t.inside)

pub loop-k-preserved : goal.loop-k-preserved
loop-k-preserved c =
    let s = size_is (goal.at.loop-k-preserved c).After-settled_by-size in
    let n = some (goal.at.loop-k-preserved c).Else-size-eq0 s in
    let e = ends (goal.at.loop-k-preserved c).After-end_first in
    (turned (goal.at.loop-k-preserved c).After-advance-p s n e, λ r. absurd (c.if-size-eq0.false (omega arith)))

pub shape_of-row : goal.shape_of-row
shape_of-row c = c.loop-k.invariant.0.long

pub returns : goal.returns
returns c =
    walked-stretched c.args.text.now c.args.from c.args.row.now c.loop-k.invariant.0
    (λ e. absurd (omega (arith, c.loop-k.invariant.1 e, c.requires.stretches.some, c.loop-k-test.false)))
