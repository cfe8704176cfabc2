-- `join` meets its contract: nothing was pending, all of the seam is pending still, or its segment is settled and the piece goes on.
use Prim.Native.Nat.{ℕ, ◌+◌, ◌-◌, ◌≤◌}
use mathlib.Core.Path.{◌≡◌, sym, subst, ◌∙◌}
use mathlib.Core.List.{List}
use lib.ListN.{length, take, drop}
use native.Mathlib.Omega.{arith}
use Rattle.theory.specs.Stream.{State}
use Rattle.theory.specs.Tally.{total, size}
use Rattle.theory.specs.Index.{Built}
use Rattle.terms.proofs.WalkBySegments.{part_is}
use Rattle.utf8_pending.specs.Tail.{first_settled}
use Rattle.place.specs.Measures.{reader}
use Rattle.place.specs.declared.Place.{Place}
use Rattle.index_build.specs.State.{settled_place as place}
use Rattle.index_build.specs.Inside.Steps.{Advances, stream_of, Walks, Closes}
use Rattle.index_build.proofs.LoneReturn.{told-settled}
use Rattle.index_build.proofs.TestsAsFacts.{sound_is}
use Rattle.index_build.proofs.SeamAndPending.{join-walks-all, join-all, join-none, join-over, join-inside, join-ahead, join-walks, join-behind}
use Rattle.index_build.proofs.join.Goals.{After-advance-q, After-settled_by-size, Else-size-eq0}
use Rattle.index_build.proofs.join.Goals as goal

pub settled_place-p-requires : goal.settled_place-p-requires
settled_place-p-requires c = (sound_is c.args.state c.requires.granted.tests).covers

pub walk-requires : goal.walk-requires
walk-requires c =
    let a = c.args in
    rw c.settled_place-p.ensures (join-walks-all a.state a.piece.now a.seam.now a.row.now c.requires c.if-state-eq0.true)

pub returns-then-state-eq0 : goal.returns-then-state-eq0
returns-then-state-eq0 c =
    let a = c.args in
    subst (λ (s : State (Built Place)). Closes (a.state.taken + length a.piece.now) s c.walk.new.row c.walk.result)
    (join-all a.state a.piece.now a.seam.now a.row.now c.requires c.if-state-eq0.true)
    (rw c.settled_place-p.ensures at c.walk.ensures)

-- how many bytes are settled at the seam
size_is : (c : After-settled_by-size)
    → c.settled_by-size.result ≡ total size (first_settled reader c.args.seam.now)
size_is c =
    let seam = c.args.seam.now in
    c.settled_by-size.ensures ∙ told-settled c.segment.result seam c.segment.ensures

pub returns-then-size-eq0 : goal.returns-then-size-eq0
returns-then-size-eq0 c =
    let a = c.args in
    let s = size_is (goal.at.returns-then-size-eq0 c).After-settled_by-size in
    join-none a.state a.piece.now a.seam.now a.row.now c.requires (sym s ∙ c.if-size-eq0.true)
    (a.state.taken + length a.piece.now) c.keep.result (rw c.settled_place-p.ensures at c.keep.ensures)

some : (c : Else-size-eq0)
    (size_is : c.settled_by-size.result ≡ total size (first_settled reader c.args.seam.now))
    → total size (first_settled reader c.args.seam.now) ≡ 0 → ⊥
some c size_is n = c.if-size-eq0.false (size_is ∙ n)

pub advance-q-requires : goal.advance-q-requires
advance-q-requires c =
    let a = c.args in
    let s = size_is (goal.at.advance-q-requires c).After-settled_by-size in
    let n = some (goal.at.advance-q-requires c).Else-size-eq0 s in
    rw (s, c.settled_place-p.ensures) (join-ahead a.state a.piece.now a.seam.now a.row.now c.requires n c.end_first.ensures)

-- the segment at the seam is passed
passed : (c : After-advance-q)
    (size_is : c.settled_by-size.result ≡ total size (first_settled reader c.args.seam.now))
    → Advances (place c.args.state) (total size (first_settled reader c.args.seam.now)) c.end_first.result c.args.row.now
    c.advance-q.new.row c.advance-q.result
passed c size_is =
    rw (size_is, c.settled_place-p.ensures) at c.advance-q.ensures

-- it reaches over what is pending, and ends in the piece
over : (c : Else-size-eq0)
    (size_is : c.settled_by-size.result ≡ total size (first_settled reader c.args.seam.now))
    → let n = c.settled_by-size.result in
    (c.args.state.pending ≤ n) × (n - c.args.state.pending ≤ length c.args.piece.now)
over c size_is =
    let a = c.args in
    let n = some c size_is in
    rw size_is (
      join-over a.state a.piece.now a.seam.now a.row.now c.requires n,
      join-inside a.state a.piece.now a.seam.now a.row.now c.requires n,
    )

-- the text behind it
rest-is : (c : Else-size-eq0)
    (size_is : c.settled_by-size.result ≡ total size (first_settled reader c.args.seam.now))
    → let from = c.settled_by-size.result - c.args.state.pending in
    let piece = c.args.piece.now in
    take (length piece - from) (drop from piece) ≡ drop (total size (first_settled reader c.args.seam.now) - c.args.state.pending) piece
rest-is c size_is = rw (part_is, size_is)

pub overflow_sub-from : goal.overflow_sub-from
overflow_sub-from c =
    let s = size_is (goal.at.overflow_sub-from c).After-settled_by-size in
    omega (arith, over (goal.at.overflow_sub-from c).Else-size-eq0 s)

pub slice_bounds-walk-count : goal.slice_bounds-walk-count
slice_bounds-walk-count c =
    let s = size_is (goal.at.slice_bounds-walk-count c).After-settled_by-size in
    omega (arith, over (goal.at.slice_bounds-walk-count c).Else-size-eq0 s)

pub slice_bounds-walk-start : goal.slice_bounds-walk-start
slice_bounds-walk-start c =
    let s = size_is (goal.at.slice_bounds-walk-start c).After-settled_by-size in
    omega (arith, over (goal.at.slice_bounds-walk-start c).Else-size-eq0 s)

pub walk-requires-2 : goal.walk-requires-2
walk-requires-2 c =
    let a = c.args in
    let s = size_is (goal.at.walk-requires-2 c).After-settled_by-size in
    let n = some (goal.at.walk-requires-2 c).Else-size-eq0 s in
    let p = passed (goal.at.walk-requires-2 c).After-advance-q s in
    subst (λ (rest : List ℕ). Walks c.advance-q.result rest c.advance-q.new.row)
    (sym (rest-is (goal.at.walk-requires-2 c).Else-size-eq0 s))
    (join-walks a.state a.piece.now a.seam.now a.row.now c.requires n c.end_first.ensures p)

pub returns : goal.returns
returns c =
    let a = c.args in
    let whole = a.state.taken + length a.piece.now in
    let row' = c.advance-q.new.row in
    let s = size_is (goal.at.returns c).After-settled_by-size in
    let n = some (goal.at.returns c).Else-size-eq0 s in
    let p = passed (goal.at.returns c).After-advance-q s in
    subst (λ (state : State (Built Place)). Closes whole state c.walk-2.new.row c.walk-2.result)
    (join-behind a.state a.piece.now a.seam.now a.row.now c.requires n c.end_first.ensures p)
    (subst (λ (rest : List ℕ). Closes whole (stream_of c.advance-q.result row' rest) c.walk-2.new.row c.walk-2.result)
    (rest-is (goal.at.returns c).Else-size-eq0 s) c.walk-2.ensures)
