-- `join` meets its contract: all of the seam is pending still, or its segment is settled and the piece goes on.
use Prim.Native.Nat.{ℕ, ◌+◌, ◌-◌, ◌≤◌}
use mathlib.Core.Path.{◌≡◌, sym, subst, ◌∙◌}
use mathlib.Core.List.{List}
use lib.ListN.{length, take, drop}
use native.Mathlib.Omega.{arith}
use Rattle.theory.specs.Stream.{State}
use Rattle.theory.specs.Tally.{total, size, Log}
use Rattle.terms.specs.Limits.{most_pending}
use Rattle.terms.proofs.WalkBySegments.{part_is}
use Rattle.utf8.specs.Bytes.{bytes}
use Rattle.utf8_pending.specs.Tail.{first_settled}
use Rattle.utf8_pending.proofs.SettledFirst.{told-size}
use Rattle.decoder.specs.Inside.Steps.{Rests, behind, Answers}
use Rattle.decoder.proofs.FeedAnswers.{answers-still}
use Rattle.decoder.proofs.SeamSettled.{join-within, join-none, join-inside, join-behind, join-rests}
use Rattle.decoder.proofs.join.Goals.{After-settled_size-size, Else-size-state, Start}
use Rattle.decoder.proofs.join.Goals as goal

-- an array has its length
three : (c : Start) → length c.args.state.held ≡ most_pending
three c = c.well_formed.1.0.1.1.0.1.0.1

pub overflow_add-taken : goal.overflow_add-taken
overflow_add-taken c =
    let a = c.args in
    let full = three (goal.at.overflow_add-taken c).Start in
    omega (arith, join-within a.state a.piece.now a.list.now a.seam.now c.requires.0 c.requires.1 full)

-- how many bytes are settled at the seam
size_is : (c : After-settled_size-size)
    → c.settled_size-size.result ≡ total size (first_settled bytes c.args.seam.now)
size_is c =
    let seam = c.args.seam.now in
    c.settled_size-size.ensures ∙ told-size c.first_of-seg.result seam c.first_of-seg.ensures

pub returns-then-size-state : goal.returns-then-size-state
returns-then-size-state c =
    let way = goal.at.returns-then-size-state c in
    let a = c.args in
    answers-still a.state (a.state.taken + length a.piece.now) a.piece.now a.out.now a.list.now a.seam.now c.keep.result
    (join-none a.state a.piece.now a.list.now a.seam.now c.requires.0 c.requires.1 (three way.Start)
    (omega (arith, size_is way.After-settled_size-size, c.if-size-state.true)))
    (rw c.tally_of.ensures at c.keep.ensures)

-- the segment reaches over what is pending, and ends in the piece
over : (c : Else-size-state) → c.settled_size-size.result ≡ total size (first_settled bytes c.args.seam.now)
    → c.args.state.pending ≤ total size (first_settled bytes c.args.seam.now)
over c size_is = omega (arith, size_is, c.if-size-state.false)

inside : (c : Else-size-state) → length c.args.state.held ≡ most_pending
    → c.settled_size-size.result ≡ total size (first_settled bytes c.args.seam.now)
    → c.settled_size-size.result - c.args.state.pending ≤ length c.args.piece.now
inside c three size_is =
    let a = c.args in
    omega (arith, size_is, join-inside a.state a.piece.now a.list.now a.seam.now c.requires.0 c.requires.1 three (over c size_is))

-- the text behind it
rest-is : (c : Else-size-state) → c.settled_size-size.result ≡ total size (first_settled bytes c.args.seam.now)
    → let a = c.args in
    let from = c.settled_size-size.result - a.state.pending in
    let piece = a.piece.now in
    take (length piece - from) (drop from piece) ≡ drop (total size (first_settled bytes a.seam.now) - a.state.pending) piece
rest-is c size_is = rw (part_is, size_is)

pub slice_bounds-feed_rest-count : goal.slice_bounds-feed_rest-count
slice_bounds-feed_rest-count c =
    let way = goal.at.slice_bounds-feed_rest-count c in
    inside way.Else-size-state (three way.Start) (size_is way.After-settled_size-size)

pub slice_bounds-feed_rest-start : goal.slice_bounds-feed_rest-start
slice_bounds-feed_rest-start c =
    let way = goal.at.slice_bounds-feed_rest-start c in
    inside way.Else-size-state (three way.Start) (size_is way.After-settled_size-size)

pub feed_rest-requires : goal.feed_rest-requires
feed_rest-requires c =
    let way = goal.at.feed_rest-requires c in
    let a = c.args in
    let is = size_is way.After-settled_size-size in
    subst (λ (rest : List ℕ). Rests a.state c.first_of-seg.result a.seam.now rest a.list.now) (sym (rest-is way.Else-size-state is))
    (join-rests a.state a.piece.now a.list.now a.seam.now c.requires.0 c.requires.1 (three way.Start) (over way.Else-size-state is)
    c.first_of-seg.result c.first_of-seg.ensures)

pub returns : goal.returns
returns c =
    let way = goal.at.returns c in
    let a = c.args in
    let is = size_is way.After-settled_size-size in
    let taken = a.state.taken + length a.piece.now in
    let out' = c.feed_rest.new.out in
    let list' = c.feed_rest.new.list in
    subst (λ (s : State Log). Answers a.state taken s a.out.now a.list.now out' list' c.feed_rest.result)
    (sym (join-behind a.state a.piece.now a.list.now a.seam.now c.requires.0 c.requires.1 (three way.Start) (over way.Else-size-state is)))
    (subst (λ (rest : List ℕ). Answers a.state taken (behind a.state a.seam.now rest a.list.now)
    a.out.now a.list.now out' list' c.feed_rest.result) (rest-is way.Else-size-state is) c.feed_rest.ensures)
