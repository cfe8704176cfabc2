-- `join` meets its contract: all of the seam is pending still, or its segment is settled and the piece goes on.
use Prim.Native.Nat.{◌+◌, ◌-◌, ◌≤◌}
use mathlib.Core.Path.{◌≡◌, sym, subst, ◌∙◌}
use lib.ListN.{length}
use lib.Seq.{length-take-le}
use native.Mathlib.Omega.{arith}
use Rattle.theory.specs.Stream.{State}
use Rattle.theory.specs.Tally.{total, size, Log}
use Rattle.terms.specs.Limits.{most_pending}
use Rattle.terms.specs.Told.{told_written}
use Rattle.terms.proofs.WalkBySegments.{part_is}
use Rattle.std.specs.Prelude.{Ok}
use Rattle.utf8.specs.Bytes.{bytes}
use Rattle.utf8_pending.specs.Tail.{first_settled}
use Rattle.utf8_pending.proofs.SettledFirst.{bytes-short, settled-inside, told-size}
use Rattle.decoder_shared.specs.Inside.Steps.{Answers}
use Rattle.decoder_shared.proofs.FeedAnswers.{answers-still}
use Rattle.decoder_to_utf16.specs.State.{to_units}
use Rattle.decoder_to_utf16.proofs.SeamOfState.{join-within, join-still, join-inside, join-behind, join-rests}
use Rattle.decoder_to_utf16.proofs.join.Goals.{After-settled_size-size, Else-size-state, Start}
use Rattle.decoder_to_utf16.proofs.join.Goals as goal

-- an array has its length
three : (c : Start) → length c.args.state.held ≡ most_pending
three c = c.well_formed.1.0.1.1.0.1.0.1

pub overflow_add-taken : goal.overflow_add-taken
overflow_add-taken c =
    let a = c.args in
    let i = three (goal.at.overflow_add-taken c).Start in
    omega (arith, join-within a.state a.piece.now a.list.now a.seam.now c.requires.0 c.requires.1 i)

-- how many bytes are settled at the seam
size_is : (c : After-settled_size-size) → c.settled_size-size.result ≡ total size (first_settled bytes c.args.seam.now)
size_is c = c.settled_size-size.ensures ∙ told-size c.first_of-seg.result c.args.seam.now c.first_of-seg.ensures

pub returns-then-size-state : goal.returns-then-size-state
returns-then-size-state c =
    let a = c.args in
    let at = goal.at.returns-then-size-state c in
    let taken = a.state.taken + length a.piece.now in
    subst (λ (s : State Log). Answers to_units a.state taken s a.out.now a.list.now a.out.now a.list.now
    (told_written (Ok 0)) c.keep.result)
    (sym (join-still a.state a.piece.now a.list.now a.seam.now c.requires.0 c.requires.1 (three at.Start)
    (omega (arith, size_is at.After-settled_size-size, c.if-size-state.true))))
    (answers-still to_units a.state taken a.seam.now a.out.now a.list.now c.keep.result
    (rw c.tally_of.ensures at c.keep.ensures))

-- the segment reaches over what is pending, and ends in the piece
over : (c : Else-size-state) → let n = total size (first_settled bytes c.args.seam.now) in
    c.settled_size-size.result ≡ n → c.args.state.pending ≤ n
over c size_is = omega (arith, size_is, c.if-size-state.false)

inside : (c : Else-size-state) → length c.args.state.held ≡ most_pending
    → c.settled_size-size.result ≡ total size (first_settled bytes c.args.seam.now)
    → c.settled_size-size.result - c.args.state.pending ≤ length c.args.piece.now
inside c three size_is =
    let a = c.args in
    let i = join-inside a.state a.piece.now a.list.now a.seam.now c.requires.0 c.requires.1 three (over c size_is) in
    omega (arith, size_is, i)

pub slice_bounds-feed_rest-end : goal.slice_bounds-feed_rest-end
slice_bounds-feed_rest-end c =
    let seam = c.args.seam.now in
    let e = size_is (goal.at.slice_bounds-feed_rest-end c).After-settled_size-size in
    sym (length-take-le c.settled_size-size.result seam (omega (arith, e, settled-inside bytes-short seam)))

pub slice_bounds-feed_rest-count : goal.slice_bounds-feed_rest-count
slice_bounds-feed_rest-count c =
    let at = goal.at.slice_bounds-feed_rest-count c in
    inside at.Else-size-state (three at.Start) (size_is at.After-settled_size-size)

pub slice_bounds-feed_rest-start : goal.slice_bounds-feed_rest-start
slice_bounds-feed_rest-start c =
    let at = goal.at.slice_bounds-feed_rest-start c in
    inside at.Else-size-state (three at.Start) (size_is at.After-settled_size-size)

pub feed_rest-requires : goal.feed_rest-requires
feed_rest-requires c =
    let a = c.args in
    let at = goal.at.feed_rest-requires c in
    let e = size_is at.After-settled_size-size in
    rw (part_is, e)
    (join-rests a.state a.piece.now a.list.now a.seam.now c.requires.0 c.requires.1 (three at.Start) (over at.Else-size-state e)
    c.first_of-seg.result c.first_of-seg.ensures)

pub returns : goal.returns
returns c =
    let a = c.args in
    let at = goal.at.returns c in
    let e = size_is at.After-settled_size-size in
    let out' = c.feed_rest.new.out in
    let list' = c.feed_rest.new.list in
    let r = c.feed_rest.result in
    subst (λ (s : State Log). Answers to_units a.state (a.state.taken + length a.piece.now) s a.out.now a.list.now out' list'
    (told_written r.answer) r.state)
    (sym (join-behind a.state a.piece.now a.list.now a.seam.now c.requires.0 c.requires.1 (three at.Start) (over at.Else-size-state e)
    c.first_of-seg.result c.first_of-seg.ensures))
    (rw (part_is, e) at c.feed_rest.ensures)
