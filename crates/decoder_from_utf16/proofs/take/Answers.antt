-- `take` meets its contract: by what is pending and what comes.
use mathlib.Core.Path.{◌≡◌, sym, subst}
use Prim.Native.Nat.{◌+◌, ◌-◌, ◌≤◌}
use lib.ListN.{length}
use native.Mathlib.Omega.{arith}
use Rattle.theory.specs.Stream.{State}
use Rattle.theory.specs.Tally.{Log}
use Rattle.terms.specs.Told.{told_written}
use Rattle.decoder_shared.specs.Inside.Steps.{Answers}
use Rattle.decoder_shared.proofs.ChecksInOrder.{Admits, admits}
use Rattle.decoder_from_utf16.specs.State.{unit_decoding}
use Rattle.decoder_from_utf16.proofs.TestsAsFacts.{Sound, sound_is}
use Rattle.decoder_from_utf16.proofs.SeamOfUnits.{none-rests, none-fed, both-few, both_long, piece-has, both-rests, both-fed, still}
use borrow.Author.Rules.{rules}
use Rattle.decoder_from_utf16.proofs.take.Goals.{After-size-size, Start}
use Rattle.decoder_from_utf16.proofs.take.Goals as goal

-- the state may take it, and so it passes its tests
may : (c : Start) → Admits unit_decoding c.args.state (length c.args.piece.now) (length c.args.list.now)
may c = admits unit_decoding c.args.state (length c.args.piece.now) (length c.args.list.now) (sym c.requires)

tests : (c : Start) → Sound c.args.state
tests c = sound_is c.args.state (may c).tests

pub overflow_add-taken : goal.overflow_add-taken
overflow_add-taken c = omega (arith, (may (goal.at.overflow_add-taken c).Start).within)

pub feed_rest-requires : goal.feed_rest-requires
feed_rest-requires c =
    let a = c.args in
    let at = goal.at.feed_rest-requires c in
    none-rests a.state a.piece.now a.list.now (tests at.Start) (may at.Start)

pub returns-then-state-eq0 : goal.returns-then-state-eq0
returns-then-state-eq0 c =
    let a = c.args in
    let at = goal.at.returns-then-state-eq0 c in
    subst (λ (s : State Log). Answers unit_decoding a.state (a.state.taken + length a.piece.now) s a.out.now a.list.now
    c.feed_rest.new.out c.feed_rest.new.list (told_written c.feed_rest.result.answer) c.feed_rest.result.state)
    (none-fed a.state a.piece.now a.list.now (tests at.Start) (may at.Start) c.if-state-eq0.true) c.feed_rest.ensures

-- an array of one place
one : (c : Start) → length c.args.state.held ≡ 1
one c = c.well_formed.0.1.1.0.1.0.1

pub returns-then-piece-eq0 : goal.returns-then-piece-eq0
returns-then-piece-eq0 c =
    let a = c.args in
    let at = goal.at.returns-then-piece-eq0 c in
    still a.state (one at.Start) (tests at.Start) a.piece.now a.out.now a.list.now c.if-piece-eq0.true

-- the segment has one unit or two, and the piece has the second
few : (c : After-size-size) → let a = c.args in
    Sound a.state → Admits unit_decoding a.state (length a.piece.now) (length a.list.now)
    → (1 ≤ c.size-size.result) × (c.size-size.result ≤ 2)
few c tests may =
    let a = c.args in
    both-few a.state a.piece.now a.list.now tests may c.if-state-eq0.false c.if-piece-eq0.false
    c.segment-seg.result c.segment-seg.ensures c.size-size.result c.size-size.ensures

has : (c : After-size-size) → let a = c.args in
    Sound a.state → Admits unit_decoding a.state (length a.piece.now) (length a.list.now)
    → c.size-size.result - 1 ≤ length a.piece.now
has c tests may =
    let a = c.args in
    piece-has a.state a.piece.now a.list.now tests may c.if-state-eq0.false c.if-piece-eq0.false
    c.segment-seg.result c.segment-seg.ensures c.size-size.result c.size-size.ensures

pub overflow_sub-from : goal.overflow_sub-from
overflow_sub-from c =
    let at = goal.at.overflow_sub-from c in
    let i = (few c (tests at.Start) (may at.Start)).0 in search rules

pub slice_bounds-seam-end : goal.slice_bounds-seam-end
slice_bounds-seam-end c = let at = goal.at.slice_bounds-seam-end c in (few c (tests at.Start) (may at.Start)).1

pub slice_bounds-feed_rest-end-2 : goal.slice_bounds-feed_rest-end-2
slice_bounds-feed_rest-end-2 c =
    let a = c.args in
    let at = goal.at.slice_bounds-feed_rest-end-2 c in
    sym (both_long a.state a.piece.now a.list.now (tests at.Start) (may at.Start) c.if-state-eq0.false c.if-piece-eq0.false
    c.segment-seg.result c.segment-seg.ensures c.size-size.result c.size-size.ensures)

pub offset_bounds-piece-from : goal.offset_bounds-piece-from
offset_bounds-piece-from c =
    let at = goal.at.offset_bounds-piece-from c in
    let i = (few at.After-size-size (tests at.Start) (may at.Start)).1 in search rules

pub slice_bounds-feed_rest-count : goal.slice_bounds-feed_rest-count
slice_bounds-feed_rest-count c =
    let at = goal.at.slice_bounds-feed_rest-count c in
    let i = has at.After-size-size (tests at.Start) (may at.Start) in search rules

pub slice_bounds-feed_rest-start : goal.slice_bounds-feed_rest-start
slice_bounds-feed_rest-start c =
    let at = goal.at.slice_bounds-feed_rest-start c in
    let i = has at.After-size-size (tests at.Start) (may at.Start) in search rules

pub feed_rest-requires-2 : goal.feed_rest-requires-2
feed_rest-requires-2 c =
    let a = c.args in
    let at = goal.at.feed_rest-requires-2 c in
    both-rests a.state a.piece.now a.list.now (tests at.Start) (may at.Start) c.if-state-eq0.false c.if-piece-eq0.false
    c.segment-seg.result c.segment-seg.ensures c.size-size.result c.size-size.ensures

pub returns : goal.returns
returns c =
    let a = c.args in
    let at = goal.at.returns c in
    subst (λ (s : State Log). Answers unit_decoding a.state (a.state.taken + length a.piece.now) s a.out.now a.list.now
    c.feed_rest-2.new.out c.feed_rest-2.new.list (told_written c.feed_rest-2.result.answer) c.feed_rest-2.result.state)
    (both-fed a.state a.piece.now a.list.now (tests at.Start) (may at.Start) c.if-state-eq0.false c.if-piece-eq0.false
    c.segment-seg.result c.segment-seg.ensures c.size-size.result c.size-size.ensures)
    c.feed_rest-2.ensures
