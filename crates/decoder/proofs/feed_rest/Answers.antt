-- `feed_rest` meets its contract: the need first, then the segment at the seam, then those of the text.
use Prim.Native.Nat.{ℕ, ◌+◌, ◌-◌, ◌≤◌}
use mathlib.Core.Path.{◌≡◌, sym, ap, ◌∙◌}
use mathlib.Core.List.{List}
use lib.ListN.{length, take, drop}
use native.Mathlib.Omega.{arith}
use Rattle.theory.specs.Reader.{parts}
use Rattle.terms.proofs.WalkBySegments.{part_is}
use Rattle.utf8.specs.Bytes.{bytes}
use Rattle.decoder_shared.specs.Inside.Steps.{told_of}
use Rattle.decoder.specs.Inside.Acting.{need, places, work, acted}
use Rattle.decoder.specs.Inside.Steps.{beginning, keeping}
use Rattle.decoder_shared.proofs.SettledText.{settled-inside, settled-left}
use Rattle.decoder.proofs.SettledPlaces.{lack-some, lack-none}
use Rattle.decoder.proofs.FeedAnswers.{rests-small, needs-few, seam-ready, rest-ready, behind-short, behind-done}
use Rattle.decoder.proofs.feed_rest.Goals.{After-act-first, After-walk-all, In_default}
use Rattle.decoder.proofs.feed_rest.Goals as goal

pub lacking-requires : goal.lacking-requires
lacking-requires c =
    let a = c.args in (
      omega (arith, needs-few a.state a.seg a.seam.now a.rest.now a.list.now c.requires),
      rests-small a.state a.seg a.seam.now a.rest.now a.list.now c.requires,
    )

pub returns-in-Some : goal.returns-in-Some
returns-in-Some c =
    let a = c.args in
    let s = lack-some _ _ c.in-Some.needed (sym c.in-Some.is ∙ c.lacking.ensures) in
    behind-short a.state a.seg a.seam.now a.rest.now a.list.now c.requires a.taken a.out.now _ s.0 s.1

-- the output has enough places
enough : (c : In_default) → let a = c.args in places a.seg + need (parts bytes a.rest.now).done ≤ length a.out.now
enough c = lack-none _ _ (sym c.in_default.is ∙ c.lacking.ensures)

pub act-first-requires : goal.act-first-requires
act-first-requires c =
    let a = c.args in
    rw c.begin.ensures
    (seam-ready a.state a.seg a.seam.now a.rest.now a.list.now c.requires a.taken a.out.now (enough (goal.at.act-first-requires c).In_default))

-- the segment at the seam has acted
seam-acts : (c : After-act-first)
    → let a = c.args in
    work c.act-first.result c.act-first.new.out c.act-first.new.list
    ≡ acted a.state.room (told_of a.seg a.seam.now) (work (beginning a.state) a.out.now a.list.now)
seam-acts c = rw c.begin.ensures at c.act-first.ensures

pub walk-all-requires : goal.walk-all-requires
walk-all-requires c =
    let a = c.args in
    rest-ready a.state a.seg a.seam.now a.rest.now a.list.now c.requires a.taken a.out.now (enough (goal.at.walk-all-requires c).In_default)
    (work c.act-first.result c.act-first.new.out c.act-first.new.list) (seam-acts (goal.at.walk-all-requires c).After-act-first)

inside : (c : After-walk-all) → c.walk-all.result.size ≤ length c.args.rest.now
inside c = omega (arith, c.walk-all.ensures.bytes-are, settled-inside bytes c.args.rest.now)

left_is : (c : After-walk-all)
    → let rest = c.args.rest.now in
    let n = c.walk-all.result.size in
    take (length rest - n) (drop n rest) ≡ (parts bytes rest).left
left_is c =
    let rest = c.args.rest.now in
    part_is rest c.walk-all.result.size ∙ ap (λ (n : ℕ). drop n rest) c.walk-all.ensures.bytes-are ∙ settled-left bytes rest

pub slice_bounds-keep-count : goal.slice_bounds-keep-count
slice_bounds-keep-count c = inside (goal.at.slice_bounds-keep-count c).After-walk-all

pub slice_bounds-keep-start : goal.slice_bounds-keep-start
slice_bounds-keep-start c = inside (goal.at.slice_bounds-keep-start c).After-walk-all

pub returns : goal.returns
returns c =
    let a = c.args in
    behind-done a.state a.seg a.seam.now a.rest.now a.list.now c.requires a.taken a.out.now (enough (goal.at.returns c).In_default)
    (work c.act-first.result c.act-first.new.out c.act-first.new.list) (seam-acts (goal.at.returns c).After-act-first)
    (work c.walk-all.result.repair c.walk-all.new.out c.walk-all.new.list) c.walk-all.ensures.same
    c.keep.result (c.keep.ensures ∙ ap (λ (xs : List ℕ). keeping xs c.walk-all.result.repair.tally a.taken a.state.room) (left_is (goal.at.returns c).After-walk-all))
