-- The places that are stored are the form of what is passed; and the page can hold the rest.
use Prim.Native.Nat.{◌<◌}
use mathlib.Core.Path.{◌≡◌, sym, ap, ◌∙◌}
use lib.ListN.{length, length-drop}
use native.Mathlib.Omega.{arith}
use Rattle.terms.proofs.WalkBySegments.{part_is}
use Rattle.terms.proofs.WalkWrites.{Met, met, wrote-start}
use Rattle.utf8.specs.Scalar.{utf8}
use Rattle.utf8.proofs.FaithfulForm.{utf8-faithful}
use Rattle.page.specs.Paged.{place_of, paged}
use Rattle.convert_from_utf8.proofs.PlaceFound.{in-place}
use Rattle.convert_from_utf8.proofs.PlacesWalk.{fits-has, fits-behind, place-room, place-stored, places}
use Rattle.convert_from_utf8.proofs.pages.Table.put_some.Goals.{After-first_point-p, After-unwrap-place}
use Rattle.convert_from_utf8.proofs.pages.Table.put_some.Goals as goal

pub loop-at-init : goal.loop-at-init
loop-at-init c = (wrote-start utf8 (paged c.args.self.now.numbers) c.args.text.now c.args.out.now, c.requires.text_nonzero.1)

pub first_point-p-requires : goal.first_point-p-requires
first_point-p-requires c =
    let t = c.args.text.now in
    let at = c.loop-at.at in
    (omega (arith, ap length (part_is t at) ∙ length-drop at t, c.loop-at-test.true, c.min-stop.ensures), rw (part_is t at) c.loop-at.invariant.1.0)

-- the code point that was met
here : (c : After-first_point-p)
    → Met utf8 c.args.text.now c.loop-at.at c.first_point-p.result.size c.first_point-p.result.number
here c =
    met utf8-faithful c.args.text.now c.loop-at.at (omega (arith, c.loop-at-test.true, c.min-stop.ensures)) _ _ c.first_point-p.ensures

-- there is a place for it
roomy : (c : After-first_point-p) → c.loop-at.put < length c.loop-at.out
roomy c =
    place-room c.args.self.now.numbers c.args.text.now c.args.out.now c.requires.text_in_bounds c.loop-at.out c.loop-at.at c.loop-at.put c.loop-at.invariant.0 _ _ (here c)

pub unwrap-place-requires : goal.unwrap-place-requires
unwrap-place-requires c =
    let table = c.args.self.now.numbers in
    let h = fits-has table c.args.text.now c.loop-at.at _ _ (here (goal.at.unwrap-place-requires c).After-first_point-p) c.loop-at.invariant.1 in
    rw (c.place_of.ensures, h)

-- its place
placed : (c : After-unwrap-place)
    → (c.unwrap-place.result < length c.args.self.now.numbers) × (c.unwrap-place.result ≡ place_of c.first_point-p.result.number c.args.self.now.numbers)
placed c =
    in-place c.first_point-p.result.number c.args.self.now.numbers c.unwrap-place.result (sym c.unwrap-place.ensures ∙ c.place_of.ensures)

pub overflow_cast-out : goal.overflow_cast-out
overflow_cast-out c = omega (arith, (placed (goal.at.overflow_cast-out c).After-unwrap-place).0, c.args.self.now.is_page.long)

pub bounds-out-put : goal.bounds-out-put
bounds-out-put c = roomy (goal.at.bounds-out-put c).After-first_point-p

pub overflow_add-put : goal.overflow_add-put
overflow_add-put c =
    omega (arith, roomy (goal.at.overflow_add-put c).After-first_point-p, c.loop-at.invariant.0.long, c.well_formed)

pub overflow_add-at : goal.overflow_add-at
overflow_add-at c =
    omega (arith, (here (goal.at.overflow_add-at c).After-first_point-p).inside, c.well_formed)

pub loop-at-smaller : goal.loop-at-smaller
loop-at-smaller c = let m = here (goal.at.loop-at-smaller c).After-first_point-p in omega (arith, m.inside, m.some)

pub loop-at-preserved : goal.loop-at-preserved
loop-at-preserved c =
    let table = c.args.self.now.numbers in
    let text = c.args.text.now in (
      rw (placed (goal.at.loop-at-preserved c).After-unwrap-place).1 (place-stored table text c.args.out.now c.requires.text_in_bounds c.loop-at.out c.loop-at.at c.loop-at.put c.loop-at.invariant.0 _ _ (here (goal.at.loop-at-preserved c).After-first_point-p)),
      fits-behind table text c.loop-at.at _ _ (here (goal.at.loop-at-preserved c).After-first_point-p) c.loop-at.invariant.1,
    )

pub shape_of-out : goal.shape_of-out
shape_of-out c = c.loop-at.invariant.0.long

pub returns : goal.returns
returns c =
    places c.args.self.now.numbers c.args.text.now c.args.out.now c.loop-at.out c.loop-at.at c.loop-at.put c.loop-at.invariant.0
    (omega (arith, c.loop-at-test.false, c.min-stop.ensures, c.requires.text_nonzero.0)) c.loop-at.invariant.1
