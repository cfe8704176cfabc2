-- The page has each code point passed; none are passed only where it lacks the first.
use mathlib.Core.Path.{sym, ap, ◌∙◌}
use lib.ListN.{length, length-drop}
use native.Mathlib.Omega.{arith}
use Rattle.terms.proofs.WalkBySegments.{part_is}
use Rattle.terms.proofs.WalkWrites.{Met, met}
use Rattle.utf8.specs.Scalar.{utf8}
use Rattle.utf8.proofs.FaithfulForm.{utf8-faithful}
use Rattle.convert_from_utf8.proofs.PlaceFound.{has-place, lacks-place}
use Rattle.convert_from_utf8.proofs.HeldWalk.{reached-start, reached-next, met-lacking}
use Rattle.convert_from_utf8.proofs.pages.Table.held_some.Goals.{After-first_point-p}
use Rattle.convert_from_utf8.proofs.pages.Table.held_some.Goals as goal

pub loop-passed-init : goal.loop-passed-init
loop-passed-init c = reached-start c.args.self.now.numbers c.args.text.now c.requires.text_nonzero.1

pub first_point-p-requires : goal.first_point-p-requires
first_point-p-requires c =
    let t = c.args.text.now in
    let at = c.loop-passed.passed in
    (omega (arith, ap length (part_is t at) ∙ length-drop at t, c.loop-passed-test.true, c.min-stop.ensures), rw (part_is t at) c.loop-passed.invariant.behind)

-- the code point that was met
here : (c : After-first_point-p)
    → Met utf8 c.args.text.now c.loop-passed.passed c.first_point-p.result.size c.first_point-p.result.number
here c =
    met utf8-faithful c.args.text.now c.loop-passed.passed (omega (arith, c.loop-passed-test.true, c.min-stop.ensures)) _ _ c.first_point-p.ensures

pub returns-in_default : goal.returns-in_default
returns-in_default c =
    let table = c.args.self.now.numbers in
    record {
      reached = c.loop-passed.invariant;
      ended = λ e other at. rw e at (met-lacking table c.args.text.now c.loop-passed.passed _ _ (here (goal.at.returns-in_default c).After-first_point-p) (lacks-place c.first_point-p.result.number table (sym c.in_default.is ∙ c.place_of.ensures)) other at);
    }

pub overflow_add-passed : goal.overflow_add-passed
overflow_add-passed c =
    omega (arith, (here (goal.at.overflow_add-passed c).After-first_point-p).inside, c.well_formed)

pub loop-passed-smaller : goal.loop-passed-smaller
loop-passed-smaller c = let m = here (goal.at.loop-passed-smaller c).After-first_point-p in omega (arith, m.inside, m.some)

pub loop-passed-preserved : goal.loop-passed-preserved
loop-passed-preserved c =
    let table = c.args.self.now.numbers in
    reached-next table c.args.text.now c.loop-passed.passed _ _ (here (goal.at.loop-passed-preserved c).After-first_point-p) c.loop-passed.invariant
    (has-place c.first_point-p.result.number table _ (sym c.in-Some.is ∙ c.place_of.ensures))

pub returns : goal.returns
returns c =
    record { reached = c.loop-passed.invariant; ended = λ e. absurd (omega (arith, e, c.loop-passed-test.false, c.min-stop.ensures, c.requires.text_nonzero.0)) }
