-- `run::step_back` meets its contract: each test is the definition's, and what is taken off was counted.
use Prim.Native.Nat.{◌+◌, ◌-◌, ◌≤◌}
use mathlib.Core.Path.{◌≡◌, sym, ◌∙◌}
use lib.ListN.{length, get_or, drop}
use borrow.Author.Tests.{le-leb, lt-leb, eq-eqb, ne_eqb}
use native.Mathlib.Omega.{arith}
use Rattle.terms.proofs.WalkBySegments.{part_is}
use Rattle.utf8_count.specs.Counts.{four_of, end_first}
use Rattle.index_build.specs.Inside.Summed.{boundary}
use Rattle.index_build.proofs.BackToBoundary.{covered}
use Rattle.index_build.proofs.BoundaryBefore.{Bound, boundary-bound}
use borrow.Author.Rules.{rules}
use Rattle.index_build.proofs.run.step_back.Goals.{After-boundary-b, After-end_first, Else-b-n}
use Rattle.index_build.proofs.run.step_back.Goals as goal

pub returns-then-run-n : goal.returns-then-run-n
returns-then-run-n c = let a = c.args in rw (le-leb a.run a.n c.if-run-n.true)

pub boundary-b-requires : goal.boundary-b-requires
boundary-b-requires c = (omega (arith, c.if-run-n.false, c.requires.there), c.requires.first (omega (arith, c.if-run-n.false)))

pub returns-then-b-n : goal.returns-then-b-n
returns-then-b-n c =
    let a = c.args in
    let b : boundary a.text.now a.n ≡ a.n = sym c.boundary-b.ensures ∙ c.if-b-n.true in
    rw (lt-leb a.run a.n c.if-run-n.false, eq-eqb _ _ b)

-- the boundary that was found
found : (c : After-boundary-b) → let a = c.args in Bound a.text.now a.n c.boundary-b.result
found c =
    rw c.boundary-b.ensures (boundary-bound c.args.text.now (c.requires.first (omega (arith, c.if-run-n.false))) c.args.n)

pub bounds-text-b : goal.bounds-text-b
bounds-text-b c =
    omega (arith, (found (goal.at.bounds-text-b c).After-boundary-b).order, c.if-run-n.false, c.requires.there)

pub overflow_sub-result : goal.overflow_sub-result
overflow_sub-result c = (found (goal.at.overflow_sub-result c).After-boundary-b).order

-- what was begun there was counted
counted : (c : Else-b-n)
    → let a = c.args in
    let b = c.boundary-b.result in
    (found : Bound a.text.now a.n b)
    → (a.n - b ≤ a.q.bytes) × (1 + four_of (get_or a.text.now b 0) ≤ a.q.units)
    × (1 ≤ a.q.points) × (end_first (drop b a.text.now) ≤ a.q.lines)
counted c found =
    covered c.args.text.now c.args.run c.args.n c.boundary-b.result c.requires.there c.if-run-n.false found
    (omega (arith, found.order, c.if-b-n.false)) c.args.q c.requires

pub overflow_sub-result-2 : goal.overflow_sub-result-2
overflow_sub-result-2 c =
    let f = found (goal.at.overflow_sub-result-2 c).After-boundary-b in
    (counted (goal.at.overflow_sub-result-2 c).Else-b-n f).0

pub overflow_sub-result-3 : goal.overflow_sub-result-3
overflow_sub-result-3 c =
    let f = found (goal.at.overflow_sub-result-3 c).After-boundary-b in
    rw c.units_from.ensures (counted (goal.at.overflow_sub-result-3 c).Else-b-n f).1

pub overflow_sub-result-4 : goal.overflow_sub-result-4
overflow_sub-result-4 c =
    let f = found (goal.at.overflow_sub-result-4 c).After-boundary-b in
    (counted (goal.at.overflow_sub-result-4 c).Else-b-n f).2

-- it lies in the text
inside : (c : After-boundary-b) → c.boundary-b.result ≤ length c.args.text.now
inside c = omega (arith, (found c).order, c.if-run-n.false, c.requires.there)

pub slice_bounds-end_first-count : goal.slice_bounds-end_first-count
slice_bounds-end_first-count c = inside (goal.at.slice_bounds-end_first-count c).After-boundary-b

pub slice_bounds-end_first-start : goal.slice_bounds-end_first-start
slice_bounds-end_first-start c = let i = inside (goal.at.slice_bounds-end_first-start c).After-boundary-b in search rules

-- whether a line would end behind it
ends : (c : After-end_first)
    → c.end_first.result ≡ end_first (drop c.boundary-b.result c.args.text.now)
ends c = rw part_is at c.end_first.ensures

pub overflow_sub-result-5 : goal.overflow_sub-result-5
overflow_sub-result-5 c =
    let f = found (goal.at.overflow_sub-result-5 c).After-boundary-b in
    rw (ends (goal.at.overflow_sub-result-5 c).After-end_first) (counted (goal.at.overflow_sub-result-5 c).Else-b-n f).3

pub returns : goal.returns
returns c =
    let a = c.args in
    let b = c.boundary-b.ensures in
    let n : boundary a.text.now a.n ≡ a.n → ⊥ = λ h. c.if-b-n.false (b ∙ h) in
    rw (ends (goal.at.returns c).After-end_first, c.units_from.ensures, b, lt-leb a.run a.n c.if-run-n.false, ne_eqb _ _ n)
