-- `agree` meets its contract: what it has passed agrees.
use mathlib.Core.Path.{◌≡◌}
use Prim.Native.Nat.{◌+◌, ◌≤◌}
use native.Mathlib.Omega.{arith}
use borrow.Author.Count.{below_more}
use Rattle.find.specs.Inside.Compared.{at}
use Rattle.find.proofs.compare.agree.Goals as goal

pub loop-i-init : goal.loop-i-init
loop-i-init c = λ d a b. absurd (omega arith)

pub returns-then-entry-place : goal.returns-then-entry-place
returns-then-entry-place c =
    record { low = omega arith; same = λ d a b. c.loop-i.invariant d b a; other = λ h. c.if-entry-place.true }

pub loop-i-preserved : goal.loop-i-preserved
loop-i-preserved c =
    let a = c.args in
    below_more (λ d. a.from ≤ d → at a.entry.now (a.place + d) ≡ at a.needle.now d) c.loop-i.i c.loop-i.invariant (λ h. c.if-entry-place.false)

pub returns : goal.returns
returns c =
    record {
      low = omega (arith, c.max.ensures);
      same = λ d a b. c.loop-i.invariant d (omega (arith, c.max.ensures, c.loop-i-test.false)) a;
      other = λ h e. omega (arith, c.max.ensures);
    }
