-- `number_of` meets its contract: each return has the bits of as many bytes as its test says.
use mathlib.Core.Path.{◌≡◌}
use Prim.Native.Nat.{ℕ}
use lib.ListN.{take}
use native.Mathlib.Omega.{arith}
use Rattle.terms.proofs.PointTold.{elements, value_of}
use Rattle.utf8.specs.Scalar.{number}
use Rattle.utf8.proofs.number_of.Goals.{Start}
use Rattle.utf8.proofs.number_of.Goals as goal

-- what the first k bytes stand for; below, w, v and u are where the first, second and third byte was read
of-first : (c : Start) (k : ℕ) → c.args.n ≡ k → number (elements c.args.text.now 0 k) ≡ number (take c.args.n c.args.text.now)
of-first c k e = value_of number c.args.text.now c.args.n k e (omega arith)

pub returns-then-n-eq1 : goal.returns-then-n-eq1
returns-then-n-eq1 c = rw c.wide-a.ensures (of-first (goal.at.returns-then-n-eq1 c).Start 1 c.if-n-eq1.true)

pub returns-then-n-eq2 : goal.returns-then-n-eq2
returns-then-n-eq2 c =
    rw (c.wide-a.ensures, c.wide-b.ensures) (of-first (goal.at.returns-then-n-eq2 c).Start 2 c.if-n-eq2.true)

pub returns-then-n-eq3 : goal.returns-then-n-eq3
returns-then-n-eq3 c =
    rw (c.wide-a.ensures, c.wide-b.ensures, c.wide-c.ensures) (of-first (goal.at.returns-then-n-eq3 c).Start 3 c.if-n-eq3.true)

pub returns : goal.returns
returns c =
    let e : c.args.n ≡ 4 = omega (arith, c.requires) in
    rw (c.wide-a.ensures, c.wide-b.ensures, c.wide-c.ensures, c.wide-d.ensures) (of-first (goal.at.returns c).Start 4 e)
