-- `before` meets its contract: at no place before the least the bytes are not apart.
use mathlib.Core.Path.{◌≡◌}
use Prim.Native.Nat.{◌≤◌}
use native.Mathlib.Omega.{arith}
use borrow.Author.Count.{below_more}
use Rattle.find.specs.Inside.Compared.{at}
use Rattle.find.proofs.ahead.before.Goals as goal

pub loop-k-init : goal.loop-k-init
loop-k-init c = (omega arith, omega arith, λ j h. absurd (omega arith))

pub loop-k-preserved : goal.loop-k-preserved
loop-k-preserved c =
    let t = c.args in (
      omega arith,
      omega (arith, c.min-least.ensures, c.loop-k.invariant),
      below_more (λ j. at t.first.now j ≡ t.a → at t.second.now j ≡ t.b → c.min-least.result ≤ j) c.loop-k.k
          (λ j h e f. omega (arith, c.loop-k.invariant.2 j h e f, c.min-least.ensures))
          (λ e f. omega (arith, c.if_same.ensures (c.differ-differs.ensures e f), c.min-least.ensures)),
    )

pub returns : goal.returns
returns c =
    let l = c.loop-k in
    ((λ k h e f. omega (arith, l.invariant.2 k (omega (arith, l.invariant)) e f)), l.invariant.1)
