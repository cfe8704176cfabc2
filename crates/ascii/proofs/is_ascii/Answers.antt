-- The largest of a block's bytes is below 0x80 exactly if they all are.
use mathlib.Core.Path.{◌≡◌}
use Prim.Native.Nat.{max}
use borrow.Author.Tests.{lt-ltb, le-ltb, le-leb, lt-leb}
use native.Mathlib.Omega.{arith}
use Rattle.std.proofs.Common.{rules}
use Rattle.std.specs.List.{fold}
use Rattle.theory.proofs.Cases.{under}
use Rattle.ascii.specs.Ascii.{leading}
use Rattle.ascii.proofs.Leading.{largest-low, low_largest}
use Rattle.ascii.proofs.is_ascii.Goals as goal

pub returns : goal.returns
returns c =
    let text = c.args.block.now in
    let top = fold max 0 text in
    let e : c.fold.result ≡ top = search rules in
    under (leading text) 64
    (λ t. rw (e, lt-leb 64 (leading text) t) (le-ltb top 0x80 (under top 0x80 (λ u. absurd (omega (arith, largest-low text 0 u, c.told-block))) (λ u. u))))
    (λ t. rw (e, le-leb 64 (leading text) t) (lt-ltb top 0x80 (low_largest text 0 (omega arith) (omega (arith, c.told-block)))))
