-- `is_low` meets its contract: no byte is larger than the bits together.
use Prim.Native.Nat.{suc}
use mathlib.Core.Path.{subst}
use native.Mathlib.Omega.{arith}
use borrow.Author.Tests.{ltb-true}
use lib.ListN.{length}
use Rattle.std.proofs.Common.{rules}
use Rattle.std.proofs.lemmas.Fn.{fold_over, slice_gives, fronts}
use Rattle.utf8_scan.specs.Inside.Blocks.{Below}
use Rattle.utf8_scan.proofs.StandMore.{below_or, below_up}
use Rattle.utf8_scan.proofs.is_low.Goals as goal

pub returns : goal.returns
returns c =
    let below = subst (λ t. Below t (length t) (suc c.fold.result)) c.iter.ensures.rest
    (fold_over fronts (λ y. y.now) _ (λ ys all. Below ys (length ys) (suc all)) _ (λ ys a x b f' h k. let more = below_or ys a x.now h in search rules)
    _ _ _ _ (slice_gives c.iter.result) (λ k l. absurd (omega arith)) c.fold.ensures.ran) in
    λ e k l. below_up c.args.t.now (length c.args.t.now) c.fold.result 0x80 below (ltb-true _ _ e) k l
