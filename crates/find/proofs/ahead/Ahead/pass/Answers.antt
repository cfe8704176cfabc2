-- `pass` meets its contract: each block passes over places.
use Prim.Native.Nat.{◌+◌}
use native.Mathlib.Omega.{arith}
use Rattle.find.specs.Inside.Compared.{Passed}
use Rattle.find.proofs.PlacesPassed.{passed_none, passed-more}
use Rattle.find.proofs.ahead.Ahead.pass.Goals.{After-block-n}
use Rattle.find.proofs.ahead.Ahead.pass.Goals as goal

pub loop-at-init : goal.loop-at-init
loop-at-init c =
    passed_none _ _ _ c.requires.needle_in_bounds.0

-- behind a block
passed : (c : After-block-n)
    → let a = c.args in
    Passed a.entry.now a.needle.now a.place (c.loop-at.at + c.block-n.result)
passed c =
    passed-more _ _ _ c.loop-at.at c.loop-at.at c.args.self.first c.args.self.second c.block-n.result c.loop-at.invariant (omega arith) (omega arith)
    (omega (arith, c.block-n.ensures.1, c.requires)) c.requires.rare.0.first c.requires.rare.0.second c.block-n.ensures.0

pub returns-then-n-size : goal.returns-then-n-size
returns-then-n-size c = passed (goal.at.returns-then-n-size c).After-block-n

pub loop-at-preserved : goal.loop-at-preserved
loop-at-preserved c = passed (goal.at.loop-at-preserved c).After-block-n

pub returns : goal.returns
returns c = c.loop-at.invariant
