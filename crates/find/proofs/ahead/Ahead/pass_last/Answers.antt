-- `pass_last` meets its contract: a block that ends where the places end, or nothing.
use mathlib.Core.Path.{subst}
use Prim.Native.Nat.{◌+◌, ◌-◌}
use lib.ListN.{length}
use native.Mathlib.Omega.{arith}
use Rattle.find.specs.Inside.Compared.{Passed}
use Rattle.find.proofs.PlacesPassed.{passed_none, passed-more}
use Rattle.find.proofs.ahead.Ahead.pass_last.Goals as goal

pub returns-then-apart : goal.returns-then-apart
returns-then-apart c =
    let a = c.args in
    let end = length a.entry.now - length a.needle.now + 1 in
    subst (Passed a.entry.now a.needle.now a.at) (omega (arith, c.if-end-lt16.false))
    (passed-more _ _ _ a.at (end - 16) a.self.first a.self.second 16 (passed_none _ _ _ c.requires.needle_in_bounds)
    (omega (arith, c.if-end-at-ge16.false)) (omega (arith, c.requires)) (omega (arith, c.requires, c.if-end-lt16.false)) c.requires.rare.0.first c.requires.rare.0.second
    (c.apart.ensures c.if-apart.true))
