-- `seam_with` meets its contract: nothing is pending, or the seam is made.
use mathlib.Core.Path.{◌≡◌, sym, ap, ◌∙◌}
use lib.ListN.{length, take, length-take}
use native.Mathlib.Omega.{arith}
use Rattle.terms.specs.Limits.{most_pending}
use Rattle.utf8_pending.specs.Tail.{placed}
use Rattle.utf8_pending.proofs.SeamIsFirst.{seamed-some}
use Rattle.utf8_pending.proofs.seam_with.Goals as goal

pub returns-then-n-eq0 : goal.returns-then-n-eq0
returns-then-n-eq0 c = rw c.if-n-eq0.true

pub returns : goal.returns
returns c =
    let a = c.args in
    let three : length a.held ≡ most_pending = c.well_formed.0.1.0.1 in
    let some : length (take a.n a.held) ≡ 0 → ⊥ = λ z. c.if-n-eq0.false (omega (arith, z, three, length-take a.n a.held)) in
    c.seam_of.ensures ∙ ap placed (sym (seamed-some (take a.n a.held) a.piece.now some))
