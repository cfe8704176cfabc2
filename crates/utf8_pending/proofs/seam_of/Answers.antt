-- `seam_of` meets its contract: four bytes in their places.
use Prim.Native.Nat.{◌+◌, min, ◌≤◌}
use mathlib.Core.Path.{◌≡◌}
use mathlib.Core.List.{[], ◌∷◌, ◌++◌}
use lib.ListN.{length, take}
use native.Mathlib.Omega.{arith}
use Rattle.terms.specs.Limits.{most_pending}
use Rattle.utf8_pending.specs.Tail.{four}
use Rattle.utf8_pending.proofs.HeldInPlaces.{take_min, joined-size, four-places}
use Rattle.utf8_pending.proofs.seam_of.Goals.{Start}
use Rattle.utf8_pending.proofs.seam_of.Goals as goal

-- an array has its length
three : (c : Start) → length c.args.held ≡ most_pending
three c = c.well_formed.0.1.0.1

pub returns : goal.returns
returns c =
    let held = c.args.held in
    let piece = c.args.piece.now in
    let k = c.min-k.result in
    let m : k ≡ min (length held) c.args.n = omega (arith, c.min-k.ensures, three (goal.at.returns c).Start) in
    let e : take k held ≡ take c.args.n held = rw m (take_min c.args.n held) in
    let h : k ≤ most_pending = omega (arith, c.min-k.ensures) in
    let j₁ = c.joined in
    let j₂ = c.joined-2 in
    let j₃ = c.joined-3 in
    let j₄ = c.joined-4 in
    let b : j₁.result ∷ j₂.result ∷ j₃.result ∷ j₄.result ∷ [] ≡ take 4 (four (take k held) piece ++ 0 ∷ 0 ∷ 0 ∷ 0 ∷ [])
    = rw (j₁.ensures, j₂.ensures, j₃.ensures, j₄.ensures) (four-places (take k held ++ piece)) in
    let z : k + c.min.result ≡ length (four (take k held) piece) = rw c.min.ensures (joined-size held piece k (three (goal.at.returns c).Start) h) in
    rw (← e) (λ i. record { bytes = b i; size = z i })
