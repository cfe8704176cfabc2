-- The bits of the units passed are below 0x80 exactly if the units are.
use Rattle.std.proofs.Common.{◌≡◌, ℕ, List, refl, nat_lt, bit_or, rules}
use Rattle.utf16.proofs.UnitsFolded.{folded}
use Rattle.convert_utf16_blocks.specs.Block.{low}
use Rattle.convert_utf16_blocks.proofs.LowUnits.{low-next}
use Rattle.convert_utf16_blocks.proofs.are_low.Goals as goal

pub returns : goal.returns
returns g c =
    rw (← c.iter.ensures.rest)
    (folded _ tt (λ (ys : List ℕ) (bits : ℕ). nat_lt bits 0x80 ≡ low ys) c.iter.result _ c.fold-bits.result c.fold-bits.ensures.ran refl
    (λ ys b x d f' e k. let s : d ≡ bit_or b x.now = search rules in (rw s (low-next ys b x.now e), refl)))
