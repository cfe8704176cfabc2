-- The unit that is left, or 0.
use mathlib.Core.Path.{◌≡◌, refl, ap, ◌∙◌}
use Prim.Native.Nat.{ℕ}
use mathlib.Core.List.{List, [], ◌∷◌, ◌++◌}
use lib.ListN.{take}
use Rattle.std.specs.Prelude.{Option, unwrap_or}
use Rattle.std.specs.List.{slice_get}
use Rattle.decoder_from_utf16.proofs.keep.Goals as goal

first-or : (text : List ℕ) → unwrap_or (slice_get text 0) 0 ∷ [] ≡ take 1 (text ++ 0 ∷ [])
first-or [] = refl
first-or (x ∷ xs) = refl

pub returns : goal.returns
returns c =
    let e = c.unwrap_or.ensures ∙ ap (λ (q : Option ℕ). unwrap_or q 0) (c.copied.ensures ∙ c.first.ensures.value) in
    rw (← first-or c.args.left.now, e)
