-- Two answers that the promise about a block allows are equal, and they leave the same.
use mathlib.Core.Path.{◌≡◌, refl, sym, ap, ◌∙◌}
use Prim.Native.Nat.{ℕ, ◌<◌}
use mathlib.Core.List.{List}
use native.Mathlib.Omega.{arith}
use Rattle.std.proofs.Common.{Option, Some, None, unwrap_or, IfSome}
use Rattle.convert_utf16_blocks.specs.Block.{no_part, Counts, Puts, CountsSome, PutsSome}
use Rattle.convert_utf16_blocks.specs.declared.Part.{Part}

pub counts_once : {units : List ℕ} {q r : Part} → Counts units q → Counts units r → q ≡ r
counts_once f g =
    let a = f.read_is ∙ sym g.read_is in
    let b = f.places_is ∙ sym g.places_is in
    λ i. record { read = a i; places = b i }

pub puts_once : {units out out' out'' : List ℕ} {q r : Part} → Puts units out out' q → Puts units out out'' r → (q ≡ r) × (out' ≡ out'')
puts_once f g = (counts_once f.counts g.counts, f.output ∙ sym g.output)

-- a part that reads some units is not none
some_once : (q r : Option Part) → IfSome q (λ p. 0 < p.read) → IfSome r (λ p. 0 < p.read) → unwrap_or q no_part ≡ unwrap_or r no_part → q ≡ r
some_once None None a b e = refl
some_once None (Some r) a b e = let z : 0 ≡ r.read = ap (λ (p : Part). p.read) e in absurd (omega arith)
some_once (Some q) None a b e = let z : q.read ≡ 0 = ap (λ (p : Part). p.read) e in absurd (omega arith)
some_once (Some q) (Some r) a b e = ap Some e

pub counts_some_once : {units : List ℕ} {q r : Option Part} → CountsSome units q → CountsSome units r → q ≡ r
counts_some_once {q = q} {r = r} f g = some_once q r f.some g.some (counts_once f.told g.told)

pub puts_some_once : {units out out' out'' : List ℕ} {q r : Option Part} → PutsSome units out out' q → PutsSome units out out'' r
    → (q ≡ r) × (out' ≡ out'')
puts_some_once {q = q} {r = r} f g = (some_once q r f.some g.some (counts_once f.told.counts g.told.counts), f.told.output ∙ sym g.told.output)
