-- Two numbers that the promise of a writer of one code point allows are equal, and they leave the same.
use mathlib.Core.Path.{◌≡◌, sym, ◌∙◌}
use Prim.Native.Nat.{ℕ}
use mathlib.Core.List.{List}
use Rattle.convert_point.specs.Puts.{Puts}

pub puts_once : {vs out out' out'' : List ℕ} {q r : ℕ} → Puts vs out out' q → Puts vs out out'' r → (q ≡ r) × (out' ≡ out'')
puts_once f g = (f.count ∙ sym g.count, f.output ∙ sym g.output)
