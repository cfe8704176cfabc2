-- A byte below 0x80 is its own unit, and one below 0xE0 has one byte behind it.
use mathlib.Core.Path.{sym, ap, ◌∙◌}
use mathlib.Core.List.{[], ◌∷◌}
use Prim.Native.Nat.{ℕ, suc}
use native.Mathlib.Omega.{arith}
use Rattle.convert_from_utf8.proofs.SpelledByKind.{wants-none, wants-one, one-is, two_is}
use Rattle.convert_from_utf8.proofs.spelling.short_sequence.Goals as goal

pub returns-then-a-lt128 : goal.returns-then-a-lt128
returns-then-a-lt128 c =
    let a = c.args in
    (omega arith, ap suc (sym (wants-none a.a c.if-a-lt128.true)), λ d e. (one-is a.a a.b d e c.if-a-lt128.true).1)

pub returns-then-a-lt224 : goal.returns-then-a-lt224
returns-then-a-lt224 c =
    let a = c.args in (
      omega arith,
      ap suc (sym (wants-one a.a c.if-a-lt128.false c.if-a-lt224.true)),
      λ d e. (two_is a.a a.b d e c.if-a-lt128.false c.if-a-lt224.true).1 ∙ ap (λ (u : ℕ). u ∷ []) (sym c.of_two.ensures),
    )
