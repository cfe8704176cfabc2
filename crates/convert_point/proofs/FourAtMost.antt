-- No code point takes more than four places, in any form.
use Prim.Native.Nat.{ℕ, ◌≤◌}
use lib.ListN.{length}
use lib.Dec.{ltb}
use native.Mathlib.Omega.{arith}
use Rattle.theory.proofs.Cases.{split}
use Rattle.convert_point.specs.Target.{form_of}
use Rattle.convert_point.specs.declared.Target.{Target}
use Rattle.convert_point.specs.declared.Target.TheVariants.{Bytes, Units, Points}

pub at-most-four : (t : Target) (c : ℕ) → length ((form_of t).write c) ≤ 4
at-most-four Bytes c = split (ltb c 0x80)
    (λ e. rw e (omega arith))
    (λ e. rw e (split (ltb c 0x800) (λ f. rw f (omega arith)) (λ f. rw f (split (ltb c 0x10000) (λ g. rw g (omega arith)) (λ g. rw g (omega arith))))))
at-most-four Units c = split (ltb c 0x10000) (λ e. rw e (omega arith)) (λ e. rw e (omega arith))
at-most-four Points c = omega arith
