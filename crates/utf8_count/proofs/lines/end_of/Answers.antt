-- `end_of` meets its contract: its tests are the definition's, of which one at most holds.
use mathlib.Core.Path.{◌≡◌, ◌∙◌}
use Prim.Native.Nat.{ℕ}
use mathlib.Core.Bool.{not, ◌&&◌, ◌||◌}
use mir.Val.{bool_byte}
use lib.Dec.{eqb}
use borrow.Author.Tests.{eqb-true}
use Rattle.theory.proofs.Cases.{split}
use Rattle.utf8_count.specs.Counts.{end_of}
use Rattle.utf8_count.proofs.lines.end_of.Goals as goal

by_tests : (x y z : ℕ)
    → bool_byte (eqb x 0x0A || eqb x 0x0D && not (eqb y 0x0A) || eqb x 0xC2 && eqb y 0x85 || eqb x 0xE2 && eqb y 0x80 && (eqb z 0xA8 || eqb z 0xA9)) ≡ end_of x y z
unfolding end_of
by_tests x y z =
    split (eqb x 0x0A) (λ e. rw (eqb-true x 0x0A e))
    (λ a. split (eqb x 0x0D) (λ e. rw (eqb-true x 0x0D e) (split (eqb y 0x0A) (λ t. rw t) (λ t. rw t)))
    (λ b. split (eqb x 0xC2) (λ e. rw (eqb-true x 0xC2 e) (split (eqb y 0x85) (λ t. rw t) (λ t. rw t)))
    (λ c. split (eqb x 0xE2)
    (λ e. rw (eqb-true x 0xE2 e)
    (split (eqb y 0x80)
    (λ t. split (eqb z 0xA8) (λ u. rw (t, u)) (λ u. split (eqb z 0xA9) (λ v. rw (t, u, v)) (λ v. rw (t, u, v))))
    (λ t. rw t)))
    (λ d. rw (a, b, c, d)))))

pub returns : goal.returns
returns c = c.from.ensures ∙ by_tests c.args.x c.args.y c.args.z
