-- The first place of a number in a table, and the only one in a page.
use mathlib.Core.Path.{◌≡◌, refl}
use Prim.Native.Nat.{ℕ, zero, suc, ◌≤◌, ◌<◌}
use mathlib.Core.Bool.{true, false}
use mathlib.Core.List.{List, [], ◌∷◌}
use lib.ListN.{length, get_or}
use lib.Dec.{eqb}
use borrow.Author.Tests.{ltb-true, lt-ltb, eqb-true, eq-eqb}
use native.Mathlib.Omega.{arith}
use Rattle.theory.proofs.Cases.{split}
use Rattle.page.specs.Paged.{place_of, has, IsPage}

-- a number stands at its place
pub stands : (c : ℕ) (table : List ℕ) → place_of c table < length table → get_or table (place_of c table) 0 ≡ c
stands c [] h = absurd (omega arith)
stands c (n ∷ ns) h = split (eqb n c)
    (λ e. rw e (eqb-true n c e))
    (λ e. let l : suc (place_of c ns) < suc (length ns) = rw e at h in rw e (stands c ns (omega arith)))

-- which comes no later than any other at which it stands
pub no_later : (c : ℕ) (table : List ℕ) (b : ℕ) → b < length table → get_or table b 0 ≡ c → place_of c table ≤ b
no_later c [] b h e = absurd (omega arith)
no_later c (n ∷ ns) zero h e = rw (eq-eqb n c e) (omega arith)
no_later c (n ∷ ns) (suc b) h e = split (eqb n c)
    (λ t. rw t (omega arith))
    (λ t. rw t (omega (arith, no_later c ns b (omega arith) e)))

pub stands-has : (c : ℕ) (table : List ℕ) (b : ℕ) → b < length table → get_or table b 0 ≡ c → has table c ≡ true
stands-has c table b h e = lt-ltb (place_of c table) (length table) (omega (arith, no_later c table b h e))

pub has-stands : (c : ℕ) (table : List ℕ) → has table c ≡ true → get_or table (place_of c table) 0 ≡ c
has-stands c table h = stands c table (ltb-true (place_of c table) (length table) h)

-- a number that stands nowhere is lacking
pub lacks : (c : ℕ) (table : List ℕ) → ((b : ℕ) → b < length table → get_or table b 0 ≡ c → ⊥) → has table c ≡ false
lacks c table nowhere = split (has table c) (λ t. absurd (nowhere (place_of c table) (ltb-true _ _ t) (has-stands c table t))) (λ t. t)

-- in a page no number stands twice
pub only-place : (table : List ℕ) → IsPage table → (b : ℕ) → b < 256 → place_of (get_or table b 0) table ≡ b
only-place table p b h =
    let c : ℕ = get_or table b 0 in
    let l : place_of c table ≤ b = no_later c table b (omega (arith, p.long)) refl in
    p.apart (place_of c table) b (omega arith) h (stands c table (omega (arith, p.long)))
