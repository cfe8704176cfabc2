-- A page has a number of which a byte is told to stand for it.
use mathlib.Core.Path.{◌≡◌, refl, sym, ◌∙◌}
use Prim.Native.Nat.{ℕ, suc}
use mathlib.Core.List.{List, [], ◌∷◌}
use lib.ListN.{length}
use lib.Dec.{eqb, ltb}
use borrow.Author.Tests.{ltb-true, ltb-false, lt-ltb, le-ltb}
use native.Mathlib.Omega.{arith}
use Rattle.std.specs.Prelude.{◌==◌}
use Rattle.std.specs.List.{list_any}
use Rattle.theory.proofs.Cases.{split}
use Rattle.page.specs.Paged.{place_of, has}
use Rattle.page.specs.Tables.{table_of}
use Rattle.demand_page.proofs.has.Goals as goal

less_on : (m n : ℕ) → ltb m n ≡ ltb (suc m) (suc n)
less_on m n = split (ltb m n)
    (λ e. e ∙ sym (lt-ltb (suc m) (suc n) (omega (arith, ltb-true m n e))))
    (λ e. e ∙ sym (le-ltb (suc m) (suc n) (omega (arith, ltb-false m n e))))

any_has : (c : ℕ) (table : List ℕ) → list_any (λ n. n == c) table ≡ has table c
any_has c [] = refl
any_has c (n ∷ ns) = split (eqb n c)
    (λ e. rw e (sym (lt-ltb 0 (suc (length ns)) (omega arith))))
    (λ e. rw e (any_has c ns ∙ less_on (place_of c ns) (length ns)))

pub returns : goal.returns
returns c =
    let a = c.args in
    c.stands.ensures ∙ rw c.numbers.ensures (any_has a.c (table_of a.page))
