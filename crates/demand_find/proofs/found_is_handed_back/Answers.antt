-- `found_is_handed_back` meets its contract: what is handed back is the entry from the match on, where the needle stands.
use mathlib.Core.Path.{◌≡◌, sym, ap, ◌∙◌}
use Prim.Native.Nat.{ℕ, ◌+◌, ◌-◌}
use mathlib.Core.Bool.{true}
use mathlib.Core.List.{[], ◌∷◌}
use lib.ListN.{length, take, drop}
use native.Mathlib.Omega.{arith}
use Rattle.std.specs.Prelude.{Ok}
use Rattle.find.specs.Match.{told_match, find_says}
use Rattle.find.proofs.FirstMatch.{stands-part}
use Rattle.find.proofs.CheckedFirst.{Found, found-match, rest-found}
use borrow.Author.Rules.{rules}
use Rattle.demand_find.proofs.found_is_handed_back.Goals.{In-Ok-Some}
use Rattle.demand_find.proofs.found_is_handed_back.Goals as goal

-- what the search told
told : (c : In-Ok-Some) → let a = c.args in
    0 ∷ c.in-Ok-Some.k ∷ [] ≡ find_says a.entry.now a.needle.now
told c = sym (ap told_match (c.in-Ok-Some.is ∙ ap Ok c.in-Ok-Some.field-0-is)) ∙ c.find.ensures

found : (c : In-Ok-Some) → let a = c.args in
    Found a.entry.now a.needle.now c.in-Ok-Some.k
found c = found-match _ _ _ (told c)

pub slice_bounds-eq-count : goal.slice_bounds-eq-count
slice_bounds-eq-count c = omega (arith, (found (goal.at.slice_bounds-eq-count c).In-Ok-Some).stands.inside)

pub slice_bounds-eq-start : goal.slice_bounds-eq-start
slice_bounds-eq-start c = let i = slice_bounds-eq-count c in search rules

pub overflow_add-k : goal.overflow_add-k
overflow_add-k c = let f = found (goal.at.overflow_add-k c).In-Ok-Some in omega (arith, f.within, f.stands.inside)

pub slice_bounds-eq-end-in-Ok-Some : goal.slice_bounds-eq-end-in-Ok-Some
slice_bounds-eq-end-in-Ok-Some c = let i = (found (goal.at.slice_bounds-eq-end-in-Ok-Some c).In-Ok-Some).stands.inside in search rules

pub returns-in-Ok-Some : goal.returns-in-Ok-Some
returns-in-Ok-Some c =
    let a = c.args in
    let n = c.in-Ok-Some.k in
    let rest : c.find_rest-rest.result.now ≡ take (length a.entry.now - n) (drop n a.entry.now)
    = c.find_rest-rest.ensures ∙ sym (rest-found a.entry.now a.needle.now n (told (goal.at.returns-in-Ok-Some c).In-Ok-Some)) in
    let part : take (n + length a.needle.now - n) (drop n a.entry.now) ≡ a.needle.now
    = ap (λ (m : ℕ). take m (drop n a.entry.now)) (long n (length a.needle.now)) ∙ stands-part a.entry.now a.needle.now n (found (goal.at.returns-in-Ok-Some c).In-Ok-Some).stands in
    let same_rest : c.eq.result ≡ true = search rules in
    let same_part : c.eq-in-Ok-Some.result ≡ true = search rules in
    rw (same_rest, same_part)
  where
    long : (n m : ℕ) → n + m - n ≡ m
    long n m = omega arith
