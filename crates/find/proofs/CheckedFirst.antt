-- The checks before a search: what they refuse the search refuses alike, and what they grant it answers with its first match.
use mathlib.Core.Path.{◌≡◌, refl, sym, ap, ◌∙◌}
use Prim.Native.Nat.{ℕ, ◌-◌, ◌≤◌}
use mathlib.Core.List.{List, [], ◌∷◌}
use Rattle.std.specs.Prelude.{Option, None, Some, Ok}
use lib.ListN.{length, take, drop, length-drop, get_or}
use lib.Seq.{take_all}
use borrow.Author.Tests.{le-ltb}
use native.Mathlib.Omega.{arith}
use Rattle.terms.specs.Limits.{limit}
use Rattle.terms.specs.Strict.{damages, strictly, damaged, limited, check_says}
use Rattle.terms.specs.Told.{told_refusal, told_checked}
use Rattle.terms.specs.declared.Refusal.{Refusal}
use Rattle.terms.proofs.AnswersWritten.{limited-refused, strictly-refused}
use Rattle.terms.proofs.ConvertsBack.{limited-granted, strictly-granted}
use Rattle.terms.proofs.ToldBack.{no_zero}
use Rattle.utf8.specs.Bytes.{bytes}
use Rattle.find.specs.Match.{first_match, match_says, find_says, rest_says}
use Rattle.find.specs.Inside.Compared.{Stands}
use Rattle.find.proofs.FirstMatch.{match_stands}

-- a match that was granted
pub record Found (entry needle : List ℕ) (k : ℕ) : Type 0 where
  pub within : length entry ≤ limit
  pub clean : damages bytes needle ≡ []
  pub first : first_match entry needle ≡ Some k
  pub stands : Stands entry needle k

module _ (entry needle : List ℕ) where
  pub find-refused : (r : Refusal) → told_refusal r ≡ limited entry (check_says bytes needle) → told_refusal r ≡ find_says entry needle
  find-refused r =
      limited-refused entry (limited-refused needle (strictly-refused damaged (damages bytes needle) (match_says (first_match entry needle)) r))

  pub find-granted : told_checked (Ok tt) ≡ limited entry (check_says bytes needle) → {found : Option ℕ} → found ≡ first_match entry needle
      → match_says found ≡ find_says entry needle
  find-granted e h =
      let a = limited-granted entry (check_says bytes needle) (sym e) in
      let b = limited-granted needle (strictly damaged (damages bytes needle) (0 ∷ [])) a.1 in
      let d = strictly-granted damaged (λ x. refl) (damages bytes needle) (0 ∷ []) b.1 in
      let says : find_says entry needle ≡ match_says (first_match entry needle) = rw (le-ltb limit (length entry) a.0, le-ltb limit (length needle) b.0, d.0) in
      ap match_says h ∙ sym says

  -- ---- the entry from the match on

  pub rest-refused : (r : Refusal) → told_refusal r ≡ find_says entry needle → [] ≡ rest_says entry needle
  rest-refused r e = rw (← e, no_zero r)

  -- a search that grants says its first match, of an entry within the limit and a needle with no damage
  granted-match : {ns : List ℕ} → find_says entry needle ≡ 0 ∷ ns
      → (length entry ≤ limit) × (damages bytes needle ≡ []) × (match_says (first_match entry needle) ≡ 0 ∷ ns)
  granted-match e =
      let a = limited-granted entry (limited needle (strictly damaged (damages bytes needle) (match_says (first_match entry needle)))) e in
      let b = limited-granted needle (strictly damaged (damages bytes needle) (match_says (first_match entry needle))) a.1 in
      let d = strictly-granted damaged (λ x. refl) (damages bytes needle) (match_says (first_match entry needle)) b.1 in
      (a.0, d.0, d.1)

  said-some : (o : Option ℕ) (k : ℕ) → match_says o ≡ 0 ∷ k ∷ [] → o ≡ Some k
  said-some None k e = let z : ◌≡◌ {A = ℕ} 1 2 = ap length e in absurd (omega arith)
  said-some (Some i) k e = ap (λ (x : ℕ). Some x) (ap (λ (l : List ℕ). get_or l 1 0) e)

  said-none : (o : Option ℕ) → match_says o ≡ 0 ∷ [] → o ≡ None
  said-none None e = refl
  said-none (Some i) e = let z : ◌≡◌ {A = ℕ} 2 1 = ap length e in absurd (omega arith)

  pub found-match : (k : ℕ) → 0 ∷ k ∷ [] ≡ find_says entry needle → Found entry needle k
  found-match k e =
      let g = granted-match (sym e) in
      let first = said-some (first_match entry needle) k g.2 in
      record { within = g.0; clean = g.1; first = first; stands = match_stands entry needle k first }

  pub found_inside : (k : ℕ) → 0 ∷ k ∷ [] ≡ find_says entry needle → k ≤ length entry
  found_inside k e = omega (arith, (found-match k e).stands.inside)

  pub rest-found : (k : ℕ) → 0 ∷ k ∷ [] ≡ find_says entry needle → take (length entry - k) (drop k entry) ≡ rest_says entry needle
  rest-found k e =
      take_all (length entry - k) (drop k entry) (omega (arith, length-drop k entry)) ∙ sym (rw (← e, (found-match k e).first))

  pub rest-absent : 0 ∷ [] ≡ find_says entry needle → [] ≡ rest_says entry needle
  rest-absent e = sym (rw (← e, said-none (first_match entry needle) (granted-match (sym e)).2))
