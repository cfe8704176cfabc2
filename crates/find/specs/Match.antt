-- Where a needle stands in an entry, where it stands first, and the entry from there on; in the numbers of the refusals.
use Rattle.std.specs.Prelude.{ℕ, suc, Bool, true, false, cond, ◌&&◌, List, [], ◌∷◌, drop, eqb, Option, None, Some, option_to_list, Result, Ok}
use Rattle.terms.specs.Strict.{damages, strictly, damaged, limited}
use Rattle.terms.specs.Told.{told, if_granted}
use Rattle.terms.specs.declared.Refusal.{Refusal}
use Rattle.utf8.specs.Bytes.{bytes}

-- a text begins with the needle's bytes
unfoldable pub begins : List ℕ → List ℕ → Bool
begins text [] = true
begins [] (b ∷ needle) = false
begins (c ∷ text) (b ∷ needle) = eqb c b && begins text needle

-- the smallest offset where they stand, counted on from k, if there is one
unfoldable pub match_from : ℕ → List ℕ → List ℕ → Option ℕ
unfolding begins
match_from k [] needle = cond (begins [] needle) (Some k) None
match_from k (c ∷ text) needle = cond (begins (c ∷ text) needle) (Some k) (match_from (suc k) text needle)

-- THE FIRST MATCH: an empty needle stands at 0
unfoldable pub first_match : List ℕ → List ℕ → Option ℕ
unfolding match_from
first_match entry needle = match_from 0 entry needle

-- 0 and the offset of the match, 0 alone where there is none, or the refusal's number and values
abbrev pub told_match : Result (Option ℕ) Refusal → List ℕ
told_match = told option_to_list

abbrev pub match_says : Option ℕ → List ℕ
match_says found = told_match (Ok found)

-- THE SEARCH: refusal 2 where either text is over the limit, then 1 with the needle's first damage, then the first match
abbrev pub find_says : List ℕ → List ℕ → List ℕ
find_says entry needle = limited entry (limited needle (strictly damaged (damages bytes needle) (match_says (first_match entry needle))))

-- a text from an offset on, nothing of it where there is none
abbrev pub onward : Option ℕ → List ℕ → List ℕ
onward None text = []
onward (Some k) text = drop k text

-- THE ENTRY FROM THE MATCH TO ITS END, nothing of it where the search is refused
abbrev pub rest_says : List ℕ → List ℕ → List ℕ
rest_says entry needle = if_granted (find_says entry needle) (onward (first_match entry needle) entry) []
