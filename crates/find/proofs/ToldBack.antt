-- What a search tells loses nothing: two answers that tell the same are equal.
use mathlib.Core.Path.{◌≡◌, refl}
use Prim.Native.Nat.{ℕ}
use mathlib.Core.Bool.{cond}
use mathlib.Core.List.{List}
use lib.ListN.{length, get_or}
use lib.Dec.{eqb}
use Rattle.std.specs.Prelude.{Option, None, Some, option_to_list, Result}
use Rattle.terms.specs.declared.Refusal.{Refusal}
use Rattle.terms.proofs.ToldBack.{told_lem}
use Rattle.find.specs.Match.{told_match, match_says}

back : List ℕ → Option ℕ
back l = cond (eqb (length l) 1) None (Some (get_or l 1 0))

match_back : (o : Option ℕ) → back (match_says o) ≡ o
unfolding back
match_back (Some k) = refl
match_back None = refl

pub told_match_lem : (a b : Result (Option ℕ) Refusal) → told_match a ≡ told_match b → a ≡ b
told_match_lem = told_lem option_to_list back match_back
