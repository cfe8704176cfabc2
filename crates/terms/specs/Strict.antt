-- Strict reading: the first damage is refused.
use Rattle.std.specs.Prelude.{ℕ, cond, List, [], ◌∷◌, length, ltb}
use Rattle.theory.specs.Reader.{Reader, cut}
use Rattle.theory.specs.Table.{Kind, is_damage, cause_of}
use Rattle.theory.specs.Tally.{Entry, entries}
use Rattle.terms.specs.Limits.{limit}

-- the damage entries of a text
abbrev pub damages : Reader Kind → List ℕ → List (Entry Kind)
damages look text = entries is_damage 0 (cut look text)

-- a refusal of the first of them, or what is granted if there is none
abbrev pub strictly : (Entry Kind → List ℕ) → List (Entry Kind) → List ℕ → List ℕ
strictly refuse [] granted = granted
strictly refuse (e ∷ es) granted = refuse e

-- refusal 1 tells the start, the length and the cause of the damage
abbrev pub damaged : Entry Kind → List ℕ
damaged e = 1 ∷ e.start ∷ e.long ∷ cause_of e.tag ∷ []

-- refusal 2 where a text is over the limit
abbrev pub limited : List ℕ → List ℕ → List ℕ
limited text granted = cond (ltb limit (length text)) (2 ∷ []) granted

-- THE STRICT CHECK: refusal 2, then 1, or well-formed
abbrev pub check_says : Reader Kind → List ℕ → List ℕ
check_says look text = limited text (strictly damaged (damages look text) (0 ∷ []))
