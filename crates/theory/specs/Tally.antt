-- What is kept of a text's segments: the written form, totals, the damage entries, and a list with room for its first entries.
use Rattle.std.specs.Prelude.{ℕ, zero, suc, ◌+◌, ◌*◌, Bool, cond, List, [], ◌∷◌, ◌++◌, length, ltb}
use Rattle.std.proofs.lemmas.List.Edits.{sets}
use Rattle.theory.specs.Reader.{Segment, body}

-- each one written as `w` says, one behind another
abbrev pub written : {A E : Type 0} → (E → List A) → List E → List A
written w [] = []
written w (e ∷ es) = w e ++ written w es

-- each one counted as `f` says, summed
abbrev pub total : {E : Type 0} → (E → ℕ) → List E → ℕ
total f [] = zero
total f (e ∷ es) = f e + total f es

abbrev pub size : {K : Type 0} → Segment K → ℕ
size s = length (body s)

-- damage: where it starts in the text, how long it is, and its tag
pub record Entry (K : Type 0) : Type 0 where
  pub start : ℕ
  pub long : ℕ
  pub tag : K

module _ {K : Type 0} (bad : K → Bool) where
  -- what a segment that starts at `at` gives: one entry, or none
  abbrev pub noted : ℕ → Segment K → List (Entry K)
  noted at s = cond (bad s.tag) (record { start = at; long = size s; tag = s.tag } ∷ []) []

  -- THE DAMAGE ENTRIES of segments of which the first starts at `at`
  abbrev pub entries : ℕ → List (Segment K) → List (Entry K)
  entries at [] = []
  entries at (s ∷ ss) = noted at s ++ entries (at + size s) ss

  -- elements in whole segments, elements in damage, and damages
  abbrev pub whole_of : Segment K → ℕ
  whole_of s = cond (bad s.tag) zero (size s)

  abbrev pub damaged_of : Segment K → ℕ
  damaged_of s = cond (bad s.tag) (size s) zero

  abbrev pub count_of : Segment K → ℕ
  count_of s = cond (bad s.tag) 1 zero

-- A list with room: entry i stands at width × i and is written if i is below the room. The first of these is entry i.
module _ {A E : Type 0} (enc : E → List A) (width room : ℕ) where
  abbrev pub store : List A → ℕ → List E → List A
  store row i [] = row
  store row i (e ∷ es) = store (cond (ltb i room) (sets row (width * i) (enc e)) row) (suc i) es

-- all that repair keeps, as one action of a segment
pub record Log : Type 0 where
  pub whole : ℕ
  pub damaged : ℕ
  pub count : ℕ
  pub out : List ℕ
  pub list : List ℕ

module _ {K : Type 0} (bad : K → Bool) (w : Segment K → List ℕ) (enc : Entry K → List ℕ) (width room : ℕ) where
  abbrev pub log : Log → Segment K → Log
  log l s = record {
    whole = l.whole + whole_of bad s;
    damaged = l.damaged + damaged_of bad s;
    count = l.count + count_of bad s;
    out = l.out ++ w s;
    list = store enc width room l.list l.count (noted bad (l.whole + l.damaged) s);
  }
