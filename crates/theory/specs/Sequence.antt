-- The paper's words for a table's segments: well-formed sequences, what begins one, well-formed texts, the segment at the start of a text
-- and its cause.
-- The reader is shown to read these segments; no contract cites them.
use Rattle.std.specs.Prelude.{◌≡◌, ◌⊎◌, ◌↔◌, ℕ, zero, suc, ◌≤◌, ◌<◌, true, List, [], ◌∷◌, ◌++◌, length, take, drop, get_or}
use Rattle.theory.specs.Reader.{Reader, Segment, body, cut, pending}
use Rattle.theory.specs.Stream.{join}
use Rattle.theory.specs.Tally.{size, entries}
use Rattle.theory.specs.Table.{Range, within, among, Row, stopped, ended, Kind, whole, damage, is_damage, cause_of}

-- one element for each range, and in it
abbrev pub Matches : List Range → List ℕ → Type 0
Matches [] [] = Unit {0}
Matches [] (x ∷ xs) = ⊥
Matches (r ∷ rs) [] = ⊥
Matches (r ∷ rs) (x ∷ xs) = (within r x ≡ true) × Matches rs xs

-- a well-formed sequence is one of some row
abbrev pub Sequence : List Row → List ℕ → Type 0
Sequence [] xs = ⊥
Sequence (w ∷ ws) xs = Matches (w.lead ∷ w.later) xs ⊎ Sequence ws xs

-- a proper beginning of one: some elements, which are a sequence once others, and not none, have come behind them
pub record ProperBeginning (rows : List Row) (xs : List ℕ) : Type 0 where
  pub some : 0 < length xs
  pub others : List ℕ
  pub missing : 0 < length others
  pub sequence : Sequence rows (xs ++ others)

-- WHAT MAY BE PENDING: nothing, or a proper beginning of a well-formed sequence
abbrev pub Pending : List Row → List ℕ → Type 0
Pending rows xs = (xs ≡ []) ⊎ ProperBeginning rows xs

-- each of these is a well-formed sequence
abbrev pub Sequences : List Row → List (List ℕ) → Type 0
Sequences rows [] = Unit {0}
Sequences rows (q ∷ qs) = Sequence rows q × Sequences rows qs

-- A WELL-FORMED TEXT: well-formed sequences one behind another
pub record WellFormed (rows : List Row) (text : List ℕ) : Type 0 where
  pub sequences : List (List ℕ)
  pub each : Sequences rows sequences
  pub joined : text ≡ join sequences

module _ (rows : List Row) (text : List ℕ) where
  -- a well-formed sequence of n elements begins there
  pub record Whole (n : ℕ) : Type 0 where
    pub inside : n ≤ length text
    pub sequence : Sequence rows (take n text)

  -- the part of n elements from there begins some well-formed sequence
  pub record Begun (n : ℕ) : Type 0 where
    pub some : 0 < n
    pub inside : n ≤ length text
    pub others : List ℕ
    pub sequence : Sequence rows (take n text ++ others)

  pub record Longest (n : ℕ) : Type 0 where
    pub begun : Begun n
    pub longest : (k : ℕ) → Begun k → k ≤ n

  -- a begun sequence that does not become whole, as far as it goes
  abbrev pub Unfinished : ℕ → Type 0
  Unfinished n = ((k : ℕ) → Whole k → ⊥) × Longest n

  -- the cause is what stops it: another element stands behind it, or the text ends there
  abbrev pub StoppedBy : ℕ → ℕ → Type 0
  StoppedBy n c = ((n < length text) × (c ≡ stopped)) ⊎ ((n ≡ length text) × (c ≡ ended))

  -- one element, with which no sequence begins, has a cause of its own
  pub record Lone (cause : ℕ → ℕ) (n c : ℕ) : Type 0 where
    pub one : n ≡ 1
    pub begins-none : (k : ℕ) → Begun k → ⊥
    pub own : c ≡ cause (get_or text 0 0)

  -- damage: no sequence begins there; it is the longest part that begins one, or one element if there is none
  pub record Damage (cause : ℕ → ℕ) (n c : ℕ) : Type 0 where
    pub none : (k : ℕ) → Whole k → ⊥
    pub part : (Longest n × StoppedBy n c) ⊎ Lone cause n c

  -- THE SEGMENT AT THE START OF A TEXT that is not empty
  abbrev pub Stands : (ℕ → ℕ) → ℕ → Kind → Type 0
  Stands cause n whole = Whole n
  Stands cause n (damage c) = Damage cause n c

-- segments that divide a text: each stands at the start of what is left
abbrev pub Divides : List Row → (ℕ → ℕ) → List ℕ → List (Segment Kind) → Type 0
Divides rows cause [] [] = Unit {0}
Divides rows cause (x ∷ xs) [] = ⊥
Divides rows cause [] (s ∷ ss) = ⊥
Divides rows cause (x ∷ xs) (s ∷ ss) =
    (body s ≡ take (size s) (x ∷ xs))
    × Stands rows (x ∷ xs) cause (size s) s.tag
    × Divides rows cause (drop (size s) (x ∷ xs)) ss

-- THE SENTENCE OF EACH CAUSE, of a segment of n elements at the start of a text: 0 it is whole; 1 an element of some ranges, alone; 2 one
-- of some others; 3 a begun sequence that is stopped by another element; 4 one that is stopped by the end of the text
abbrev pub Sentence : List Row → List Range → List Range → List ℕ → ℕ → ℕ → Type 0
Sentence rows strays foreigners text n zero = Whole rows text n
Sentence rows strays foreigners text n (suc zero) = (n ≡ 1) × (among strays (get_or text 0 0) ≡ true)
Sentence rows strays foreigners text n (suc (suc zero)) = (n ≡ 1) × (among foreigners (get_or text 0 0) ≡ true)
Sentence rows strays foreigners text n (suc (suc (suc zero))) = Unfinished rows text n × (n < length text)
Sentence rows strays foreigners text n (suc (suc (suc (suc zero)))) = Unfinished rows text n × (n ≡ length text)
Sentence rows strays foreigners text n (suc (suc (suc (suc (suc k))))) = ⊥

-- THE CAUSE THAT A SEGMENT IS READ WITH is the one of which the sentence is true of it, and no other
abbrev pub Caused : List Row → List Range → List Range → Reader Kind → ℕ → List ℕ → Type 0
Caused rows strays foreigners look x xs =
    (k : ℕ) → Sentence rows strays foreigners (x ∷ xs) (suc (look x xs).more) k ↔ (cause_of (look x xs).tag ≡ k)

-- A READER READS A TABLE'S SEGMENTS: what it sees at the start of a text is the segment that stands there, and no other does; a
-- text divides into them in exactly one way; it holds back exactly what may be pending; and a text has no damage exactly if it is
-- well-formed
pub record Reads (rows : List Row) (cause : ℕ → ℕ) (look : Reader Kind) : Type 0 where
  pub stands : (x : ℕ) (xs : List ℕ) → Stands rows (x ∷ xs) cause (suc (look x xs).more) (look x xs).tag
  pub only : (x : ℕ) (xs : List ℕ) (n : ℕ) (t : Kind) → Stands rows (x ∷ xs) cause n t → (n ≡ suc (look x xs).more) × (t ≡ (look x xs).tag)
  pub divides : (text : List ℕ) → Divides rows cause text (cut look text)
  pub once : (ss : List (Segment Kind)) (text : List ℕ) → Divides rows cause text ss → ss ≡ cut look text
  pub holds : (xs : List ℕ) → (pending look xs ≡ true) ↔ Pending rows xs
  pub accepts : (text : List ℕ) → (entries is_damage 0 (cut look text) ≡ []) ↔ WellFormed rows text
