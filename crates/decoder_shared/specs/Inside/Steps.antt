-- What the steps of a feed promise each other, where what is settled is converted as a text and its damages are then entered.
use Rattle.std.specs.Prelude.{◌≡◌, ℕ, ◌+◌, ◌*◌, ◌≤◌, length, take}
use mathlib.Core.List.{List, [], ◌∷◌, foldl}
use Rattle.theory.specs.Reader.{Reader, Segment, cut, parts}
use Rattle.theory.specs.Stream.{State}
use Rattle.theory.specs.Table.{Kind, damage}
use Rattle.theory.specs.Table as table
use Rattle.theory.specs.Tally.{written, total, size, store, Log}
use Rattle.terms.specs.Limits.{limit, entry_width}
use Rattle.terms.specs.Told.{number_of, size_of, if_granted}
use Rattle.terms.specs.Writing.{roomed, output_of}
use Rattle.terms.specs.declared.First.{First}
use Rattle.terms.specs.declared.First.TheVariants.{Nothing, Whole, Damage, Begun}
use Rattle.decoder_shared.specs.Decoding.{Decoding, numbers, act, opened, closed}

-- ---- the tally

-- the log of three totals and a list, with no output
abbrev pub counted : ℕ → ℕ → ℕ → List ℕ → Log
counted whole damaged count list = record { whole = whole; damaged = damaged; count = count; out = []; list = list }

-- segments are counted, and their damages entered; nothing is written
abbrev pub tallied : ℕ → Log → List (Segment Kind) → Log
tallied room = foldl (act (λ s. []) room)

-- it may take so many elements more: the list has its entries, and no more damages are counted than damaged elements
pub record Fits (room more : ℕ) (l : Log) : Type 0 where
  pub row : entry_width * room ≤ length l.list
  pub sums : l.whole + l.damaged + more ≤ limit
  pub counts : l.count ≤ l.damaged

-- so many elements in whole segments, and a damage of so many and of a cause, are tallied
abbrev pub passed : ℕ → Log → Log
passed n l = record { whole = l.whole + n; damaged = l.damaged; count = l.count; out = []; list = l.list }

abbrev pub struck : ℕ → ℕ → ℕ → Log → Log
struck room n cause l = record {
  whole = l.whole;
  damaged = l.damaged + n;
  count = l.count + 1;
  out = [];
  list = store numbers entry_width room l.list l.count (record { start = l.whole + l.damaged; long = n; tag = damage cause } ∷ []);
}

-- the segment of these elements, if there are any
abbrev pub segment_of : Kind → List ℕ → List (Segment Kind)
segment_of kind [] = []
segment_of kind (x ∷ xs) = record { head = x; tail = xs; tag = kind } ∷ []

-- the segment that is told of a text, if it is settled
abbrev pub told_of : First → List ℕ → List (Segment Kind)
told_of Nothing text = []
told_of (Whole n) text = segment_of table.whole (take n text)
told_of (Damage n cause) text = segment_of (damage (number_of cause)) (take n text)
told_of (Begun n) text = []

-- what the reader told of a text's first segment is tallied, if that is settled
abbrev pub tallied_as : ℕ → First → Log → Log
tallied_as room Nothing l = l
tallied_as room (Whole n) l = passed n l
tallied_as room (Damage n cause) l = struck room n (number_of cause) l
tallied_as room (Begun n) l = l

-- all that is settled of a text is tallied, and it has so many elements
pub record Settles (look : Reader Kind) (room : ℕ) (text : List ℕ) (l m : Log) (n : ℕ) : Type 0 where
  pub same : m ≡ tallied room l (parts look text).done
  pub size_is : n ≡ total size (parts look text).done

-- ---- the answer

module _ {S : Type 0} (D : Decoding S) where
  -- a text of one segment or none, as the reader told of it where more text stood behind, and a text behind it, which a state may take:
  -- by itself it is written as the segment is
  pub record Rests (d : S) (seg : First) (head rest list : List ℕ) : Type 0 where
    pub tells : (room : ℕ) (l : Log) → l.out ≡ [] → tallied_as room seg l ≡ tallied room l (told_of seg head)
    pub writes : written D.write (cut D.look head) ≡ written D.write (told_of seg head)
    pub size_is : size_of seg ≡ length head
    pub all_told : total size (told_of seg head) ≡ length head
    pub sums : (D.stands d).whole + (D.stands d).damaged + length head + length rest ≤ limit
    pub counts : (D.stands d).count ≤ (D.stands d).damaged
    pub row : entry_width * (D.stands d).room ≤ length list

  -- the stream behind some settled segments
  abbrev pub behind : S → List (Segment Kind) → List ℕ → List ℕ → State Log
  behind d ss left list = record { left = left; kept = foldl (act D.write (D.stands d).room) (opened D d list).kept ss }

  -- what a feed answers where only the output may be too short, and the stream is this one after it
  pub record Answers (d : S) (taken : ℕ) (s : State Log) (out list out' list' said : List ℕ) (next : S) : Type 0 where
    pub answer : said ≡ roomed (length out) s.kept.out
    pub state : next ≡ if_granted (roomed (length out) s.kept.out) (closed D d taken s) d
    pub output : out' ≡ output_of (roomed (length out) s.kept.out) s.kept.out out
    pub entries : list' ≡ if_granted (roomed (length out) s.kept.out) s.kept.list list
