-- What settled segments do to a tally, to the output and to the list: what the log of them says.
use Rattle.std.specs.Prelude.{◌≡◌, ℕ, ◌+◌, ◌*◌, ◌≤◌, length, take, drop, ltb, cond, Option, Some, None}
use mathlib.Core.List.{List, [], ◌∷◌, ◌++◌, foldl}
use Rattle.theory.specs.Reader.{Segment, parts}
use Rattle.theory.specs.Table.{Kind, damage}
use Rattle.theory.specs.Tally.{written, total, size, store, Log}
use Rattle.terms.specs.Form.{replacement, mend}
use Rattle.terms.specs.Limits.{limit, entry_width}
use Rattle.terms.specs.declared.First.{First}
use Rattle.terms.specs.declared.First.TheVariants.{Nothing, Whole, Damage, Begun}
use Rattle.utf8.specs.Bytes.{bytes}
use Rattle.utf8.specs.Scalar.{utf8}
use Rattle.utf8_pending.specs.Tail.{settled_size}
use Rattle.decoder_shared.specs.Decoding.{numbers}
use Rattle.decoder_shared.specs.Inside.Steps.{told_of}
use Rattle.decoder.specs.State.{act}
use Rattle.decoder_shared.specs.declared.tally.Tally.{Tally}
use Rattle.decoder.specs.declared.repair.Repair.{Repair}

-- ---- segments, as the reader tells of them

-- how many places they take in repaired form
abbrev pub need : List (Segment Kind) → ℕ
need ss = length (written (mend utf8) ss)

-- how many of them are needed, where so many are too few
abbrev pub lack : ℕ → ℕ → Option ℕ
lack needed most = cond (ltb most needed) (Some needed) None

abbrev pub places : First → ℕ
places Nothing = 0
places (Whole n) = n
places (Damage n cause) = 3
places (Begun n) = 0

-- the settled segment that is told of a text stands there, with its bytes and its places
pub record Stands (seg : First) (text : List ℕ) : Type 0 where
  pub bytes-are : settled_size seg ≡ total size (told_of seg text)
  pub places_are : places seg ≡ need (told_of seg text)

-- ---- a tally and the places written, with the output and the list that go with them

pub record Work : Type 0 where
  pub tally : Tally
  pub written : ℕ
  pub out : List ℕ
  pub list : List ℕ

abbrev pub work : Repair → List ℕ → List ℕ → Work
work r out list = record { tally = r.tally; written = r.written; out = out; list = list }

-- the log that it stands for
abbrev pub log_of : Work → Log
log_of w = record {
  whole = w.tally.whole;
  damaged = w.tally.damaged;
  count = w.tally.count;
  out = take w.written w.out;
  list = w.list;
}

-- what a log leaves of an output: its places behind what is written keep what they held
abbrev pub reached : List ℕ → Log → Work
reached out l = record {
  tally = record { whole = l.whole; damaged = l.damaged; count = l.count };
  written = length l.out;
  out = l.out ++ drop (length l.out) out;
  list = l.list;
}

-- it has room for so many places and bytes more; the list has its entries, and no more damages are counted than damaged bytes
pub record Fits (room places bytes : ℕ) (w : Work) : Type 0 where
  pub enough : w.written + places ≤ length w.out
  pub row : entry_width * room ≤ length w.list
  pub sums : w.tally.whole + w.tally.damaged + bytes ≤ limit
  pub counts : w.tally.count ≤ w.tally.damaged

abbrev pub Ready : ℕ → List (Segment Kind) → Work → Type 0
Ready room ss = Fits room (need ss) (total size ss)

-- THE ACTION of segments
abbrev pub acted : ℕ → List (Segment Kind) → Work → Work
acted room ss w = reached w.out (foldl (act room) (log_of w) ss)

-- all that is settled of a text has acted, and it has so many bytes
pub record Settles (room : ℕ) (text : List ℕ) (w v : Work) (n : ℕ) : Type 0 where
  pub same : v ≡ acted room (parts bytes text).done w
  pub bytes-are : n ≡ total size (parts bytes text).done

-- ---- what it does to a log

-- bytes in whole segments are written as they are
abbrev pub passed : List ℕ → Log → Log
passed run l = record { whole = l.whole + length run; damaged = l.damaged; count = l.count; out = l.out ++ run; list = l.list }

-- U+FFFD is written for a damage of n bytes and of a cause, and it is entered in the list, if there is room
abbrev pub mended : ℕ → ℕ → ℕ → Log → Log
mended room n cause l = record {
  whole = l.whole;
  damaged = l.damaged + n;
  count = l.count + 1;
  out = l.out ++ utf8.write replacement;
  list = store numbers entry_width room l.list l.count (record { start = l.whole + l.damaged; long = n; tag = damage cause } ∷ []);
}
