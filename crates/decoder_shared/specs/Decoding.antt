-- A decoder of any form: what it reads and writes, and what a state stands for while a text comes in pieces.
use Rattle.std.specs.Prelude.{ℕ, Bool, List, [], ◌∷◌}
use Rattle.theory.specs.Reader.{Reader, Segment}
use Rattle.theory.specs.Stream.{State}
use Rattle.theory.specs.Tally.{Entry, Log, log}
use Rattle.theory.specs.Stream as stream
use Rattle.theory.specs.Table.{Kind, is_damage, cause_of}
use Rattle.terms.specs.Limits.{entry_width}

-- what a state stands for: the pending elements, elements taken, those in whole segments and in damage, damages, and the list's room
pub record Standing : Type 0 where
  pub left : List ℕ
  pub taken : ℕ
  pub whole : ℕ
  pub damaged : ℕ
  pub count : ℕ
  pub room : ℕ

-- A DECODER: the reader of its texts, what it writes for a segment, what a state stands for, the state that stands for so much, and
-- the tests of a state
pub record Decoding (S : Type 0) : Type 0 where
  pub look : Reader Kind
  pub write : Segment Kind → List ℕ
  pub stands : S → Standing
  pub state : Standing → S
  pub sound : S → Bool

-- a damage entry is three numbers: start in the joined text, length and cause
abbrev pub numbers : Entry Kind → List ℕ
numbers e = e.start ∷ e.long ∷ cause_of e.tag ∷ []

-- what one segment, written so, does to the totals, the output and the list
abbrev pub act : (Segment Kind → List ℕ) → ℕ → Log → Segment Kind → Log
act write room = log is_damage write numbers entry_width room

module _ {S : Type 0} (D : Decoding S) where
  -- nothing is taken, pending or counted
  abbrev pub fresh : ℕ → S
  fresh room = D.state (record { left = []; taken = 0; whole = 0; damaged = 0; count = 0; room = room })

  -- the state as a stream's: what is pending, and what is kept, with an output that is empty yet
  abbrev pub opened : S → List ℕ → State Log
  opened d list = record {
    left = (D.stands d).left;
    kept = record { whole = (D.stands d).whole; damaged = (D.stands d).damaged; count = (D.stands d).count; out = []; list = list };
  }

  -- the stream after a piece, and what is kept at the end
  abbrev pub fed : S → List ℕ → List ℕ → State Log
  fed d piece list = stream.feed D.look (act D.write (D.stands d).room) (opened d list) piece

  abbrev pub ended : S → List ℕ → Log
  ended d list = stream.finish D.look (act D.write (D.stands d).room) (opened d list)

  -- the state that is handed back
  abbrev pub closed : S → ℕ → State Log → S
  closed d taken s = D.state (record {
    left = s.left;
    taken = taken;
    whole = s.kept.whole;
    damaged = s.kept.damaged;
    count = s.kept.count;
    room = (D.stands d).room;
  })
