-- A text that one caller feeds in pieces: the calls one after another, by what they promise, and what they give together.
-- No contract cites these; the theorems about many calls do.
use Rattle.std.specs.Prelude.{◌≡◌, ℕ, ◌+◌, true, List, [], ◌∷◌, ◌++◌, length, get_or, take, drop}
use Rattle.std.proofs.lemmas.List.Edits.{sets}
use Rattle.theory.specs.Reader.{Segment, cut, parts}
use Rattle.theory.specs.Stream.{join}
use Rattle.theory.specs.Course.{Calls, Course, course}
use Rattle.theory.specs.Table.{Kind, is_damage}
use Rattle.theory.specs.Tally.{written, total, entries, whole_of, damaged_of, count_of}
use Rattle.terms.specs.Told.{is_granted}
use Rattle.terms.specs.Writing.{output_of}
use Rattle.decoder_shared.specs.Decoding.{Decoding, numbers, fresh, fed, closed}
use Rattle.decoder_shared.specs.Calls.{feed_says, Finishes}

-- a feed: the piece, and the output that is lent for it
pub record Call : Type 0 where
  pub piece : List ℕ
  pub out : List ℕ

-- what the caller has: the state, the list that nobody else writes, and all that was written
pub record Caller (S : Type 0) : Type 0 where
  pub state : S
  pub list : List ℕ
  pub written : List ℕ

-- what a call wrote that answers in these numbers: so many places from the start of the output as it leaves it
abbrev pub wrote : List ℕ → List ℕ → List ℕ → List ℕ
wrote says form out = take (get_or says 1 0) (output_of says form out)

-- the list with the first entries of some segments
abbrev pub listed : ℕ → List ℕ → List (Segment Kind) → List ℕ
listed room row ss = sets row 0 (written numbers (take room (entries is_damage 0 ss)))

module _ {S : Type 0} (D : Decoding S) where
  abbrev pub starting : ℕ → List ℕ → Caller S
  starting room row = record { state = fresh D room; list = row; written = [] }

  -- A FEED, by what it promises
  abbrev pub feed_of : Calls (Caller S) Call
  feed_of = record {
    grants = λ h c. is_granted (feed_says D h.state c.piece c.out h.list);
    piece = λ h c. c.piece;
    goes = λ h c.
        let s = fed D h.state c.piece h.list in
        record {
          state = closed D h.state ((D.stands h.state).taken + length c.piece) s;
          list = s.kept.list;
          written = h.written ++ wrote (feed_says D h.state c.piece c.out h.list) s.kept.out c.out;
        };
  }

  -- THE COURSE OF SUCH CALLS from the fresh state, over a list that held `row`
  abbrev pub fed_all : ℕ → List ℕ → List Call → Course (Caller S)
  fed_all room row = course feed_of (starting room row)

  -- WHAT HOLDS AFTER EVERY CALL, each as defined from the text that was taken
  pub record Holds (room : ℕ) (row text : List ℕ) (h : Caller S) : Type 0 where
    pub tests : D.sound h.state ≡ true
    pub taken : (D.stands h.state).taken ≡ length text
    pub sum : (D.stands h.state).whole + (D.stands h.state).damaged + length (D.stands h.state).left ≡ (D.stands h.state).taken
    pub whole : (D.stands h.state).whole ≡ total (whole_of is_damage) (parts D.look text).done
    pub damaged : (D.stands h.state).damaged ≡ total (damaged_of is_damage) (parts D.look text).done
    pub count : (D.stands h.state).count ≡ total (count_of is_damage) (parts D.look text).done
    pub room-is : (D.stands h.state).room ≡ room
    pub pending : (D.stands h.state).left ≡ (parts D.look text).left
    pub output : h.written ≡ written D.write (parts D.look text).done
    pub entries : h.list ≡ listed room row (parts D.look text).done

  -- WHAT FINISH THEN GIVES, where it answers in these numbers and leaves this in the output and the list: what is written for the text,
  -- its first entries and its totals; and the fresh state
  pub record Ends (room : ℕ) (row text : List ℕ) (h : Caller S) (out' list' said : List ℕ) (next : S) : Type 0 where
    pub output : h.written ++ take (get_or said 1 0) out' ≡ written D.write (cut D.look text)
    pub entries : list' ≡ listed room row (cut D.look text)
    pub totals : drop 2 said
        ≡ total (whole_of is_damage) (cut D.look text) ∷ total (damaged_of is_damage) (cut D.look text) ∷ total (count_of is_damage) (cut D.look text) ∷ []
    pub state : next ≡ fresh D room

  -- THE SECOND DEMAND: a text that is fed in any pieces, with refused calls between them, and finished, gives what is written for the
  -- joined text, its first entries and its totals, whatever the list held
  abbrev pub FedAsWhole : Type 0
  FedAsWhole =
      (room : ℕ) (row : List ℕ) (calls : List Call) (out out' list' said : List ℕ) (next : S)
      → let r = fed_all room row calls in
      Finishes D r.caller.state out r.caller.list out' list' said next
      → is_granted said ≡ true
      → Ends room row (join r.pieces) r.caller out' list' said next
