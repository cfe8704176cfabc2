-- A text that is fed to a decoder in pieces and finished: the calls one after another, by what they promise. A refused feed is not
-- counted, and its piece may be tried again.
use Rattle.std.specs.Prelude.{ℕ, ◌+◌, ◌-◌, true, false, cond, List, [], ◌∷◌, ◌++◌, length, get_or, take, drop, ltb, eqb}
use Rattle.theory.specs.Course.{Calls, course}
use Rattle.theory.specs.Tally.{written}
use Rattle.terms.specs.Limits.{most_room}
use Rattle.terms.specs.Told.{is_granted, if_granted}
use Rattle.terms.specs.Writing.{output_of}
use Rattle.decoder_shared.specs.Decoding.{Decoding, fresh, fed, ended, closed}
use Rattle.decoder_shared.specs.Calls.{feed_says, finish_says}
use Rattle.demand_shared.specs.Cuts.{bring}
use Rattle.demand_feeding.specs.declared.Found.{Found}

-- what the caller has: the state, where the next piece begins, how many places are written, and the lent output and list
pub record Held (S : Type 0) : Type 0 where
  pub state : S
  pub from : ℕ
  pub done : ℕ
  pub out : List ℕ
  pub list : List ℕ

-- a feed: where its piece ends, which may be any number, and how many places of the rest of the output are lent
pub record Call : Type 0 where
  pub cut : ℕ
  pub places : ℕ

abbrev pub call : ℕ → ℕ → Call
call cut places = record { cut = cut; places = places }

-- what is found at the end, and the lent output and list
pub record Given : Type 0 where
  pub found : Found
  pub out : List ℕ
  pub list : List ℕ

abbrev pub given : Found → List ℕ → List ℕ → Given
given found out list = record { found = found; out = out; list = list }

abbrev pub nothing : Found
nothing = record { granted = false; written = 0; whole = 0; damaged = 0; count = 0 }

-- ---- the calls of a way

-- the piece that ends at a cut is tried in a few places only, any times, and then in all
abbrev pub tries : List ℕ → ℕ → ℕ → List Call
tries few all cut = written (λ (n : ℕ). call cut n ∷ []) (few ++ all ∷ [])

-- the pieces of a text that is cut so, each tried so
abbrev pub pieces : List ℕ → List ℕ → List ℕ → List ℕ → List Call
pieces text cuts few out = written (tries few (length out)) (cuts ++ length text ∷ [])

-- ---- where a feed stands

module _ {S : Type 0} where
  -- the output behind what is written
  abbrev pub rest_of : Held S → List ℕ
  rest_of h = drop h.done h.out

  module _ (text : List ℕ) where
    abbrev pub end_of : Held S → Call → ℕ
    end_of h c = bring c.cut h.from (length text)

    abbrev pub piece_of : Held S → Call → List ℕ
    piece_of h c = take (end_of h c - h.from) (drop h.from text)

module _ {S : Type 0} (D : Decoding S) where
  abbrev pub starting : ℕ → List ℕ → List ℕ → Held S
  starting room out list = record { state = fresh D room; from = 0; done = 0; out = out; list = list }

  abbrev pub says_of : List ℕ → Held S → Call → List ℕ
  says_of text h c = feed_says D h.state (piece_of text h c) (take c.places (rest_of h)) h.list

  -- A FEED of the piece that ends at a cut, into so many places behind what is written
  abbrev pub feed_of : List ℕ → Calls (Held S) Call
  feed_of text = record {
    grants = λ h c. is_granted (says_of text h c);
    piece = piece_of text;
    goes = λ h c.
        let s = fed D h.state (piece_of text h c) h.list in
        record {
          state = closed D h.state ((D.stands h.state).taken + length (piece_of text h c)) s;
          from = end_of text h c;
          done = h.done + get_or (says_of text h c) 1 0;
          out = take h.done h.out ++ output_of (says_of text h c) s.kept.out (rest_of h);
          list = s.kept.list;
        };
  }

  -- finish, into the rest of the output, where all of the text was taken
  abbrev pub finished : List ℕ → Held S → Given
  finished text h =
      let says = finish_says D h.state (rest_of h) h.list in
      let l = ended D h.state h.list in
      cond (eqb h.from (length text))
      (given
      (if_granted says
      (record { granted = true; written = h.done + get_or says 1 0; whole = get_or says 2 0; damaged = get_or says 3 0; count = get_or says 4 0 })
      nothing)
      (take h.done h.out ++ output_of says l.out (rest_of h))
      (if_granted says l.list h.list))
      (given nothing h.out h.list)

  -- THE COURSE OF SOME FEEDS from the fresh state, and finish
  abbrev pub ran : ℕ → List ℕ → List Call → List ℕ → List ℕ → Given
  ran room text calls out list = finished text (course (feed_of text) (starting room out list) calls).caller

  -- START, THE FEEDS, AND FINISH
  abbrev pub through : ℕ → List ℕ → List Call → List ℕ → List ℕ → Given
  through room text calls out list = cond (ltb most_room room) (given nothing out list) (ran room text calls out list)
