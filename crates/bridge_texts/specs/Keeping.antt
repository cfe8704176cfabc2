-- Calls that take the state of a decoder from a lent slice and put the next one there; where nothing is called nothing is changed.
use Rattle.std.specs.Prelude.{◌≡◌, ℕ, ◌+◌, Bool, cond, List, length, ltb}
use Rattle.terms.specs.Limits.{most_room}
use Rattle.terms.specs.Told.{if_granted}
use Rattle.terms.specs.Writing.{output_of}
use Rattle.terms.specs.declared.Decoder.{Decoder}
use Rattle.decoder_shared.specs.Decoding.{Decoding, fresh, fed, ended, closed}
use Rattle.decoder_shared.specs.Calls.{start_says, feed_says, finish_says}
use Rattle.decoder_watch.specs.Watching.{watching}
use Rattle.bridge_numbers.specs.Telling.{not_called, Tells}
use Rattle.bridge_numbers.specs.Keeping.{stored}
use Rattle.bridge_numbers.specs.States.{decoder_numbers}

-- ---- the calls of any decoder, whose states are numbers in this way

pub record Starts {S : Type 0} (D : Decoding S) (numbers : S → List ℕ) (called : Bool) (room : ℕ) (state state' says says' : List ℕ) (r : ℕ) : Type 0 where
  pub tells : Tells called (start_says room) says says' r
  pub next : state' ≡ stored called (numbers (cond (ltb most_room room) (fresh D 0) (fresh D room))) state

pub record Feeds {S : Type 0} (D : Decoding S) (numbers : S → List ℕ) (called : Bool) (d : S) (piece out list out' list' state state' says says' : List ℕ) (r : ℕ) : Type 0 where
  pub tells : Tells called (feed_says D d piece out list) says says' r
  pub next : state'
      ≡ stored called
      (numbers (if_granted (feed_says D d piece out list) (closed D d ((D.stands d).taken + length piece) (fed D d piece list)) d))
      state
  pub output : out' ≡ cond called (output_of (feed_says D d piece out list) (fed D d piece list).kept.out out) out
  pub entries : list' ≡ cond called (if_granted (feed_says D d piece out list) (fed D d piece list).kept.list list) list

pub record Finishes {S : Type 0} (D : Decoding S) (numbers : S → List ℕ) (called : Bool) (d : S) (out list out' list' state state' says says' : List ℕ) (r : ℕ) : Type 0 where
  pub tells : Tells called (finish_says D d out list) says says' r
  pub next : state' ≡ stored called (numbers (if_granted (finish_says D d out list) (fresh D (D.stands d).room) d)) state
  pub output : out' ≡ cond called (output_of (finish_says D d out list) (ended D d list).out out) out
  pub entries : list' ≡ cond called (if_granted (finish_says D d out list) (ended D d list).list list) list

-- ---- the watch

pub record Watches (called : Bool) (d : Decoder) (b : ℕ) (state state' : List ℕ) (r : ℕ) : Type 0 where
  pub reply : r ≡ cond called (watching d b).reply not_called
  pub next : state' ≡ stored called (decoder_numbers (watching d b).state) state
