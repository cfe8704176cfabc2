-- The watch of a whole text, byte by byte, and a feed of it.
use Rattle.std.specs.Prelude.{◌≡◌, ℕ, Bool, true}
use mathlib.Core.List.{List, foldl}
use Rattle.terms.specs.Limits.{fresh_of}
use Rattle.terms.specs.Told.{if_granted}
use Rattle.terms.specs.Writing.{output_of}
use Rattle.decoder.specs.State.{fed}
use Rattle.decoder.specs.Feeding.{feed_says}
use Rattle.decoder_watch.specs.Watching.{watching}
use Rattle.decoder_watch.specs.declared.Watched.{Watched}

-- the last state and the last reply
abbrev pub watches : Watched → List ℕ → Watched
watches = foldl (λ (w : Watched) (b : ℕ). watching w.state b)

-- THE WATCH COMES TO WHAT ONE FEED COMES TO: the answer is yes, and the lent output and list hold what the feed leaves there
pub record Watches (room : ℕ) (text out list out' list' : List ℕ) (r : Bool) : Type 0 where
  pub yes : r ≡ true
  pub output : out' ≡ output_of (feed_says (fresh_of room) text out list) (fed (fresh_of room) text list).kept.out out
  pub entries : list' ≡ if_granted (feed_says (fresh_of room) text out list) (fed (fresh_of room) text list).kept.list list
