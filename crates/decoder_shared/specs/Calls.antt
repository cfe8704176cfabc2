-- Start, feed and finish: what they answer, the state that they hand back, and what the lent output and list then hold.
use Rattle.std.specs.Prelude.{◌≡◌, ℕ, ◌+◌, cond, List, [], ◌∷◌, length, ltb, Result}
use Rattle.terms.specs.Limits.{most_room}
use Rattle.terms.specs.Told.{told, if_granted}
use Rattle.terms.specs.Writing.{roomed, output_of}
use Rattle.decoder_shared.specs.Decoding.{Decoding, fresh, fed, ended, closed}
use Rattle.decoder_shared.specs.Checks.{admitted}
use Rattle.terms.specs.declared.Refusal.{Refusal}
use Rattle.decoder_shared.specs.declared.Totals.{Totals}

-- what finish tells
abbrev pub told_total : Result Totals Refusal → List ℕ
told_total = told (λ (t : Totals). t.written ∷ t.whole ∷ t.damaged ∷ t.count ∷ [])

-- ---- START: refusal 7 where the room is over 4,096, with the fresh state of room 0

abbrev pub start_says : ℕ → List ℕ
start_says room = cond (ltb most_room room) (7 ∷ []) (0 ∷ [])

module _ {S : Type 0} (D : Decoding S) where
  pub record Starts (room : ℕ) (said : List ℕ) (next : S) : Type 0 where
    pub answer : said ≡ start_says room
    pub state : next ≡ cond (ltb most_room room) (fresh D 0) (fresh D room)

  -- ---- FEED: refusal 8, 2, 7, 3 in this order; then everything that is settled is written

  abbrev pub feed_says : S → List ℕ → List ℕ → List ℕ → List ℕ
  feed_says d piece out list = admitted D d (length piece) (length list) (roomed (length out) (fed D d piece list).kept.out)

  pub record Feeds (d : S) (piece out list out' list' said : List ℕ) (next : S) : Type 0 where
    pub answer : said ≡ feed_says d piece out list
    pub state : next ≡ if_granted (feed_says d piece out list) (closed D d ((D.stands d).taken + length piece) (fed D d piece list)) d
    pub output : out' ≡ output_of (feed_says d piece out list) (fed D d piece list).kept.out out
    pub entries : list' ≡ if_granted (feed_says d piece out list) (fed D d piece list).kept.list list

  -- ---- FINISH: refusal 8, 7, 3; then what is pending is one damage, and the state is fresh again

  abbrev pub finish_says : S → List ℕ → List ℕ → List ℕ
  finish_says d out list =
      let l = ended D d list in
      admitted D d 0 (length list)
      (cond (ltb (length out) (length l.out)) (3 ∷ length l.out ∷ [])
      (0 ∷ length l.out ∷ l.whole ∷ l.damaged ∷ l.count ∷ []))

  pub record Finishes (d : S) (out list out' list' said : List ℕ) (next : S) : Type 0 where
    pub answer : said ≡ finish_says d out list
    pub state : next ≡ if_granted (finish_says d out list) (fresh D (D.stands d).room) d
    pub output : out' ≡ output_of (finish_says d out list) (ended D d list).out out
    pub entries : list' ≡ if_granted (finish_says d out list) (ended D d list).list list
