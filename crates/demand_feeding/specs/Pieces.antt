-- One feed of a text and the feeds of its pieces, in buffers of their own, beside the whole repair.
use Rattle.std.specs.Prelude.{◌≡◌, ℕ, Bool, true, List, [], length}
use Rattle.theory.specs.Reader.{cut}
use Rattle.theory.specs.Tally.{written}
use Rattle.terms.specs.Told.{if_granted}
use Rattle.terms.specs.Writing.{output_of, repair_says}
use Rattle.decoder_shared.specs.Decoding.{Decoding}
use Rattle.demand_feeding.specs.Feeds.{through, pieces}

pub record Lent : Type 0 where
  pub whole : List ℕ
  pub once : List ℕ
  pub once-list : List ℕ
  pub parts : List ℕ
  pub parts-list : List ℕ

abbrev pub lent : List ℕ → List ℕ → List ℕ → List ℕ → List ℕ → Lent
lent whole once once-list parts parts-list =
    record { whole = whole; once = once; once-list = once-list; parts = parts; parts-list = parts-list }

module _ {S : Type 0} (D : Decoding S) where
  -- the whole repair of a text: what the decoder writes for each of its segments
  abbrev pub form_of : List ℕ → List ℕ
  form_of text = written D.write (cut D.look text)

  -- one feed into all the output, and the feeds of the pieces, each tried in a few places first
  abbrev pub both_fed : ℕ → List ℕ → List ℕ → List ℕ → Lent → Lent
  both_fed room text cuts few l =
      let a = through D room text (pieces text [] [] l.once) l.once l.once-list in
      let b = through D room text (pieces text cuts few l.parts) l.parts l.parts-list in
      lent l.whole a.out a.list b.out b.list

  -- WHAT IS LEFT IN THE LENT BUFFERS: the whole repair, and where it is granted, what one feed and what the feeds of pieces leave
  abbrev pub leaves : ℕ → List ℕ → List ℕ → List ℕ → Lent → Lent
  leaves room text cuts few l =
      let says = repair_says (length l.whole) text (form_of text) in
      let w = output_of says (form_of text) l.whole in
      if_granted says (both_fed room text cuts few (lent w l.once l.once-list l.parts l.parts-list)) l

-- the answer is yes, and the buffers hold what they should
pub record Yes (new should : Lent) (r : Bool) : Type 0 where
  pub yes : r ≡ true
  pub buffers : new ≡ should
