-- The last place that counts at most so much, by any measure, from the place that a walk has reached.
use mathlib.Core.Path.{◌≡◌, sym, ◌∙◌}
use Prim.Native.Nat.{ℕ, ◌+◌, ◌≤◌, ◌<◌}
use mathlib.Core.List.{List}
use lib.ListN.{length, drop, drop_of_length-le}
use Rattle.theory.specs.Reader.{cut}
use Rattle.theory.specs.Tally.{size}
use Rattle.theory.specs.Place.{last}
use Rattle.theory.proofs.Divisions.{cut-nil}
use Rattle.theory.proofs.PlacesFound.{last-over, last-here, last-boundary, place_in}
use Rattle.place.specs.Measures.{ruler, reader}
use Rattle.place.specs.Cutting.{ending}
use Rattle.place.specs.Walk.{reached}
use Rattle.place.specs.declared.Place.{Place}
use Rattle.place.proofs.MeasuresRise.{measured}
use Rattle.place.proofs.OneStep.{Taken}
use Rattle.place.proofs.WalkReached.{Reached, reached-next}

abbrev pub Keeps : (Place → ℕ) → ℕ → Place → List ℕ → ℕ → Place → Type 0
Keeps m most = Reached (last ruler.step m most)

module _ (m : Place → ℕ) (most : ℕ) {from : Place} {text : List ℕ} {at : ℕ} {p : Place} (r : Keeps m most from text at p) where
  -- the next segment is within the maximum
  pub keeps-next : {at' : ℕ} {q : Place} → Taken text at p q → m q ≤ most → q.bytes ≡ from.bytes + at' → Keeps m most from text at' q
  keeps-next t h e =
      reached-next r t e (λ ss. last-over ruler.step m most p t.segment ss (rw t.place at h) ∙ rw (← t.place))

  -- the next segment goes over it, or the text has ended
  pub keeps-over : {q : Place} → Taken text at p q → most < m q → p ≡ reached m most from text
  keeps-over t h =
      let s = t.segment in
      rw (r.same, t.cuts) (sym (last-here ruler.step m most p s (cut reader (drop (at + size s) text)) (rw t.place at h)))

  pub keeps-end : length text ≤ at → p ≡ reached m most from text
  keeps-end h = rw (r.same, drop_of_length-le text h, cut-nil reader)

-- from the start of a text it lies in the text
pub ending_in : (m : Place → ℕ) (most : ℕ) (text : List ℕ) → ending m most text ≤ length text
ending_in m most text = place_in reader measured text (last-boundary ruler.step m most ruler.zeroth (cut reader text))
