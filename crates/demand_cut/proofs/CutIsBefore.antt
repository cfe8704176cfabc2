-- Cut by a count of a place, a text is what lies before it.
use mathlib.Core.Path.{◌≡◌, sym, ap, ◌∙◌}
use Prim.Native.Nat.{ℕ}
use mathlib.Core.List.{List}
use lib.ListN.{length, take}
use lib.Seq.{length-take-le}
use Rattle.theory.proofs.PlacesFound.{PlaceOf, place_in}
use Rattle.place.specs.Measures.{ruler, reader}
use Rattle.place.specs.Cutting.{beginning}
use Rattle.place.specs.Lookup.{told_placed, lookup_says}
use Rattle.place.specs.declared.Place.{Place}
use Rattle.std.specs.Prelude.{Result}
use Rattle.terms.specs.declared.Refusal.{Refusal}
use Rattle.place.proofs.MeasuresRise.{measured, Rising, bytes_rise}
use Rattle.place.proofs.FoundByCounts.{finds-place, finds_undo}
use Rattle.place.proofs.Longest.{cut-place}
use Rattle.demand_cut.specs.Inside.Cuttings.{IsPlace, FoundIn}

module _ (text : List ℕ) (p : Place) (h : IsPlace text p) where
  found : PlaceOf reader ruler text p
  found = finds-place (λ q. q.bytes) p.bytes text p h

  pub place-long : p.bytes ≡ length (take p.bytes text)
  place-long = sym (length-take-le p.bytes text (place_in reader measured text found))

  -- what is cut by a count of it is what lies before it
  pub same-cut : (m : Place → ℕ) → Rising m → {part : List ℕ} → part ≡ beginning m (m p) text → part ≡ take p.bytes text
  same-cut m r e = e ∙ cut-place m r text p found

-- what a lookup by any measure tells is a place
pub found_in : (m : Place → ℕ) (o : ℕ) (text : List ℕ) {r : Result Place Refusal} → told_placed r ≡ lookup_says m o text → FoundIn text r
found_in m o text told p e = finds_undo m (λ q. q.bytes) bytes_rise o text p (sym told ∙ ap told_placed e)
