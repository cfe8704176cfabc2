-- A match is found at places: a lookup by bytes grants one at its start and at its end, which its other counts find too.
use mathlib.Core.Path.{◌≡◌, refl, ◌∙◌, subst}
use Prim.Native.Nat.{ℕ, ◌+◌, ◌≤◌}
use native.Mathlib.Nat.{zero-add}
use mathlib.Core.List.{List, [], ◌∷◌, foldl}
use lib.ListN.{length}
use Rattle.theory.proofs.LinesDivide.{Parted}
use Rattle.theory.proofs.PlacesFound.{bytes-foldl}
use Rattle.terms.specs.Limits.{limit}
use Rattle.place.specs.Measures.{ruler, reader}
use Rattle.place.specs.Lookup.{four_counts, lookup_says}
use Rattle.place.specs.declared.Place.{Place}
use Rattle.place.proofs.MeasuresRise.{measured, bytes_rise}
use Rattle.place.proofs.ReaderDivides.{reader_parted}
use Rattle.place.proofs.FoundByCounts.{place_finds}
use Rattle.find.specs.Match.{find_says}
use Rattle.find.specs.Boundaries.{Boundary}
use Rattle.find.proofs.MatchAtBoundaries.{first_bounded}
use Rattle.find.proofs.CheckedFirst.{found-match}
use Rattle.demand_find.specs.Inside.Found.{IsPlace}

-- a boundary of a text within the limit is a place of it
boundary-place : (text : List ℕ) (offset : ℕ) → length text ≤ limit → Boundary text offset → IsPlace text offset
boundary-place text offset h b =
    record {
      place = q;
      granted =
          subst (λ (o : ℕ). lookup_says (λ p. p.bytes) o text ≡ 0 ∷ four_counts q) there
          (place_finds (λ p. p.bytes) bytes_rise text h q
          (record { front = d.front; behind = d.behind; joined = d.divided; place = refl }));
    }
  where
    -- the reader of places has the same boundaries
    d : Parted reader text offset
    d = reader_parted (record { front = b.front; behind = b.behind; divided = b.divided; sized = b.sized })

    q : Place
    q = foldl ruler.step ruler.zeroth d.front

    there : q.bytes ≡ offset
    there = bytes-foldl measured ruler.zeroth d.front ∙ zero-add _ ∙ d.sized

module _ (entry needle : List ℕ) (k : ℕ) (e : 0 ∷ k ∷ [] ≡ find_says entry needle) where
  pub starts-at-place : IsPlace entry k
  starts-at-place =
      let f = found-match entry needle k e in
      boundary-place entry k f.within (first_bounded entry needle k f.clean f.first).begin

  pub ends-at-place : IsPlace entry (k + length needle)
  ends-at-place =
      let f = found-match entry needle k e in
      boundary-place entry (k + length needle) f.within (first_bounded entry needle k f.clean f.first).end
