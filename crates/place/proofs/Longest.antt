-- What is cut is the longest beginning that ends at a boundary and stays within the maximum.
use Rattle.std.proofs.Common.{◌≡◌, ℕ, ◌≤◌, List, [], length, take, refl, ap, ◌∙◌, le_refl, arith, length-take-le}
use mathlib.Core.List.{foldl}
use Rattle.theory.specs.Reader.{cut}
use Rattle.theory.specs.Place.{last}
use Rattle.theory.proofs.PlacesFound.{bytes-mono, rise-mono, last-le, last-boundary, last-from, last-most, last-stays, PlaceOf, place_in}
use Rattle.place.specs.Measures.{ruler, reader}
use Rattle.place.specs.Cutting.{beginning}
use Rattle.place.specs.declared.Place.{Place}
use Rattle.place.proofs.MeasuresRise.{measured, Rising}

-- THE LONGEST BEGINNING: it ends at a place that counts at most `most`, and no such place lies behind it
pub record Longest (m : Place → ℕ) (most : ℕ) (text part : List ℕ) : Type 0 where
  pub end : Place
  pub place : PlaceOf reader ruler text end
  pub part_is : part ≡ take end.bytes text
  pub long-is : length part ≡ end.bytes
  pub within : m end ≤ most
  pub longest : (q : Place) → PlaceOf reader ruler text q → m q ≤ most → q.bytes ≤ end.bytes

module _ (m : Place → ℕ) (r : Rising m) (text : List ℕ) where
  pub cut-longest : (most : ℕ) → Longest m most text (beginning m most text)
  cut-longest most =
      let end : Place = last ruler.step m most ruler.zeroth (cut reader text) in
      let b : PlaceOf reader ruler text end = last-boundary ruler.step m most ruler.zeroth (cut reader text) in
      record {
        end = end;
        place = b;
        part_is = refl;
        long-is = length-take-le end.bytes text (place_in reader measured text b);
        within = last-le ruler.step m most ruler.zeroth (cut reader text) (rw r.none (omega arith));
        longest = λ q. last-most ruler.step m (rise-mono ruler.step m r.rises) (λ p. p.bytes) (bytes-mono measured) most;
      }

  -- maximum 0 gives the empty part
  pub cut-none : beginning m 0 text ≡ []
  cut-none = ap (λ (p : Place). take p.bytes text) (last-stays ruler.step m r.rises 0 ruler.zeroth (cut reader text) (omega arith))

  -- CUT BY THE COUNT OF A PLACE: exactly the text before that place
  pub cut-place : (q : Place) → PlaceOf reader ruler text q → beginning m (m q) text ≡ take q.bytes text
  cut-place q b = ap (λ (p : Place). take p.bytes text) ends
    where
      h : m (foldl ruler.step ruler.zeroth b.front) ≤ m q
      h = rw b.place (le_refl (m (foldl ruler.step ruler.zeroth b.front)))

      ends : last ruler.step m (m q) ruler.zeroth (cut reader text) ≡ q
      ends =
          ap (last ruler.step m (m q) ruler.zeroth) b.joined
          ∙ last-from ruler.step m (rise-mono ruler.step m r.rises) (m q) ruler.zeroth b.front b.behind h
          ∙ rw (← b.place) (last-stays ruler.step m r.rises (m q) q b.behind (le_refl (m q)))
