-- One step of a walk: the place behind the segment that the reader told.
use Rattle.std.proofs.Common.{◌≡◌, ℕ, suc, ◌+◌, ◌-◌, ◌%◌, ◌^◌, ◌<◌, ◌≤◌, List, [], ◌∷◌, length, take, drop, refl, ap, ◌∙◌, arith, length-drop, drop-drop}
use Rattle.theory.specs.Reader.{Reader, Look, Segment, first, cut}
use Rattle.theory.specs.Table.{Kind}
use Rattle.theory.specs.Tally.{size}
use Rattle.theory.proofs.Divisions.{Division, first-size, cut-cons}
use Rattle.terms.specs.Told as told
use Rattle.terms.specs.declared.First.{First}
use Rattle.terms.specs.declared.First.TheVariants.{Nothing, Whole, Damage, Begun}
use Rattle.terms.proofs.WalkBySegments.{part_is}
use Rattle.utf8.specs.Bytes.{bytes}
use Rattle.utf8_count.specs.Counts.{end_first}
use Rattle.place.proofs.ReaderDivides.{reader_division}
use Rattle.place.specs.Measures.{Tag, units_of, ruler, reader}
use Rattle.place.specs.Walk.{wrapped, behind, stepped_by, Roomy}
use Rattle.place.specs.declared.Place.{Place}
use Rattle.place.proofs.MeasuresRise.{one_or_none, units-by-size, units-within}
use Rattle.place.proofs.LineEnds.{first_ends}

-- ---- what `step_by` adds: nothing at the end of the text, or the reader told of `n` bytes at the start of the rest

pub stepped_end : (look : Reader Kind) (p : Place) (rest : List ℕ) (ends : ℕ) → length rest ≡ 0 → p ≡ stepped_by look p rest ends
stepped_end look p [] ends h = refl
stepped_end look p (x ∷ xs) ends h = absurd (omega arith)

told-size : (r : First) (l : Look Kind) → told.told_first r ≡ told.look_says l → told.size_of r ≡ suc l.more
told-size Nothing l e = let z : ◌≡◌ {A = ℕ} 0 1 = cc in absurd (omega arith)
told-size (Whole n) l e = cc
told-size (Damage n c) l e = cc
told-size (Begun n) l e = cc

pub added : (look : Reader Kind) → Division look → (p : Place) (rest : List ℕ) (ends : ℕ) → 0 < length rest → (r : First)
    → told.told_first r ≡ told.first_says look rest → (n : ℕ) → n ≡ told.size_of r → wrapped (behind p n ends) ≡ stepped_by look p rest ends
added look d p [] ends h r e n i = absurd (omega arith)
added look d p (x ∷ xs) ends h r e n i =
    let k : n ≡ size (first look x xs) = omega (arith, told-size r (look x xs) e, first-size d x xs) in
    rw k

-- WITH THE BYTES' READER it is the ruler's step: a segment's size tells its units, and the bytes whether a line ends behind it
pub stepped_ruled : (p : Place) (x : ℕ) (xs : List ℕ) → stepped_by bytes p (x ∷ xs) (end_first (x ∷ xs)) ≡ wrapped (ruler.step p (first reader x xs))
stepped_ruled p x xs = rw (units-by-size x xs, (first_ends x xs).count)

-- THE SUMS ARE PLAIN where there is room
pub wrapped_same : (p : Place) → p.bytes < 2 ^ 64 → p.units < 2 ^ 64 → p.points < 2 ^ 64 → p.lines < 2 ^ 64 → wrapped p ≡ p
wrapped_same p b u c l =
    let eb : p.bytes % 2 ^ 64 ≡ p.bytes = omega arith in
    let eu : p.units % 2 ^ 64 ≡ p.units = omega arith in
    let ec : p.points % 2 ^ 64 ≡ p.points = omega arith in
    let el : p.lines % 2 ^ 64 ≡ p.lines = omega arith in
    rw (eb, eu, ec, el)

pub stepped_plain : (p : Place) (x : ℕ) (xs : List ℕ) → Roomy p (x ∷ xs) → stepped_by bytes p (x ∷ xs) (end_first (x ∷ xs)) ≡ ruler.step p (first reader x xs)
stepped_plain p x xs r =
    let s : Segment Tag = first reader x xs in
    let n : size s ≤ length (x ∷ xs) = omega (arith, first-size reader_division x xs, reader_division.fits x xs) in
    stepped_ruled p x xs
    ∙ wrapped_same (ruler.step p s)
    (omega (arith, r.bytes))
    (omega (arith, r.units, units-within x xs))
    (omega (arith, r.points))
    (omega (arith, r.lines, one_or_none s))

-- ONE STEP: q is one segment behind p, which lies `at` bytes into the text
pub record Taken (text : List ℕ) (at : ℕ) (p q : Place) : Type 0 where
  pub segment : Segment Tag
  pub place : q ≡ ruler.step p segment
  pub bytes-are : q.bytes ≡ p.bytes + size segment
  pub units : units_of segment ≤ size segment
  pub inside : at + size segment ≤ length text
  pub cuts : cut reader (drop at text) ≡ segment ∷ cut reader (drop (at + size segment) text)

-- it is what a step by that reader gives of `&text[at..]`, where there is room
pub taken : (look : Reader Kind) → look ≡ bytes → (text : List ℕ) (at : ℕ) (p q : Place) (ends : ℕ) → at < length text → Roomy p (drop at text)
    → ends ≡ end_first (take (length text - at) (drop at text)) → q ≡ stepped_by look p (take (length text - at) (drop at text)) ends → Taken text at p q
taken look l text at p q ends h r n e = of-rest (drop at text) refl r (rw (n, part_is, l) at e)
  where
    of-rest : (rest : List ℕ) → drop at text ≡ rest → Roomy p rest → q ≡ stepped_by bytes p rest (end_first rest) → Taken text at p q
    of-rest [] d r e = absurd (omega (arith, length-drop at text, ap length d))
    of-rest (x ∷ xs) d r e =
        let n : size (first reader x xs) ≡ suc (reader x xs).more = first-size reader_division x xs in
        let i : q ≡ ruler.step p (first reader x xs) = e ∙ stepped_plain p x xs r in
        record {
          segment = first reader x xs;
          place = i;
          bytes-are = ap (λ (r : Place). r.bytes) i;
          units = units-within x xs;
          inside = omega (arith, n, length-drop at text, ap length d, reader_division.fits x xs);
          cuts = rw (← drop-drop (size (first reader x xs)) at text, d, n) (cut-cons reader x xs);
        }
