-- A LINE ENDS after 0A, after 0D unless 0A follows, after C2 85, E2 80 A8 and E2 80 A9, wherever these bytes stand, and nowhere else:
-- the lines of a place are those that end before it. Such a segment is whole: no line ends in damage.
use Rattle.std.proofs.Common.{◌≡◌, ℕ, zero, suc, ◌+◌, ◌<◌, ◌≤◌, true, false, cond, not, ◌&&◌, ◌||◌, eqb, List, [], ◌∷◌, ◌++◌, length, get_or, take, drop, sym, refl, ap, ◌∙◌, subst, ⊎_elim, true≢false, arith, length-drop, take-append-drop, length-take-le, ne_eqb, eqb-true}
use Rattle.theory.specs.Reader.{Look, body, first, rest}
use Rattle.theory.specs.Table.{◌to◌, within, Kind, whole, damage}
use Rattle.theory.specs.Tally.{size}
use Rattle.theory.specs.Sequence.{Stands}
use Rattle.theory.proofs.Cases.{split, under}
use Rattle.theory.proofs.Divisions.{first-size}
use Rattle.theory.proofs.TableDivides.{in_yes}
use Rattle.theory.proofs.PlacesFound.{PlaceOf, place_in}
use Rattle.utf8.specs.Bytes.{next, rows, lone_byte, bytes}
use Rattle.utf8.proofs.RowsOfBytes.{bytes_division, bytes_read}
use Rattle.utf8_count.specs.Counts.{end_of, end_first, ends_in}
use Rattle.utf8_count.proofs.SumsOfSegments.{Laters, formed}
use Rattle.utf8_count.proofs.LineEndsAdd.{ends_add, ends-laters}
use Rattle.place.proofs.ReaderDivides.{reader_division}
use Rattle.place.specs.Lines.{followed, ends_line}
use Rattle.place.specs.Measures.{lines_of, ruler, reader}
use Rattle.place.specs.declared.Place.{Place}
use Rattle.place.proofs.MeasuresRise.{measured, places-keep}

-- ---- the segment that stands first in a text: its bytes and those behind tell whether a line ends

pub record Ends (x : ℕ) (xs : List ℕ) : Type 0 where
  pub count : cond (ends_line (body (first bytes x xs)) (rest bytes x xs)) 1 0 ≡ end_first (x ∷ xs)
  pub whole_is : ends_line (body (first bytes x xs)) (rest bytes x xs) ≡ true → (bytes x xs).tag ≡ whole

-- a byte below 80
low_read : (x : ℕ) (xs : List ℕ) → x < 0x80 → bytes x xs ≡ record { more = zero; tag = whole; sure = true }
unfolding bytes rows
low_read x xs h = rw (in_yes (0x00 to 0x7F) x (omega arith) (omega arith))

followed-by : (xs : List ℕ) → ◌≡◌ {A = ℕ} (cond (not (followed xs)) 1 0) (cond (eqb (get_or xs 0 0) 0x0A) 0 1)
followed-by [] = refl
followed-by (y ∷ ys) = split (eqb y 0x0A) (λ e. rw e) (λ e. rw e)

low_count : (x : ℕ) (xs : List ℕ) → x < 0x80 → cond (ends_line (x ∷ []) xs) 1 0 ≡ end_first (x ∷ xs)
unfolding ends_line end_of
low_count x xs h = split (eqb x 0x0A)
    (λ e. rw e)
    (λ e. split (eqb x 0x0D)
    (λ d. rw (e, d) (followed-by xs))
    (λ d. rw (e, d, ne_eqb x 0xC2 (omega arith), ne_eqb x 0xE2 (omega arith))))

low-ends : (x : ℕ) (xs : List ℕ) → x < 0x80 → Ends x xs
low-ends x xs h =
    let r = low_read x xs h in
    record { count = rw r (low_count x xs h); whole_is = λ e. ap (λ (l : Look Kind). l.tag) r }

-- C2, which another byte follows or none
two_ends : (xs : List ℕ) → Ends 0xC2 xs
unfolding bytes rows ends_line end_of
two_ends [] = record { count = refl; whole_is = λ e. absurd (true≢false (sym e)) }
two_ends (y ∷ ys) = split (within next y)
    (λ e. record { count = rw e; whole_is = λ f. rw e })
    (λ e. record {
      count = rw (e, ne_eqb y 0x85 (λ i. true≢false (subst (λ (z : ℕ). within next z ≡ false) i e)));
      whole_is = λ f. absurd (true≢false (sym (rw e at f)));
    })

-- E2, and the bytes that may follow it
not-next : (y z : ℕ) → within next y ≡ false → within next z ≡ true → eqb y z ≡ false
not-next y z e t = ne_eqb y z (λ i. true≢false (sym t ∙ subst (λ (w : ℕ). within next w ≡ false) i e))

three-ends : (xs : List ℕ) → Ends 0xE2 xs
unfolding bytes rows ends_line end_of
three-ends [] = record { count = refl; whole_is = λ e. absurd (true≢false (sym e)) }
three-ends (y ∷ []) = split (within next y)
    (λ e. record { count = rw e (split (eqb y 0x80) (λ f. rw f) (λ f. rw f)); whole_is = λ f. absurd (true≢false (sym (rw e at f))) })
    (λ e. record { count = rw (e, not-next y 0x80 e refl); whole_is = λ f. absurd (true≢false (sym (rw e at f))) })
three-ends (y ∷ z ∷ zs) = split (within next y)
    (λ e. split (within next z)
    (λ f. record { count = rw (e, f) (third y z); whole_is = λ g. rw (e, f) })
    (λ f. record {
      count = rw (e, f, not-next z 0xA8 f refl, not-next z 0xA9 f refl) (split (eqb y 0x80) (λ g. rw g) (λ g. rw g));
      whole_is = λ g. absurd (true≢false (sym (rw (e, f) at g)));
    }))
    (λ e. record { count = rw (e, not-next y 0x80 e refl); whole_is = λ f. absurd (true≢false (sym (rw e at f))) })
  where
    third : (y z : ℕ) → ◌≡◌ {A = ℕ} (cond (eqb y 0x80 && (eqb z 0xA8 || eqb z 0xA9)) 1 0) (cond (eqb y 0x80) (cond (eqb z 0xA8) 1 (cond (eqb z 0xA9) 1 0)) 0)
    third y z = split (eqb y 0x80) (λ e. rw e (split (eqb z 0xA8) (λ f. rw f) (λ f. rw f))) (λ e. rw e)

-- any other byte of 80 or more: none ends
other_none : (x : ℕ) (ys behind : List ℕ) → 0x80 ≤ x → eqb x 0xC2 ≡ false → eqb x 0xE2 ≡ false → ends_line (x ∷ ys) behind ≡ false
unfolding ends_line
other_none x [] behind h c e = rw (ne_eqb x 0x0A (omega arith), ne_eqb x 0x0D (omega arith))
other_none x (y ∷ []) behind h c e = rw c
other_none x (y ∷ z ∷ []) behind h c e = rw e
other_none x (y ∷ z ∷ t ∷ ts) behind h c e = refl

other-ends : (x : ℕ) (xs : List ℕ) → 0x80 ≤ x → eqb x 0xC2 ≡ false → eqb x 0xE2 ≡ false → Ends x xs
unfolding end_of
other-ends x xs h c e =
    let n = other_none x (take (bytes x xs).more xs) (rest bytes x xs) h c e in
    record {
      count = rw (n, ne_eqb x 0x0A (omega arith), ne_eqb x 0x0D (omega arith), c, e);
      whole_is = λ f. absurd (true≢false (sym f ∙ n));
    }

pub first_ends : (x : ℕ) (xs : List ℕ) → Ends x xs
first_ends x xs = under x 0x80
    (low-ends x xs)
    (λ h. split (eqb x 0xC2)
    (λ c. subst (λ (y : ℕ). Ends y xs) (sym (eqb-true x 0xC2 c)) (two_ends xs))
    (λ c. split (eqb x 0xE2)
    (λ e. subst (λ (y : ℕ). Ends y xs) (sym (eqb-true x 0xE2 e)) (three-ends xs))
    (other-ends x xs h c)))

-- ---- behind its first byte there are only later bytes, which begin no line's end

laters_front : (xs ys : List ℕ) → Laters (xs ++ ys) → Laters xs
laters_front [] ys a = tt
laters_front (x ∷ xs) ys a = (a.0, laters_front xs ys a.1)

pub segment-laters : (x : ℕ) (xs : List ℕ) → Laters (take (bytes x xs).more xs)
segment-laters x xs = of-kind (bytes x xs).tag (bytes x xs).more (bytes_read.stands x xs)
  where
    of-kind : (t : Kind) (more : ℕ) → Stands rows (x ∷ xs) lone_byte (suc more) t → Laters (take more xs)
    of-kind whole more s = (formed (x ∷ take more xs) s.sequence).1
    of-kind (damage c) more s = ⊎_elim
        (λ l. laters_front (take more xs) l.0.begun.others (formed (x ∷ (take more xs ++ l.0.begun.others)) l.0.begun.sequence).1)
        (λ o. let z : more ≡ zero = omega (arith, o.one) in rw z tt)
        s.part

-- A SEGMENT ENDS THE LINES that begin in its bytes
pub segment-ends : (x : ℕ) (xs : List ℕ) → ends_in (size (first reader x xs)) (x ∷ xs) ≡ lines_of (first reader x xs)
segment-ends x xs =
    let n : ℕ = (bytes x xs).more in
    let l : length (take n xs) ≡ n = length-take-le n xs (bytes_division.fits x xs) in
    let t : ends_in n xs ≡ 0 = rw (l, take-append-drop n xs) at (ends-laters (take n xs) (drop n xs) (segment-laters x xs)) in
    let e : ends_in (length (take n xs)) xs ≡ 0 = rw l t in
    omega (arith, e, (first_ends x xs).count)

-- THE LINES OF A PLACE: with those of the rest they make those of the text, all the way
pub lines_are : (text : List ℕ) {q : Place} → PlaceOf reader ruler text q → q.lines ≡ ends_in q.bytes text
lines_are text {q} b =
    let e : q.bytes + length (drop q.bytes text) ≡ length text = omega (arith, length-drop q.bytes text, place_in reader measured text b) in
    let s = rw e at (ends_add q.bytes (length (drop q.bytes text)) text) in
    omega (arith, s, places-keep reader_division measured Counted keep text b (omega arith))
  where
    Counted : Place → List ℕ → Type 0
    Counted p ahead = p.lines + ends_in (length ahead) ahead ≡ ends_in (length text) text

    keep : (p : Place) (x : ℕ) (xs : List ℕ) → Counted p (x ∷ xs) → Counted (ruler.step p (first reader x xs)) (rest reader x xs)
    keep p x xs c =
        let n : ℕ = size (first reader x xs) in
        let z : n ≡ suc (reader x xs).more = first-size reader_division x xs in
        let e : n + length (rest reader x xs) ≡ length (x ∷ xs) = omega (arith, z, length-drop (reader x xs).more xs, reader_division.fits x xs) in
        let d : drop n (x ∷ xs) ≡ rest reader x xs = rw z in
        let s = rw (e, d) at (ends_add n (length (rest reader x xs)) (x ∷ xs)) in
        omega (arith, s, segment-ends x xs, c)
