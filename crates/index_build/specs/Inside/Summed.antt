-- The counts behind some bytes of a text, by what each byte counts, and the boundary at or before a byte.
use Rattle.std.specs.Prelude.{◌≡◌, ℕ, zero, suc, ◌+◌, ◌-◌, ◌*◌, ◌≤◌, ◌<◌, false, cond, List, length, get_or, take, drop, leb, eqb}
use Rattle.terms.specs.Limits.{limit}
use Rattle.utf8_scan.specs.Stands.{is_later}
use Rattle.utf8_count.specs.Counts.{four_of, end_first, ends_in, sums_of}
use Rattle.place.specs.Measures.{place}
use Rattle.place.specs.declared.Place.{Place}

-- the counts behind the first n bytes of a text, by their sums; a line's end is told by the bytes behind its first one
abbrev pub summed : Place → List ℕ → ℕ → Place
summed p text n =
    let s = sums_of (take n text) in
    place (p.bytes + n) (p.units + s.starts + s.fours) (p.points + s.starts) (p.lines + ends_in n text)

-- the bytes stay within the limit; a part of a run may end inside a segment of four bytes, whose two units its first byte counts
pub record Adds (p : Place) (text : List ℕ) (n : ℕ) : Type 0 where
  pub inside : n ≤ length text
  pub within : p.bytes + n ≤ limit
  pub units : p.units ≤ 2 * p.bytes
  pub points : p.points ≤ p.bytes
  pub lines : p.lines ≤ p.bytes

-- the last byte at or before byte n that is no later byte, or the first one
abbrev pub boundary : List ℕ → ℕ → ℕ
boundary text zero = zero
boundary text (suc n) = cond (is_later (get_or text (suc n) 0)) (boundary text n) (suc n)

-- a run begins with no later byte, and q counts its first n bytes too
pub record Covers (q : Place) (text : List ℕ) (run n : ℕ) : Type 0 where
  pub inside : n ≤ run
  pub there : run ≤ length text
  pub first : 0 < run → is_later (get_or text 0 0) ≡ false
  pub bytes : n ≤ q.bytes
  pub units : (sums_of (take n text)).starts + (sums_of (take n text)).fours ≤ q.units
  pub points : (sums_of (take n text)).starts ≤ q.points
  pub lines : ends_in n text ≤ q.lines

-- what the segment that is begun there counts is taken off; the end of the run is a boundary
abbrev pub back : List ℕ → ℕ → ℕ → Place → Place
back text run n q =
    let b = boundary text n in
    cond (leb run n) q
    (cond (eqb b n) q
    (place (q.bytes - (n - b)) (q.units - (1 + four_of (get_or text b 0))) (q.points - 1) (q.lines - end_first (drop b text))))
