-- What both ways have found is the same: the totals, and the stored entries; each is granted exactly where it has room.
use mathlib.Core.Path.{◌≡◌, refl, sym, ap, ◌∙◌}
use Prim.Native.Nat.{ℕ, ◌*◌, min, ◌≤◌}
use mathlib.Core.Bool.{Bool, true, false, cond, ◌&&◌, beq, true≢false}
use mathlib.Core.List.{List}
use lib.ListN.{length, take, drop, length-take}
use lib.Seq.{take_at}
use lib.Dec.{leb}
use borrow.Author.Tests.{eq-eqb, leb-true}
use native.Mathlib.Omega.{arith}
use Rattle.theory.specs.Reader.{cut}
use Rattle.theory.specs.Table.{is_damage}
use Rattle.theory.specs.Tally.{written, entries}
use Rattle.theory.proofs.Cases.{split, both}
use Rattle.theory.proofs.Rows.{sets-start, written-fixed}
use Rattle.theory.proofs.TalliesAdd.{entries-length}
use Rattle.terms.specs.Limits.{limit, most_room, entry_width}
use Rattle.decoder_shared.specs.Decoding.{Decoding, numbers}
use Rattle.decoder_shared.proofs.Lawful.{Lawful}
use Rattle.demand_shared.specs.Equal.{equal}
use Rattle.demand_shared.proofs.EqualExactly.{equal-yes}
use Rattle.demand_feeding.specs.Feeds.{Given, through, pieces}
use Rattle.demand_feeding.specs.Pieces.{form_of}
use Rattle.demand_feeding.specs.Comparing.{enough, same_totals, stored, Fair}
use Rattle.demand_feeding.proofs.CuttingDoesNotMatter.{Ran, through-ran}
use Rattle.demand_feeding.proofs.CutByCut.{pieces-granted}

-- ---- what the tests say

beq_same : (a b : Bool) → a ≡ b → beq a b ≡ true
beq_same true true e = refl
beq_same true false e = absurd (true≢false e)
beq_same false true e = absurd (true≢false (sym e))
beq_same false false e = refl

pub beq-yes : (a b : Bool) → beq a b ≡ true → a ≡ true → b ≡ true
beq-yes true true e t = refl
beq-yes true false e t = absurd (true≢false (sym e))
beq-yes false b e t = absurd (true≢false (sym t))

-- where there is room, there is room for a start, and for the stored entries of any damages in the list
module _ (room row form places : ℕ) (e : enough room row form places ≡ true) where
  rooms : (leb room most_room ≡ true) × (leb (entry_width * room) row ≡ true)
  rooms = both (leb room most_room) (leb (entry_width * room) row) (both (leb room most_room && leb (entry_width * room) row) (leb form places) e).0

  pub enough-start : room ≤ most_room
  enough-start = leb-true room most_room rooms.0

  pub enough-stored : (count : ℕ) → entry_width * min room count ≤ row
  enough-stored count = omega (arith, leb-true (entry_width * room) row rooms.1)

-- ---- what a way has found

module _ {S : Type 0} (D : Decoding S) (room : ℕ) (row text out : List ℕ) (v : Given) (r : Ran D room row text out v) where
  -- the first entries of the text, as far as there is room
  stored_is : stored room v.found.count v.list ≡ written numbers (take room (entries is_damage 0 (cut D.look text)))
  stored_is =
      let es = entries is_damage 0 (cut D.look text) in
      let ns : List ℕ = written numbers (take room es) in
      let n : ℕ = entry_width * min room v.found.count in
      let long : length ns ≡ entry_width * length (take room es) = written-fixed numbers entry_width (λ e. refl) (take room es) in
      let few : length ns ≡ n = omega (arith, long, length-take room es, entries-length is_damage 0 (cut D.look text), r.count-is) in
      ap (take n) (r.list-is ∙ sets-start row ns (omega (arith, few, r.listed_in))) ∙ take_at ns (drop (length ns) row) n few

module _ {S : Type 0} (D : Decoding S) (room : ℕ) (row row' text out out' : List ℕ) (v w : Given)
    (r : Ran D room row text out v) (s : Ran D room row' text out' w) where
  same_count : v.found.count ≡ w.found.count
  same_count = r.count-is ∙ sym s.count-is

  same-totals : same_totals v.found w.found ≡ true
  same-totals = rw (
    eq-eqb v.found.whole w.found.whole (r.whole_is ∙ sym s.whole_is),
    eq-eqb v.found.damaged w.found.damaged (r.damaged-is ∙ sym s.damaged-is),
    eq-eqb v.found.count w.found.count same_count,
  )

  same-stored : stored room v.found.count w.list ≡ stored room v.found.count v.list
  same-stored = ap (λ (n : ℕ). stored room n w.list) same_count ∙ stored_is D room row' text out' w s ∙ sym (stored_is D room row text out v r)

-- ---- TWO WAYS THROUGH A TEXT within the limit, beside its whole repair

module _ {S : Type 0} (D : Decoding S) (L : Lawful D) (room : ℕ) (text : List ℕ) (within : length text ≤ limit)
    (cuts cuts' few few' : List ℕ) (once once-list parts parts-list : List ℕ) (v w : Given)
    (e : v ≡ through D room text (pieces text cuts few once) once once-list)
    (f : w ≡ through D room text (pieces text cuts' few' parts) parts parts-list)
    (vo : length v.out ≡ length once) (vl : length v.list ≡ length once-list)
    (wo : length w.out ≡ length parts) (wl : length w.list ≡ length parts-list)
    (whole : List ℕ) (form : whole ≡ form_of D text) where
  abbrev once-enough : Bool
  once-enough = enough room (length v.list) (length whole) (length v.out)

  abbrev parts-enough : Bool
  parts-enough = enough room (length w.list) (length whole) (length w.out)

  once-due : v.found.granted ≡ once-enough
  once-due = rw (vo, vl, form) (pieces-granted D L room once-list text once few cuts within v e)

  parts-due : w.found.granted ≡ parts-enough
  parts-due = rw (wo, wl, form) (pieces-granted D L room parts-list text parts few' cuts' within w f)

  once-ran : v.found.granted ≡ true → Ran D room once-list text once v
  once-ran = through-ran D room once-list text once L (pieces text cuts few once) v e

  parts-ran : w.found.granted ≡ true → Ran D room parts-list text parts w
  parts-ran = through-ran D room parts-list text parts L (pieces text cuts' few' parts) w f

  abbrev same : Bool
  same = same_totals v.found w.found && equal (stored room v.found.count w.list) (stored room v.found.count v.list)

  found-same : cond (v.found.granted && w.found.granted) same true ≡ true
  found-same = split (v.found.granted && w.found.granted)
      (λ t.
      let b = both v.found.granted w.found.granted t in
      let r = once-ran b.0 in
      let s = parts-ran b.1 in
      rw (
        t,
        same-totals D room once-list parts-list text once parts v w r s,
        equal-yes (stored room v.found.count w.list) (stored room v.found.count v.list)
            (same-stored D room once-list parts-list text once parts v w r s),
      ))
      (λ t. rw t)

  -- what they have found is alike, and what each has written is the whole repair
  pub found-fair : Fair room whole v.found v.out v.list w.found w.out w.list
  found-fair = record {
    alike = rw (beq_same v.found.granted once-enough once-due, beq_same w.found.granted parts-enough parts-due) found-same;
    once-wrote = λ g. let r = once-ran g in record { within = r.fits; output = r.output ∙ sym form };
    parts-wrote = λ g. let r = parts-ran g in record { within = r.fits; output = r.output ∙ sym form };
  }
