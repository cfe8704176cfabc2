-- What a feed keeps, apart from the list: the state that it hands back, and the state of pieces one by one.
use mathlib.Core.Path.{◌≡◌, refl, sym, ap, ◌∙◌}
use Prim.Native.Nat.{ℕ, zero, suc, ◌+◌, ◌≤◌}
use native.Mathlib.Nat.{add-zero}
use mathlib.Core.Bool.{true}
use mathlib.Core.List.{List, [], ◌∷◌, ◌++◌, append-nil}
use lib.ListN.{length, take, drop, length-append}
use lib.Dec.{eqb}
use borrow.Author.Tests.{eqb-true}
use native.Mathlib.Omega.{arith}
use Rattle.theory.specs.Reader.{Segment, parts}
use Rattle.theory.specs.Table.{Kind, is_damage}
use Rattle.theory.specs.Tally.{total, whole_of, damaged_of, count_of, Log}
use Rattle.theory.proofs.Cases.{both}
use Rattle.theory.proofs.Divisions.{total_append, parts-append, parts-pending, parts-size}
use Rattle.theory.proofs.TalliesAdd.{whole-damaged, count-damaged, damaged-count, log_is}
use Rattle.terms.specs.Form.{mend}
use Rattle.terms.specs.Limits.{limit, entry_width, most_pending, most_damaged, unheld}
use Rattle.terms.specs.declared.Decoder.{Decoder}
use Rattle.utf8.specs.Bytes.{bytes}
use Rattle.utf8.specs.Pending.{zeros, padded}
use Rattle.utf8.specs.Scalar.{utf8}
use Rattle.utf8.proofs.RowsOfBytes.{bytes_division, damage_short}
use Rattle.utf8_pending.proofs.SettledFirst.{bytes-short, left-kept, left-tail}
use Rattle.decoder_shared.specs.Decoding.{numbers}
use Rattle.decoder.proofs.TestsAsFacts.{Sound, is_sound}
use Rattle.decoder.specs.State.{left, sound, byte_decoding, opened, fed, closed}
use Rattle.decoder.proofs.SeamSettled.{left-long}

-- the state that keeps what is settled and what is left of a text behind what a state counts
abbrev pub grown : Decoder → ℕ → List ℕ → Decoder
grown d taken text = byte_decoding.state (record {
  left = (parts bytes text).left;
  taken = taken;
  whole = d.whole + total (whole_of is_damage) (parts bytes text).done;
  damaged = d.damaged + total (damaged_of is_damage) (parts bytes text).done;
  count = d.count + total (count_of is_damage) (parts bytes text).done;
  room = d.room;
})

-- a feed makes this state, whatever the list holds
pub closed_is : (d : Decoder) (taken : ℕ) (piece list : List ℕ) → closed d taken (fed d piece list) ≡ grown d taken (left d ++ piece)
closed_is d taken piece list =
    ap (λ (l : Log). closed d taken (record { left = (parts bytes (left d ++ piece)).left; kept = l }))
    (log_is is_damage (mend utf8) numbers entry_width d.room (opened d list).kept (parts bytes (left d ++ piece)).done)

-- ---- the tests

module _ (d : Decoder) (three : length d.held ≡ most_pending) (s : Sound d) where
  -- a feed within the limit hands back a state that passes them
  pub grown-sound : (piece : List ℕ) → d.taken + length piece ≤ limit → sound (grown d (d.taken + length piece) (left d ++ piece)) ≡ true
  grown-sound piece within =
      let text = left d ++ piece in
      let n = s.numbers in
      let done = (parts bytes text).done in
      is_sound (grown d (d.taken + length piece) text) (record {
        tail = left-tail bytes-short text;
        numbers = record {
          sum = omega (arith, n.sum, whole-damaged is_damage done, parts-size bytes text, length-append (left d) piece, left-long d three s);
          within = within;
          low = omega (arith, n.low, count-damaged is_damage done);
          high = omega (arith, n.high, damaged-count is_damage bytes_division most_damaged damage_short text);
          roomy = n.roomy;
        };
      })

-- ---- pieces one by one

more : (f : Segment Kind → ℕ) (n : ℕ) (ss ts : List (Segment Kind)) → n + total f (ss ++ ts) ≡ n + total f ss + total f ts
more f n ss ts = omega (arith, total_append f ss ts)

-- a piece more, from the state behind a text
pub grown_append : (d : Decoder) (t taken : ℕ) (text piece : List ℕ)
    → grown (grown d t text) taken (left (grown d t text) ++ piece) ≡ grown d taken (text ++ piece)
grown_append d t taken text piece =
    rw (
      left-kept bytes-short text,
      parts-append bytes_division text piece,
      more (whole_of is_damage),
      more (damaged_of is_damage),
      more (count_of is_damage),
    )

-- where all behind the first n are 0, other zeros do as well
zeros_cons : (x : ℕ) (xs : List ℕ) → zeros (x ∷ xs) ≡ true → (x ≡ 0) × (zeros xs ≡ true)
zeros_cons x xs z =
    let h = both (eqb x 0) (zeros xs) z in
    (eqb-true x 0 h.0, h.1)

other-zeros : (held : List ℕ) (n : ℕ) (row : List ℕ) → zeros (drop n held) ≡ true → zeros row ≡ true → length held ≤ length row
    → take (length held) (take n held ++ row) ≡ held
other-zeros [] n row z w l = refl
other-zeros (x ∷ held) zero [] z w l = absurd (omega arith)
other-zeros (x ∷ held) zero (y ∷ row) z w l =
    let a = zeros_cons x held z in
    let b = zeros_cons y row w in
    rw (a.0, b.0) (ap (λ (r : List ℕ). 0 ∷ r) (other-zeros held zero row a.1 b.1 (omega arith)))
other-zeros (x ∷ held) (suc n) row z w l = ap (λ (r : List ℕ). x ∷ r) (other-zeros held n row z w (omega arith))

-- an empty piece changes nothing
pub grown-nothing : (d : Decoder) → length d.held ≡ most_pending → Sound d → grown d d.taken (left d ++ []) ≡ d
grown-nothing d three s =
    let row : List ℕ = unheld in
    let same : padded (left d) ≡ d.held
    = ap (λ (n : ℕ). take n (left d ++ row)) (sym three) ∙ other-zeros d.held d.pending row s.tail.unused refl (omega (arith, three)) in
    rw (append-nil, parts-pending bytes (left d) s.tail.begins, same, left-long d three s) (simp add-zero)
