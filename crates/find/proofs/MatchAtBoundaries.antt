-- A MATCH OF A NON-EMPTY NEEDLE BEGINS AND ENDS AT BOUNDARIES of the entry, damaged or not.
use mathlib.Core.Path.{◌≡◌, refl, sym, ap, ◌∙◌}
use Prim.Native.Nat.{ℕ, ◌+◌, ◌<◌}
use mathlib.Core.Bool.{false, true≢false}
use mathlib.Core.List.{List, [], ◌∷◌, ◌++◌, append_assoc}
use Rattle.std.specs.Prelude.{Some}
use lib.ListN.{length, take, drop, take-append-drop}
use lib.Seq.{length-take-le, drop-drop}
use native.Mathlib.Omega.{arith}
use Rattle.theory.specs.Reader.{first, rest, cut}
use Rattle.theory.specs.Table.{is_damage, within}
use Rattle.theory.specs.Tally.{total, size}
use Rattle.theory.proofs.Cases.{split}
use Rattle.theory.proofs.Divisions.{cut-cons, cut-size, cut-append, total_append}
use Rattle.theory.proofs.WholeRuns.{Undamaged, run_settled}
use Rattle.theory.proofs.BeginsAnywhere.{InFront, begins_anywhere}
use Rattle.theory.proofs.TableDivides.{in_range}
use Rattle.terms.specs.Strict.{damages}
use Rattle.terms.proofs.ConvertsBack.{none-whole}
use Rattle.utf8.specs.Bytes.{next, rows, lone_byte, bytes}
use Rattle.utf8.proofs.RowsOfBytes.{at_none, bytes_division, whole-sure}
use Rattle.utf8_check.proofs.RunDivides.{whole_tags}
use Rattle.find.specs.Match.{first_match}
use Rattle.find.specs.Boundaries.{Boundary, Bounded}
use Rattle.find.specs.Inside.Compared.{Stands}
use Rattle.find.proofs.FirstMatch.{match_stands, empty_match, stands-part}

-- the entry around the needle
around : (entry needle : List ℕ) (k : ℕ) → Stands entry needle k → entry ≡ take k entry ++ (needle ++ drop (k + length needle) entry)
around entry needle k s =
    sym (take-append-drop k entry)
    ∙ ap (λ (l : List ℕ). take k entry ++ l) (sym (take-append-drop (length needle) (drop k entry)) ∙ rw (stands-part entry needle k s, drop-drop))

-- the first byte of a whole segment goes on with no sequence
first_byte_lem : (x : ℕ) (xs : List ℕ) → is_damage (bytes x xs).tag ≡ false → within next x ≡ false
unfolding bytes rows
first_byte_lem x xs w = split (within next x)
    (λ e.
    let r = in_range next x e in
    let n = at_none 1 refl x (omega arith) in
    absurd (true≢false (rw n at w)))
    (λ e. e)

-- such a byte begins a segment wherever it stands
in_front : (y : ℕ) → within next y ≡ false → (xs ys : List ℕ) → InFront bytes (xs ++ y ∷ ys) (y ∷ ys) (length xs)
unfolding bytes rows
in_front = begins_anywhere next rows refl lone_byte

-- behind a well-formed needle the rest divides by itself
cut_needle : (needle text : List ℕ) → Undamaged is_damage (cut bytes needle) → cut bytes (needle ++ text) ≡ cut bytes needle ++ cut bytes text
cut_needle needle text w = cut-append bytes_division needle text ∙ rw (run_settled is_damage bytes whole-sure needle w)

stands_bounded : (entry : List ℕ) (y : ℕ) (ys : List ℕ) (k : ℕ) → Undamaged is_damage (cut bytes (y ∷ ys)) → Stands entry (y ∷ ys) k
    → Bounded entry (y ∷ ys) k
stands_bounded entry y ys k w s =
    record {
      begin = record { front = f.front; behind = cut bytes (needle ++ tail); divided = divided; sized = sized };
      end = record {
        front = f.front ++ cut bytes needle;
        behind = cut bytes tail;
        divided = divided ∙ rw (cut_needle needle tail w, append_assoc);
        sized = rw total_append (omega (arith, sized, cut-size bytes needle));
      };
    }
  where
    needle : List ℕ
    needle = y ∷ ys

    tail : List ℕ
    tail = drop (k + length needle) entry

    begun : Undamaged is_damage (first bytes y ys ∷ cut bytes (rest bytes y ys))
    begun = rw (cut-cons bytes y ys) at w

    f : InFront bytes (take k entry ++ (needle ++ tail)) (needle ++ tail) (length (take k entry))
    f = in_front y (first_byte_lem y ys begun.0) (take k entry) (ys ++ tail)

    divided : cut bytes entry ≡ f.front ++ cut bytes (needle ++ tail)
    divided = ap (cut bytes) (around entry needle k s) ∙ f.divided

    sized : total size f.front ≡ k
    sized = f.sized ∙ length-take-le k entry (omega (arith, s.inside))

-- THE THEOREM, wherever the bytes of a well-formed needle stand
pub match_bounded : (entry needle : List ℕ) (k : ℕ) → damages bytes needle ≡ [] → 0 < length needle → Stands entry needle k → Bounded entry needle k
match_bounded entry [] k d h s = absurd (omega arith)
match_bounded entry (y ∷ ys) k d h s =
    stands_bounded entry y ys k (whole_tags (cut bytes (y ∷ ys)) (none-whole 0 (cut bytes (y ∷ ys)) d)) s

-- and so of the first match, as an empty needle's is at 0
pub first_bounded : (entry needle : List ℕ) (k : ℕ) → damages bytes needle ≡ [] → first_match entry needle ≡ Some k → Bounded entry needle k
first_bounded entry [] k d e =
    let z : k ≡ 0 = some_same (sym e ∙ empty_match entry [] refl) in
    let b : Boundary entry 0 = record { front = []; behind = cut bytes entry; divided = refl; sized = refl } in
    rw z (record { begin = b; end = b })
  where
    some_same : {a b : ℕ} → Some a ≡ Some b → a ≡ b
    some_same q = cc
first_bounded entry (y ∷ ys) k d e = match_bounded entry (y ∷ ys) k d (omega arith) (match_stands entry (y ∷ ys) k e)
