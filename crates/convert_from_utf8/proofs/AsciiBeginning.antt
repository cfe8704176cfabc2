-- A beginning of bytes below 0x80: each is a segment of its own, so it stays as it is in any form that writes them as they are.
use mathlib.Core.Path.{◌≡◌, refl, sym, ap}
use Prim.Native.Nat.{ℕ, zero, suc, ◌%◌, ◌≤◌, ◌<◌}
use mathlib.Core.List.{List, [], ◌∷◌, ◌++◌}
use lib.ListN.{length, take, drop, length-append, length-take}
use lib.Seq.{length-take-le, get_or-take}
use native.Mathlib.Omega.{arith}
use Rattle.theory.specs.Reader.{cut}
use Rattle.theory.specs.Table.{whole}
use Rattle.theory.proofs.SequencesAreWhole.{of_row, cut-sequence}
use Rattle.terms.specs.Form.{Form, converted}
use Rattle.terms.specs.Strict.{damages}
use Rattle.terms.proofs.ConvertsBack.{AllWhole, none-whole, whole-none}
use Rattle.utf8.specs.Bytes.{rows, lone_byte, bytes}
use Rattle.utf8.specs.Scalar.{utf8}
use Rattle.utf8.proofs.RowsOfBytes.{rows-sound}
use Rattle.convert_point.specs.Inside.Passes.{PassesTo}
use Rattle.ascii.specs.Ascii.{Ascii}

pub ascii-cut : (x : ℕ) (xs : List ℕ) → x < 0x80 → cut bytes (x ∷ xs) ≡ record { head = x; tail = []; tag = whole } ∷ cut bytes xs
unfolding bytes rows
ascii-cut x xs h = cut-sequence rows lone_byte rows-sound x [] xs (of_row rows 0 (x ∷ []) (omega arith))

-- a beginning of a part
pub ascii-part : (text : List ℕ) (near n : ℕ) → n ≤ length (take near text) → Ascii (take near text) n → Ascii text n
ascii-part text near n h p k l =
    let i : k < near = omega (arith, length-take near text) in
    rw (get_or-take near text k 0 i) at (p k l)

-- ---- the text behind it has no damage either

ascii-whole : (text : List ℕ) (n : ℕ) → n ≤ length text → Ascii text n → AllWhole (cut bytes text) → AllWhole (cut bytes (drop n text))
ascii-whole text zero h p w = w
ascii-whole [] (suc n) h p w = absurd (omega arith)
ascii-whole (x ∷ xs) (suc n) h p w =
    ascii-whole xs n (omega arith) (λ k m. p (suc k) (omega arith)) (rw (ascii-cut x xs (p 0 (omega arith))) at w).1

pub ascii-behind : (text : List ℕ) (n : ℕ) → n ≤ length text → Ascii text n → damages bytes text ≡ [] → damages bytes (drop n text) ≡ []
ascii-behind text n h p none = whole-none 0 (cut bytes (drop n text)) (ascii-whole text n h p (none-whole 0 (cut bytes text) none))

-- ---- a form that writes them as they are

module _ (G : Form) (own : (x : ℕ) → x < 0x80 → G.write x ≡ x ∷ []) where
  ascii-form : (text : List ℕ) (n : ℕ) → n ≤ length text → Ascii text n → converted utf8 G text ≡ take n text ++ converted utf8 G (drop n text)
  ascii-form text zero h p = refl
  ascii-form [] (suc n) h p = absurd (omega arith)
  ascii-form (x ∷ xs) (suc n) h p =
      let l : x < 0x80 = p 0 (omega arith) in
      let e : x % 0x80 ≡ x = omega arith in
      rw (ascii-cut x xs l, e, own x l) (ap (λ (r : List ℕ). x ∷ r) (ascii-form xs n (omega arith) (λ k m. p (suc k) (omega arith))))

  module _ (text : List ℕ) (n : ℕ) (h : n ≤ length text) (p : Ascii text n) (out : List ℕ) where
    pub ascii-room : length (converted utf8 G text) ≤ length out → n ≤ length out
    ascii-room room =
        omega (arith, room, ap length (ascii-form text n h p), length-append (take n text) (converted utf8 G (drop n text)), length-take-le n text h)

    pub ascii-passes : 0 < n → (out' : List ℕ) → out' ≡ take n text ++ drop n out → PassesTo utf8 G text out out' n n
    ascii-passes some out' e =
        let l : length (take n text) ≡ n = length-take-le n text h in
        record {
          passes = record { some = some; inside = h; form = take n text; count = sym l; parted = ascii-form text n h p };
          puts = record { count = sym l; output = rw l e };
        }
