-- One number at the start of an output, by two stores or exactly, and in the walk over a page text.
use mathlib.Core.Path.{◌≡◌, refl, ap}
use Prim.Native.Nat.{ℕ, ◌+◌, ◌/◌, ◌≤◌, ◌<◌}
use mathlib.Core.List.{List, [], ◌∷◌, append-nil}
use lib.ListN.{length, get_or, set, length-append}
use borrow.Author.Tests.{lt-ltb, le-ltb}
use native.Mathlib.Omega.{arith}
use Rattle.theory.proofs.Cases.{under}
use Rattle.theory.proofs.Rows.{sets-start}
use Rattle.terms.specs.Form.{converted}
use Rattle.terms.proofs.WalkWrites.{Passed, left, left_end, lent, back}
use Rattle.utf8.specs.Scalar.{later, sequence, utf8}
use Rattle.utf8.proofs.FaithfulForm.{is_one, is-two}
use Rattle.page.specs.Paged.{paged}
use Rattle.convert_point.specs.Puts.{fitting, Puts}
use Rattle.convert_point.proofs.PointWritten.{fits}
use Rattle.convert_from_page.specs.Inside.Store.{first_of, Stores}
use Rattle.convert_from_page.proofs.PageBytes.{one-at-least, passed-byte, some_left}
use Rattle.convert_from_page.proofs.StoredOver.{Stored, stored-start, stored-room, stored_on, stored-end}

-- two stores put a number below 0x800, and one place more where it takes one
pub two-stored : (c : ℕ) → c < 0x800 → (out : List ℕ) → 2 ≤ length out
    → Stores (sequence c) out (set (set out 0 (first_of c)) 1 (later c)) (length (sequence c))
two-stored c h out r = under c 0x80
    (λ l. record {
      count = refl;
      over = later c ∷ [];
      few = omega arith;
      output = rw (is_one c l, lt-ltb c 0x80 l) (sets-start out (c ∷ later c ∷ []) r);
    })
    (λ l. record {
      count = refl;
      over = [];
      few = omega arith;
      output = rw (is-two c l h, le-ltb c 0x80 l) (sets-start out ((0xC0 + c / 0x40) ∷ later c ∷ []) r);
    })

-- what is put exactly is stored
abbrev pub exactly : {vs out out' : List ℕ} {n : ℕ} → Puts vs out out' n → Stores vs out out' n
exactly p = record { count = p.count; over = []; few = omega arith; output = rw append-nil p.output }

-- a unit that has room is put whole
pub unit-put : (c : ℕ) → c < 0x10000 → (out out' : List ℕ) (n : ℕ) → length (sequence c) ≤ length out
    → Puts (fitting utf8 (length out) c) out out' n → Puts (sequence c) out out' n
unit-put c h out out' n r p = rw (fits utf8 c out r (omega arith)) at p

-- the walk over a text, byte by byte
module _ (table text out₀ : List ℕ) where
  abbrev rest : ℕ → List ℕ
  rest = left (paged table) utf8 text

  abbrev pub Walked : List ℕ → ℕ → ℕ → Type 0
  Walked = Stored rest (length text) out₀

  pub walked_start : Walked out₀ 0 0
  walked_start = stored-start rest (length text) out₀

  module _ (room : length (converted (paged table) utf8 text) ≤ length out₀) (out : List ℕ) (at n : ℕ) (w : Walked out at n)
      (byte : get_or text at 0 < 256) (c : ℕ) (number : c ≡ get_or table (get_or text at 0) 0) where
    here : at < length text → Passed rest (length text) at 1 (sequence c)
    here h = rw number (passed-byte table text at h byte)

    -- a byte that is not the last leaves room for one place more
    module _ (h : at + 2 ≤ length text) where
      more_left : length (sequence c) + 1 ≤ length (rest at)
      more_left = omega (arith, ap length (here (omega arith)).same, length-append (sequence c) (rest (at + 1)), some_left table text (at + 1) (omega arith))

      pub turn-room : (2 ≤ length (lent out n)) × (length (sequence c) ≤ length (lent out n))
      turn-room =
          let r : length (rest at) ≤ length (lent out n) = stored-room rest (length text) out₀ out at n w room in
          (omega (arith, more_left, r, one-at-least c), omega (arith, more_left, r))

      pub turn_on : (ys : List ℕ) (put : ℕ) → Stores (sequence c) (lent out n) ys put → Walked (back out n ys) (at + 1) (n + put)
      turn_on ys put s =
          stored_on rest (length text) out₀ out at n w room 1 (sequence c) (here (omega arith)) ys put s
          (omega (arith, more_left, s.few, length-append (sequence c) s.over))

    -- the last byte is put exactly
    module _ (h : at + 1 ≡ length text) (unit : c < 0x10000) (ys : List ℕ) (put : ℕ) (p : Puts (fitting utf8 (length (lent out n)) c) (lent out n) ys put) where
      all_left : length (sequence c) ≤ length (rest at)
      all_left = omega (arith, ap length (here (omega arith)).same, length-append (sequence c) (rest (at + 1)))

      last-put : Puts (sequence c) (lent out n) ys put
      last-put = unit-put c unit (lent out n) ys put (omega (arith, all_left, stored-room rest (length text) out₀ out at n w room)) p

      last : Walked (back out n ys) (at + 1) (n + put)
      last = stored_on rest (length text) out₀ out at n w room 1 (sequence c) (here (omega arith)) ys put (exactly last-put) (rw append-nil all_left)

      pub last_on : Walked (back out n ys) (at + 1) (n + put) × Puts (converted (paged table) utf8 text) out₀ (back out n ys) (n + put)
      last_on =
          let e = stored-end rest (length text) out₀ (back out n ys) (at + 1) (n + put) last (left_end (paged table) utf8 text (at + 1) (omega arith)) in
          (last, record { count = e.0; output = e.1 })
