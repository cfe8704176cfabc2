-- The steps of a tally that has room for them are those of its log: no sum and no entry loses a digit.
use mathlib.Core.Path.{◌≡◌, ap}
use Prim.Native.Nat.{ℕ, ◌+◌, ◌≤◌}
use native.Mathlib.Omega.{arith}
use Rattle.std.specs.Prelude.{◌%◌, ◌^◌, List}
use Rattle.terms.specs.Limits.{limit}
use Rattle.terms.specs.Told.{number_of, size_of}
use Rattle.terms.specs.declared.First.{First}
use Rattle.terms.specs.declared.First.TheVariants.{Nothing, Whole, Damage, Begun}
use Rattle.decoder_shared.specs.Inside.Steps.{counted, Fits, passed, struck, tallied_as}
use Rattle.decoder_shared.specs.Inside.Tallying.{log_of, sum_of, passed_by, struck_by, listed_by, taken_by, told_list}
use Rattle.decoder_shared.specs.declared.tally.Tally.{Tally}
use Rattle.decoder_shared.proofs.EntryStored.{entered-is}

sum-plain : (a b : ℕ) → a + b ≤ limit + 1 → sum_of a b ≡ a + b
sum-plain a b h = omega arith

word_plain : (n : ℕ) → n ≤ limit → n % 2 ^ 32 ≡ n
word_plain n h = omega arith

pub pass-plain : (t : Tally) (n : ℕ) → t.whole + n ≤ limit → {r : Tally} → r ≡ passed_by t n → (list : List ℕ) → log_of r list ≡ passed n (log_of t list)
pass-plain t n h e list = rw (e, sum-plain t.whole n (omega arith))

module _ (t : Tally) (room : ℕ) (list : List ℕ) where
  pub strike-plain : (n cause : ℕ) → Fits room n (log_of t list) → {r : Tally} {list' : List ℕ}
      → (r ≡ struck_by t n) × (list' ≡ listed_by t n cause room list) → log_of r list' ≡ struck room n cause (log_of t list)
  strike-plain n cause f e =
      let s : sum_of t.whole t.damaged ≡ t.whole + t.damaged = sum-plain t.whole t.damaged (omega (arith, f.sums)) in
      let d : sum_of t.damaged n ≡ t.damaged + n = sum-plain t.damaged n (omega (arith, f.sums)) in
      let c : sum_of t.count 1 ≡ t.count + 1 = sum-plain t.count 1 (omega (arith, f.sums, f.counts)) in
      rw (e.0, e.1, s, d, c, word_plain (t.whole + t.damaged) (omega (arith, f.sums)), word_plain n (omega (arith, f.sums)))
      (ap (counted t.whole (t.damaged + n) (t.count + 1)) (entered-is room t.count (t.whole + t.damaged) n cause list f.row))

  pub take-plain : (seg : First) → Fits room (size_of seg) (log_of t list) → {r : Tally} {list' : List ℕ}
      → (r ≡ taken_by t seg) × (list' ≡ told_list t seg room list) → log_of r list' ≡ tallied_as room seg (log_of t list)
  take-plain Nothing f e = rw (e.0, e.1)
  take-plain (Whole n) f e = rw e.1 (pass-plain t n (omega (arith, f.sums)) e.0 list)
  take-plain (Damage n cause) f e = strike-plain n (number_of cause) f e
  take-plain (Begun n) f e = rw (e.0, e.1)
