-- The counts behind some bytes of a text and then some more.
use mathlib.Core.Path.{◌≡◌, ap}
use Prim.Native.Nat.{ℕ, zero, ◌+◌}
use mathlib.Core.List.{List}
use lib.ListN.{take, drop}
use lib.Seq.{take-add}
use native.Mathlib.Omega.{arith}
use Rattle.theory.specs.Tally.{total}
use Rattle.theory.proofs.Divisions.{total_append}
use Rattle.utf8_count.specs.Counts.{start_of, four_of, ends_in}
use Rattle.utf8_count.proofs.LineEndsAdd.{ends_add}
use Rattle.place.specs.Measures.{place}
use Rattle.place.specs.declared.Place.{Place}
use Rattle.index_build.specs.Inside.Summed.{summed}

pub summed-none : (p : Place) (text : List ℕ) → summed p text 0 ≡ p
summed-none p text =
    let b : p.bytes + zero ≡ p.bytes = omega arith in
    let u : p.units + zero + zero ≡ p.units = omega arith in
    let c : p.points + zero ≡ p.points = omega arith in
    let l : p.lines + zero ≡ p.lines = omega arith in
    rw (b, u, c, l)

pub summed_append : (p : Place) (text : List ℕ) (n m : ℕ) → summed (summed p text n) (drop n text) m ≡ summed p text (n + m)
summed_append p text n m =
    let q : Place = summed p text n in
    let xs : List ℕ = take n text in
    let ys : List ℕ = take m (drop n text) in
    let s = total_append start_of xs ys in
    let b : q.bytes + m ≡ p.bytes + (n + m) = omega arith in
    let u : q.units + total start_of ys + total four_of ys ≡ p.units + total start_of (take (n + m) text) + total four_of (take (n + m) text)
    = rw (take-add n m text) (omega (arith, total_append four_of xs ys)) in
    let c : q.points + total start_of ys ≡ p.points + total start_of (take (n + m) text) = rw (take-add n m text) (omega arith) in
    let l : q.lines + ends_in m (drop n text) ≡ p.lines + ends_in (n + m) text = omega (arith, ends_add n m text) in
    rw (b, u, c, l)

-- what the same bytes lead to the same counts from, is the same
pub summed_same : (p q : Place) (text : List ℕ) (n : ℕ) → summed p text n ≡ summed q text n → p ≡ q
summed_same p q text n e =
    let b : p.bytes ≡ q.bytes = omega (arith, ap (λ (r : Place). r.bytes) e) in
    let u : p.units ≡ q.units = omega (arith, ap (λ (r : Place). r.units) e) in
    let c : p.points ≡ q.points = omega (arith, ap (λ (r : Place). r.points) e) in
    let l : p.lines ≡ q.lines = omega (arith, ap (λ (r : Place). r.lines) e) in
    λ i. place (b i) (u i) (c i) (l i)
