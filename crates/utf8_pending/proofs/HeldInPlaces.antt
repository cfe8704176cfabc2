-- How pending bytes are tested, and kept in their places.
use mathlib.Core.Path.{◌≡◌, refl, sym, ap, ◌∙◌}
use Prim.Native.Nat.{ℕ, ◌+◌, ◌-◌, min, ◌≤◌, ◌<◌}
use native.Mathlib.Decide.{dec_le}
use mathlib.Core.Bool.{true, false}
use mathlib.Core.List.{List, [], ◌∷◌, ◌++◌}
use lib.ListN.{length, get_or, take, drop, length-append, length-take, get_or-append}
use lib.Seq.{take_all, take_at, take-take, length-take-le, get_or-take, get_or-append-add}
use lib.Dec.{leb, eqb}
use borrow.Author.Tests.{leb-true, le-leb, lt-leb}
use native.Mathlib.Omega.{arith}
use Rattle.std.specs.List.{list_all}
use Rattle.theory.specs.Reader.{Reader, pending}
use Rattle.theory.proofs.Cases.{both}
use Rattle.terms.specs.Limits.{most_pending, unheld}
use Rattle.utf8.specs.Pending.{zeros, padded}
use Rattle.utf8_pending.specs.Tail.{is_tail, four, placed, seamed}

-- ---- the test

module _ {K : Type 0} (look : Reader K) (held : List ℕ) (n : ℕ) where
  pub tail-long : most_pending < n → false ≡ is_tail look held n
  tail-long h = rw (lt-leb n most_pending h)

  pub tail-rest : n ≤ most_pending → pending look (take n held) ≡ true → zeros (drop n held) ≡ is_tail look held n
  tail-rest h e = rw (le-leb n most_pending h, e)

  -- what it says
  pub record Tail : Type 0 where
    pub few : n ≤ most_pending
    pub begins : pending look (take n held) ≡ true
    pub unused : zeros (drop n held) ≡ true

  pub tail-is : is_tail look held n ≡ true → Tail
  tail-is e =
      let a = both _ (zeros (drop n held)) e in
      let b = both (leb n most_pending) (pending look (take n held)) a.0 in
      record { few = leb-true n most_pending b.0; begins = b.1; unused = a.1 }

  pub is-tail : Tail → is_tail look held n ≡ true
  is-tail t = sym (tail-rest t.few t.begins) ∙ t.unused

-- ---- the unused bytes

pub zeros_all : (bytes : List ℕ) → list_all (λ b. eqb b 0) bytes ≡ zeros bytes
zeros_all [] = refl
zeros_all (b ∷ bytes) = rw (zeros_all bytes)

-- ---- the first bytes of a text

pub take_min : (j : ℕ) (s : List ℕ) → take (min (length s) j) s ≡ take j s
take_min j s = go (dec_le j (length s))
  where
    go : Dec (j ≤ length s) → take (min (length s) j) s ≡ take j s
    go (yes h) = let e : min (length s) j ≡ j = omega arith in rw e
    go (no h) = let e : min (length s) j ≡ length s = omega arith in rw (e, take_all (length s) s (omega arith), take_all j s (omega arith))

-- ---- a byte of what is pending, and of a piece behind it

module _ (held piece : List ℕ) (n : ℕ) (three : length held ≡ most_pending) (few : n ≤ most_pending) where
  long : length (take n held) ≡ n
  long = length-take-le n held (omega arith)

  pub joined-held : (at : ℕ) → at < n → get_or held at 0 ≡ get_or (take n held ++ piece) at 0
  joined-held at h = sym (get_or-append (take n held) piece 0 at (omega (arith, long)) ∙ get_or-take n held at 0 h)

  pub joined-piece : (at : ℕ) → n ≤ at → get_or piece (at - n) 0 ≡ get_or (take n held ++ piece) at 0
  joined-piece at h =
      let e : at ≡ length (take n held) + (at - n) = omega (arith, long) in
      sym (ap (λ (i : ℕ). get_or (take n held ++ piece) i 0) e ∙ get_or-append-add (take n held) piece (at - n) 0)

  -- how many of them are in the seam
  pub joined-size : n + min (4 - n) (length piece) ≡ length (four (take n held) piece)
  joined-size = omega (arith, length-take 4 (take n held ++ piece), length-append (take n held) piece, long)

-- ---- bytes in their places, 0 for each unused one

pub three-places : (left : List ℕ) → get_or left 0 0 ∷ get_or left 1 0 ∷ get_or left 2 0 ∷ [] ≡ padded left
three-places [] = refl
three-places (a ∷ []) = refl
three-places (a ∷ b ∷ []) = refl
three-places (a ∷ b ∷ c ∷ left) = refl

pub four-places : (run : List ℕ) → get_or run 0 0 ∷ get_or run 1 0 ∷ get_or run 2 0 ∷ get_or run 3 0 ∷ [] ≡ take 4 (take 4 run ++ 0 ∷ 0 ∷ 0 ∷ 0 ∷ [])
four-places [] = refl
four-places (a ∷ []) = refl
four-places (a ∷ b ∷ []) = refl
four-places (a ∷ b ∷ c ∷ []) = refl
four-places (a ∷ b ∷ c ∷ d ∷ run) = refl

-- they are found again, and the unused ones are 0
pub held_back : (run : List ℕ) → length run ≤ most_pending → take (length run) (padded run) ≡ run
held_back run h = take-take (length run) most_pending (run ++ unheld) h ∙ take_at run unheld (length run) refl

pub held-zeros : (run : List ℕ) → length run ≤ most_pending → zeros (drop (length run) (padded run)) ≡ true
held-zeros [] h = refl
held-zeros (a ∷ []) h = refl
held-zeros (a ∷ b ∷ []) h = refl
held-zeros (a ∷ b ∷ c ∷ []) h = refl
held-zeros (a ∷ b ∷ c ∷ d ∷ run) h = absurd (omega arith)

-- a seam is found again in its places
placed-found : (run : List ℕ) → length run ≤ 4 → ((placed run).size ≤ length (placed run).bytes) × (take (placed run).size (placed run).bytes ≡ run)
placed-found run h =
    let zs : List ℕ = 0 ∷ 0 ∷ 0 ∷ 0 ∷ [] in
    (omega (arith, length-take 4 (run ++ zs), length-append run zs), take-take (length run) 4 (run ++ zs) h ∙ take_at run zs (length run) refl)

pub seam_found : (tail piece : List ℕ)
    → let s = placed (four tail piece) in
    (s.size ≤ length s.bytes) × (take s.size s.bytes ≡ four tail piece)
seam_found tail piece = placed-found (four tail piece) (omega (arith, length-take 4 (tail ++ piece)))

pub seamed-found : (tail piece : List ℕ)
    → let s = placed (seamed tail piece) in
    (s.size ≤ length s.bytes) × (take s.size s.bytes ≡ seamed tail piece)
seamed-found [] piece = placed-found [] (omega arith)
seamed-found (x ∷ xs) piece = seam_found (x ∷ xs) piece
