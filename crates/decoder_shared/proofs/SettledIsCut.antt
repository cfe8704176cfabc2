-- What is settled of a text is a text of its own, which is written alike: over any table, an element is read alike where the text is cut
-- off behind its segment, but for the cause of a damage that the end then stops.
use mathlib.Core.Path.{◌≡◌, refl, sym, ap, ap₂, ◌∙◌}
use Prim.Native.Nat.{ℕ, zero, suc, ◌+◌, ◌≤◌}
use native.Mathlib.Nat.{add-zero, zero-add, suc-add}
use mathlib.Core.List.{List, [], ◌∷◌, ◌++◌}
use lib.ListN.{take, drop}
use lib.Seq.{take-take, take-nil}
use native.Mathlib.Omega.{arith}
use Rattle.theory.specs.Reader.{Look, Reader, Segment, first, rest, cut, parts}
use Rattle.theory.specs.Table.{Range, within, Row, Kind, is_damage, want, read}
use Rattle.theory.specs.Tally.{written, total, size}
use Rattle.theory.proofs.Cases.{split}
use Rattle.theory.proofs.Divisions.{Division, by_parts, first-size, cut-nil, cut-cons, parts-nil, parts-sure, parts-open}
use Rattle.terms.specs.Form.{Form, point_of}
use Rattle.decoder_shared.proofs.TalliedWalk.{first_of}

-- two looks see the same segment, whole or damage
abbrev pub Alike : Look Kind → Look Kind → Type 0
Alike l m = (l.more ≡ m.more) × (is_damage l.tag ≡ is_damage m.tag)

-- a reader sees the same where no more than the segment is there
abbrev pub Cuttable : Reader Kind → Type 0
Cuttable look = (x : ℕ) (xs : List ℕ) (k : ℕ) → (look x xs).more ≤ k → Alike (look x (take k xs)) (look x xs)

-- what is written for a segment does not depend on the cause
abbrev pub Causeless : (Segment Kind → List ℕ) → Type 0
Causeless write = (s t : Segment Kind) → s.head ≡ t.head → s.tail ≡ t.tail → is_damage s.tag ≡ is_damage t.tag → write s ≡ write t

-- a code point in another form, U+FFFD for damage, is such
pub point_causeless : (F G : Form) → Causeless (λ s. G.write (point_of F s))
point_causeless F G s t h l d = rw (d, h, l)

-- ---- a reader by a table

want-cut : (rs : List Range) (xs : List ℕ) (k : ℕ) → (want rs xs).more ≤ k → Alike (want rs (take k xs)) (want rs xs)
want-cut [] xs k h = (refl, refl)
want-cut (r ∷ rs) [] k h = rw (take-nil k) (refl, refl)
want-cut (r ∷ rs) (x ∷ xs) zero h = split (within r x)
    (λ e. let z : suc (want rs xs).more ≤ 0 = rw e at h in absurd (omega arith))
    (λ e. rw e (refl, refl))
want-cut (r ∷ rs) (x ∷ xs) (suc k) h = split (within r x)
    (λ e.
    let z : suc (want rs xs).more ≤ suc k = rw e at h in
    let a = want-cut rs xs k (omega arith) in
    rw e (ap suc a.0, a.1))
    (λ e. rw e (refl, refl))

pub table-cut : (rows : List Row) (cause : ℕ → ℕ) → Cuttable (read rows cause)
table-cut [] cause x xs k h = (refl, refl)
table-cut (w ∷ ws) cause x xs k h = split (within w.lead x)
    (λ e. rw e (want-cut w.later xs k (rw e at h)))
    (λ e. rw e (table-cut ws cause x xs k (rw e at h)))

-- ---- the first segments of a text, cut off

drop-take : (k n : ℕ) (xs : List ℕ) → drop k (take (k + n) xs) ≡ take n (drop k xs)
drop-take zero n xs = rw (zero-add n)
drop-take (suc k) n [] = rw (take-nil (suc k + n), take-nil n)
drop-take (suc k) n (x ∷ xs) = rw (suc-add k n) (drop-take k n xs)

module _ {look : Reader Kind} (D : Division look) (cuttable : Cuttable look) (write : Segment Kind → List ℕ) (causeless : Causeless write) where
  module _ (x : ℕ) (xs : List ℕ) (n : ℕ) where
    abbrev more : ℕ
    more = (look x xs).more

    abbrev short : List ℕ
    short = take (more + n) xs

    alike : Alike (look x short) (look x xs)
    alike = cuttable x xs (more + n) (omega arith)

    first-same : write (first look x short) ≡ write (first look x xs)
    first-same =
        let i : (look x short).more ≡ more = alike.0 in
        causeless (first look x short) (first look x xs) refl (rw (i, take-take more (more + n) xs (omega arith))) alike.1

    rest-same : rest look x short ≡ take n (rest look x xs)
    rest-same = let i : (look x short).more ≡ more = alike.0 in rw i (drop-take more n xs)

    written-short : (k : ℕ) → k ≡ suc more + n
        → written write (cut look (take k (x ∷ xs))) ≡ write (first look x xs) ++ written write (cut look (take n (rest look x xs)))
    written-short k e =
        ap (λ (i : ℕ). written write (cut look (take i (x ∷ xs)))) (e ∙ suc-add more n)
        ∙ ap (written write) (cut-cons look x short)
        ∙ ap₂ ◌++◌ first-same (ap (λ (ys : List ℕ). written write (cut look ys)) rest-same)

  -- the first segment alone
  pub first-cut : (x : ℕ) (xs : List ℕ) → written write (cut look (take (size (first look x xs)) (x ∷ xs))) ≡ written write (first look x xs ∷ [])
  first-cut x xs =
      written-short x xs 0 (size (first look x xs)) (first-size D x xs ∙ sym (add-zero (suc (look x xs).more))) ∙ rw (cut-nil look)

  -- the settled segment that stands first, if there is one
  pub first-of-cut : (text : List ℕ) → written write (cut look (take (total size (first_of look text)) text)) ≡ written write (first_of look text)
  first-of-cut [] = rw (cut-nil look)
  first-of-cut (x ∷ xs) = split (look x xs).sure
      (λ e. rw (e, add-zero (size (first look x xs))) (first-cut x xs))
      (λ e. rw (e, cut-nil look))

  -- ALL THAT IS SETTLED
  pub settled-cut : (text : List ℕ) → written write (cut look (take (total size (parts look text).done) text)) ≡ written write (parts look text).done
  settled-cut = by_parts look
      (λ (text : List ℕ). written write (cut look (take (total size (parts look text).done) text)) ≡ written write (parts look text).done)
      (rw (parts-nil look, cut-nil look))
      (λ x xs e ih.
      let n : ℕ = total size (parts look (rest look x xs)).done in
      rw (parts-sure look x xs e) (written-short x xs n (size (first look x xs) + n) (ap (λ (i : ℕ). i + n) (first-size D x xs)) ∙ rw ih))
      (λ x xs e. rw (parts-open look x xs e, cut-nil look))
