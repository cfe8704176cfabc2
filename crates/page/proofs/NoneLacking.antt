-- Segments of which a page lacks no code point: it has each of them, and where one is lacking is inside the text.
use mathlib.Core.Path.{◌≡◌, refl}
use Prim.Native.Nat.{ℕ, ◌+◌, ◌<◌}
use mathlib.Core.Bool.{true}
use mathlib.Core.List.{List, [], ◌∷◌, cons≢nil}
use native.Mathlib.Omega.{arith}
use Rattle.theory.specs.Reader.{Segment}
use Rattle.theory.specs.Table.{Kind}
use Rattle.theory.specs.Tally.{total, size}
use Rattle.theory.proofs.Cases.{split, All}
use Rattle.terms.specs.Form.{point_of}
use Rattle.utf8.specs.Scalar.{utf8}
use Rattle.page.specs.Paged.{has}
use Rattle.page.specs.Lacking.{lacking}

module _ (table : List ℕ) where
  -- the page has each of them
  abbrev pub AllHad : List (Segment Kind) → Type 0
  AllHad ss = All (λ s. has table (point_of utf8 s) ≡ true) ss

  pub none-had : (at : ℕ) (ss : List (Segment Kind)) → lacking table at ss ≡ [] → AllHad ss
  none-had at [] e = tt
  none-had at (s ∷ ss) e = split (has table (point_of utf8 s))
      (λ t. (t, none-had (at + size s) ss (rw t at e)))
      (λ t. absurd (cons≢nil (rw t at e)))

  pub had-none : (at : ℕ) (ss : List (Segment Kind)) → AllHad ss → lacking table at ss ≡ []
  had-none at [] h = refl
  had-none at (s ∷ ss) h = rw h.0 (had-none (at + size s) ss h.1)

  -- the first that is lacking is one of them
  pub lacking-inside : (at : ℕ) (ss : List (Segment Kind)) (offset : ℕ) (offsets : List ℕ) → lacking table at ss ≡ offset ∷ offsets
      → offset < at + total size ss
  lacking-inside at [] offset offsets e = let z : ◌≡◌ {A = ℕ} 0 1 = cc in absurd (omega arith)
  lacking-inside at (s ∷ ss) offset offsets e = split (has table (point_of utf8 s))
      (λ t. omega (arith, lacking-inside (at + size s) ss offset offsets (rw t at e)))
      (λ t.
      let h : at ∷ lacking table (at + size s) ss ≡ offset ∷ offsets = rw t at e in
      let i : offset ≡ at = cc in
      omega arith)
