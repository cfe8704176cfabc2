-- What is settled of a text takes at most three places for each byte; and what is lacking of them.
use mathlib.Core.Path.{◌≡◌, ap, ◌∙◌}
use Prim.Native.Nat.{ℕ, ◌+◌, ◌*◌, ◌≤◌, ◌<◌}
use native.Mathlib.Nat.{mul-add}
use mathlib.Core.List.{List, [], ◌∷◌, ◌++◌}
use lib.ListN.{length, length-append}
use lib.Dec.{ltb}
use borrow.Author.Tests.{ltb-true, ltb-false}
use native.Mathlib.Omega.{arith}
use Rattle.std.specs.Prelude.{Option, None, Some}
use Rattle.theory.specs.Reader.{Segment, parts}
use Rattle.theory.specs.Table.{Kind, is_damage}
use Rattle.theory.specs.Tally.{total, size}
use Rattle.theory.proofs.Cases.{split}
use Rattle.theory.proofs.Divisions.{written-append, parts-size}
use Rattle.terms.specs.Form.{mend}
use Rattle.utf8.specs.Bytes.{bytes}
use Rattle.utf8.specs.Scalar.{utf8}
use Rattle.decoder.specs.Inside.Acting.{need, lack}

pub need_append : (ss ts : List (Segment Kind)) → need (ss ++ ts) ≡ need ss + need ts
need_append ss ts = rw (written-append (mend utf8) ss ts, length-append)

mend-small : (s : Segment Kind) → length (mend utf8 s) ≤ 3 * size s
mend-small s = split (is_damage s.tag) (λ e. rw e (omega arith)) (λ e. rw e (omega arith))

pub need-small : (ss : List (Segment Kind)) → need ss ≤ 3 * total size ss
need-small [] = omega arith
need-small (s ∷ ss) = rw (length-append, mul-add) (omega (arith, mend-small s, need-small ss))

pub parts_small : (text : List ℕ) → need (parts bytes text).done ≤ 3 * length text
parts_small text = omega (arith, need-small (parts bytes text).done, parts-size bytes text)

-- ---- what is lacking

abbrev or_zero : Option ℕ → ℕ
or_zero None = 0
or_zero (Some n) = n

-- something where so many places are too few, and nothing where they are enough
module _ (needed most : ℕ) where
  pub lack-some : (n : ℕ) → Some n ≡ lack needed most → (n ≡ needed) × (most < n)
  lack-some n e = split (ltb most needed)
      (λ t. let s : Some n ≡ Some needed = e ∙ rw t in let z : n ≡ needed = ap (λ (q : Option ℕ). or_zero q) s in (z, rw z (ltb-true most needed t)))
      (λ t. let s : Some n ≡ None = e ∙ rw t in cc)

  pub lack-none : None ≡ lack needed most → needed ≤ most
  lack-none e = split (ltb most needed)
      (λ t. let s : ◌≡◌ {A = Option ℕ} None (Some needed) = e ∙ rw t in cc)
      (λ t. ltb-false most needed t)
