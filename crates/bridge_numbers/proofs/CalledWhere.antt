-- Whether a call is made: the tests of a state in a slice, of a place and a kind, and of the room to tell.
use mathlib.Core.Path.{◌≡◌, ap, ◌∙◌}
use Prim.Native.Nat.{ℕ, ◌≤◌, ◌<◌}
use mathlib.Core.Bool.{Bool, true, false, ◌&&◌}
use mathlib.Core.List.{List}
use lib.ListN.{length}
use lib.Dec.{leb, eqb}
use borrow.Author.Tests.{le-leb, lt-leb, lt-ltb, le-ltb}
use Rattle.theory.proofs.Cases.{split}
use Rattle.place.specs.Walk.{number, measure}
use Rattle.place.specs.declared.Offset.{Offset}
use Rattle.place.specs.declared.Place.{Place}
use Rattle.bridge_numbers.specs.Telling.{roomy}
use Rattle.bridge_numbers.specs.Keeping.{writable}
use Rattle.bridge_numbers.specs.States.{asked, measure_of, offset_of}

-- ---- a state

-- by any test of it
module _ (test : Bool) (says : List ℕ) where
  pub not-state : test ≡ false → test && roomy says ≡ false
  not-state e = ap (λ (t : Bool). t && roomy says) e

  pub not-roomy : test ≡ true → length says < 8 → test && roomy says ≡ false
  not-roomy e h = ap (λ (t : Bool). t && roomy says) e ∙ lt-leb 8 (length says) h

  pub is-ready : test ≡ true → 8 ≤ length says → test && roomy says ≡ true
  is-ready e h = ap (λ (t : Bool). t && roomy says) e ∙ le-leb 8 (length says) h

-- and of its length alone
module _ (n : ℕ) (s says : List ℕ) where
  pub not-long : length s < n → writable n s says ≡ false
  not-long h = not-state (leb n (length s)) says (lt-leb n (length s) h)

  pub not-both : n ≤ length s → length says < 8 → writable n s says ≡ false
  not-both l = not-roomy (leb n (length s)) says (le-leb n (length s) l)

  pub is-writable : n ≤ length s → 8 ≤ length says → writable n s says ≡ true
  is-writable l = is-ready (leb n (length s)) says (le-leb n (length s) l)

-- ---- a place and a kind

module _ (from : List ℕ) (kind : ℕ) where
  pub is-asked : 4 ≤ length from → kind < 4 → asked from kind ≡ true
  is-asked h k = rw (le-leb 4 (length from) h, lt-ltb kind 4 k)

  module _ (says : List ℕ) where
    pub not-from : length from < 4 → asked from kind && roomy says ≡ false
    not-from h = rw (lt-leb 4 (length from) h)

    pub not-kind : 4 ≤ length from → 4 ≤ kind → asked from kind && roomy says ≡ false
    not-kind h k = rw (le-leb 4 (length from) h, le-ltb kind 4 k)

-- an offset of a kind counts in its measure, and is of so many
pub as_asked : (says : (Place → ℕ) → ℕ → Place → List ℕ) (kind n : ℕ) {to : Offset} {p p' : Place} → to ≡ offset_of kind n → p ≡ p'
    → says (measure to) (number to) p ≡ says (measure_of kind) n p'
as_asked says kind n e f =
    split (eqb kind 0) (λ b. rw (e, f, b)) (λ b. split (eqb kind 1) (λ u. rw (e, f, b, u)) (λ u. split (eqb kind 2) (λ c. rw (e, f, b, u, c)) (λ c. rw (e, f, b, u, c))))
