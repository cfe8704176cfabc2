-- What the reader told of a text is the settled segment that stands first in it, with its bytes and its places.
use mathlib.Core.Path.{◌≡◌, refl, sym, ap, ◌∙◌}
use Prim.Native.Nat.{ℕ, ◌≤◌}
use mathlib.Core.Bool.{true}
use mathlib.Core.List.{List, [], ◌∷◌, append-nil}
use lib.ListN.{length, take, drop, length-append, take-append-drop}
use native.Mathlib.Nat.{add-zero}
use native.Mathlib.Omega.{arith}
use Rattle.theory.specs.Table.{Kind, whole, damage}
use Rattle.theory.specs.Tally.{total, size}
use Rattle.terms.specs.Told.{number_of, told_first, first_says}
use Rattle.terms.specs.declared.First.{First}
use Rattle.terms.specs.declared.First.TheVariants.{Nothing, Whole, Damage, Begun}
use Rattle.terms.proofs.WalkBySegments.{Seen, seen}
use Rattle.utf8.specs.Bytes.{bytes}
use Rattle.utf8_pending.specs.Tail.{first_settled, settled_size}
use Rattle.utf8_pending.proofs.SettledFirst.{told-size}
use Rattle.decoder_shared.specs.Inside.Steps.{segment_of, told_of}
use Rattle.decoder_shared.proofs.TalliedWalk.{first_of, segment-told}
use Rattle.decoder.specs.Inside.Acting.{need, places, Stands}

pub record Told (r : First) (text : List ℕ) : Type 0 where
  pub settled_is : told_of r text ≡ first_settled bytes text
  pub size_is : settled_size r ≡ total size (first_settled bytes text)
  pub places_is : places r ≡ need (first_settled bytes text)

-- the settled segment of pending bytes and a piece is that of the tally
pub first_is : (text : List ℕ) → first_settled bytes text ≡ first_of bytes text
unfolding first_settled
first_is [] = refl
first_is (x ∷ xs) = refl

pub settled_is : (r : First) (text : List ℕ) → told_first r ≡ first_says bytes text → told_of r text ≡ first_settled bytes text
settled_is r text e = segment-told bytes r text e ∙ sym (first_is text)

-- so many bytes as there are, and their places
segment-size : (kind : Kind) (run : List ℕ) → total size (segment_of kind run) ≡ length run
segment-size kind [] = refl
segment-size kind (x ∷ xs) = add-zero (length (x ∷ xs))

whole-need : (run : List ℕ) → need (segment_of whole run) ≡ length run
whole-need [] = refl
whole-need (x ∷ xs) = ap length (append-nil (x ∷ xs))

damage_need : (n c : ℕ) (text : List ℕ) → Seen bytes text n (damage c) true → 3 ≡ need (segment_of (damage c) (take n text))
damage_need n c text s = rw (s.text-is, s.long-is)

places_are : (r : First) (text : List ℕ) → told_first r ≡ first_says bytes text → settled_size r ≡ total size (told_of r text) → places r ≡ need (told_of r text)
places_are Nothing text e k = refl
places_are (Whole n) text e k = k ∙ segment-size whole (take n text) ∙ sym (whole-need (take n text))
places_are (Damage n c) text e k = damage_need n (number_of c) text (seen bytes text n (damage (number_of c)) true e)
places_are (Begun n) text e k = refl

pub stands : (r : First) (text : List ℕ) → told_first r ≡ first_says bytes text → Stands r text
stands r text e =
    let k : settled_size r ≡ total size (told_of r text) = told-size r text e ∙ sym (ap (total size) (settled_is r text e)) in
    record { bytes-are = k; places_are = places_are r text e k }

pub told : (r : First) (text : List ℕ) → told_first r ≡ first_says bytes text → Told r text
told r text e =
    let s = settled_is r text e in
    let k = stands r text e in
    record { settled_is = s; size_is = k.bytes-are ∙ ap (total size) s; places_is = k.places_are ∙ ap need s }

-- what stands in a text lies in it
pub whole-inside : (n : ℕ) (text : List ℕ) → Stands (Whole n) text → n ≤ length text
whole-inside n text s =
    let e : n ≡ length (take n text) = s.bytes-are ∙ segment-size whole (take n text) in
    omega (arith, e, length-append (take n text) (drop n text), ap length (take-append-drop n text))
