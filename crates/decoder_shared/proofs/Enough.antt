-- The room that is enough for a feed and for finish, over any decoder: what is pending becomes one segment, with or without the next
-- elements.
use mathlib.Core.Path.{◌≡◌, ap, ◌∙◌}
use Prim.Native.Nat.{ℕ, suc, ◌+◌, ◌-◌, ◌*◌, ◌≤◌, ◌<◌, min}
use native.Mathlib.Nat.{mul-add, mul-suc, one-mul, mul-le-mul_right}
use mathlib.Core.Bool.{true}
use mathlib.Core.List.{List, [], ◌∷◌, ◌++◌, append-nil}
use lib.ListN.{length, drop, length-append, length-drop}
use lib.Seq.{drop-append-add, drop-length}
use lib.Dec.{ltb}
use borrow.Author.Tests.{not-true, le-ltb, ltb-true, ltb-false}
use native.Mathlib.Omega.{arith}
use Rattle.theory.specs.Reader.{Segment, Parts, first, rest, cut, parts, pending}
use Rattle.theory.specs.Table.{Kind, is_damage}
use Rattle.theory.specs.Tally.{written, size}
use Rattle.theory.proofs.Cases.{split}
use Rattle.theory.proofs.Divisions.{Division, Holds, first-size, cut-nil, cut-cons, parts-sure, parts-open, pending-short, takes_all}
use Rattle.theory.proofs.TalliesAdd.{log_is}
use Rattle.terms.specs.Form.{Form, replacement}
use Rattle.terms.specs.Limits.{limit, entry_width}
use Rattle.decoder_shared.specs.Decoding.{Decoding, numbers, opened, fed, ended}
use Rattle.decoder_shared.specs.Room.{most_fed}

-- A DECODER THAT WRITES FEW PLACES: no segment takes more than U+FFFD does and one for each element that was not pending before, and no
-- text more than U+FFFD does for each of its elements
pub record Few {S : Type 0} (D : Decoding S) (to : Form) : Type 0 where
  pub hold : ℕ
  pub division : Division D.look
  pub holds : Holds D.look hold
  pub some : 1 ≤ length (to.write replacement)
  pub one : (x : ℕ) (xs : List ℕ) (n : ℕ) → n ≤ size (first D.look x xs) → n ≤ hold
      → length (D.write (first D.look x xs)) + n ≤ length (to.write replacement) + size (first D.look x xs)
  pub small : (text : List ℕ) → length (written D.write (parts D.look text).done) ≤ length (to.write replacement) * length text

module _ {S : Type 0} (D : Decoding S) (to : Form) (F : Few D to) where
  abbrev each : ℕ
  each = length (to.write replacement)

  -- the places that some segments take
  abbrev need : List (Segment Kind) → ℕ
  need ss = length (written D.write ss)

  -- a segment over what was pending, and then j elements of a piece that has k more
  over-few : (n j k : ℕ) → n ≤ each + j → each * k + n ≤ each * (j + k) + each
  over-few n j k h =
      let m : j ≤ each * j = rw one-mul at (mul-le-mul_right j F.some) in
      rw (mul-add each j k) (omega (arith, h, m))

  joined-few : (tail piece : List ℕ) → pending D.look tail ≡ true → need (parts D.look (tail ++ piece)).done ≤ each * length piece + each
  joined-few [] piece p = omega (arith, F.small piece)
  joined-few (x ∷ xs) piece p = split (D.look x (xs ++ piece)).sure
      (λ e.
      let s : Segment Kind = first D.look x (xs ++ piece) in
      let more : ℕ = (D.look x (xs ++ piece)).more in
      let k : size s ≡ suc more = first-size F.division x (xs ++ piece) in
      let g : length xs ≤ more = F.holds.grows x xs piece (not-true (D.look x xs).sure p) in
      let j : ℕ = more - length xs in
      let behind : List ℕ = drop j piece in
      let m : more ≡ length xs + j = omega arith in
      let r : rest D.look x (xs ++ piece) ≡ behind = ap (λ (i : ℕ). drop i (xs ++ piece)) m ∙ drop-append-add xs piece j in
      let inside : j ≤ length piece = omega (arith, F.division.fits x (xs ++ piece), length-append xs piece) in
      let long : length piece ≡ j + length behind = omega (arith, length-drop j piece, inside) in
      let o = F.one x (xs ++ piece) (suc (length xs)) (omega (arith, k, g)) (pending-short F.division F.hold F.holds (x ∷ xs) p) in
      let q : need (parts D.look (x ∷ xs ++ piece)).done ≡ length (D.write s) + need (parts D.look behind).done
      = ap (λ (t : Parts Kind). need t.done) (parts-sure D.look x (xs ++ piece) e)
      ∙ length-append (D.write s) (written D.write (parts D.look (rest D.look x (xs ++ piece))).done)
      ∙ rw r in
      let f : each * length behind + length (D.write s) ≤ each * (j + length behind) + each
      = over-few (length (D.write s)) j (length behind) (omega (arith, o, k, m)) in
      let z : each * length piece ≡ each * (j + length behind) = ap (λ (i : ℕ). each * i) long in
      omega (arith, q, f, z, F.small behind))
      (λ e. rw (parts-open D.look x (xs ++ piece) e) (omega arith))

  ended-few : (tail : List ℕ) → pending D.look tail ≡ true → need (cut D.look tail) ≤ each
  ended-few [] p = rw cut-nil (omega arith)
  ended-few (x ∷ xs) p =
      let m = takes_all F.division F.hold F.holds x xs (not-true (D.look x xs).sure p) in
      let k = first-size F.division x xs in
      let o = F.one x xs (suc (length xs)) (omega (arith, k, m)) (pending-short F.division F.hold F.holds (x ∷ xs) p) in
      let r : rest D.look x xs ≡ [] = ap (λ (i : ℕ). drop i xs) m ∙ drop-length xs in
      rw (cut-cons D.look x xs, r, cut-nil, append-nil) (omega (arith, o, k, m))

  module _ (d : S) (begins : pending D.look (D.stands d).left ≡ true) (list : List ℕ) where
    -- THE ROOM IS ENOUGH for a feed
    pub enough : (piece : List ℕ) → length piece ≤ limit → length (fed D d piece list).kept.out ≤ most_fed to (length piece)
    enough piece h =
        rw (
          log_is is_damage D.write numbers entry_width (D.stands d).room (opened D d list).kept (parts D.look ((D.stands d).left ++ piece)).done,
          le-ltb limit (length piece) h,
          mul-suc,
        )
        (omega (arith, joined-few (D.stands d).left piece begins))

    -- and for finish
    pub enough-ended : length (ended D d list).out ≤ most_fed to 0
    enough-ended =
        rw (log_is is_damage D.write numbers entry_width (D.stands d).room (opened D d list).kept (cut D.look (D.stands d).left))
        (omega (arith, ended-few (D.stands d).left begins))

-- as it is counted
pub most-is : (to : Form) (n : ℕ) → length (to.write replacement) * (min n limit + 1) ≡ most_fed to n
most-is to n = split (ltb limit n)
    (λ t. let l : limit < n = ltb-true limit n t in let e : min n limit + 1 ≡ suc limit = omega arith in rw (t, e))
    (λ t. let l : n ≤ limit = ltb-false limit n t in let e : min n limit + 1 ≡ suc n = omega arith in rw (t, e))
