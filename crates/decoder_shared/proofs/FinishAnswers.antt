-- What finish answers: what is pending is one damage, and each way through its checks meets the promise, over any decoder.
use mathlib.Core.Path.{◌≡◌, refl, sym, ◌∙◌}
use Prim.Native.Nat.{ℕ, ◌+◌, ◌≤◌, ◌<◌}
use native.Mathlib.Nat.{add-zero}
use mathlib.Core.Bool.{true, false, cond}
use mathlib.Core.List.{List, [], ◌∷◌, ◌++◌, foldl}
use lib.ListN.{length, drop}
use lib.Dec.{ltb}
use borrow.Author.Tests.{not-true, lt-ltb, le-ltb}
use native.Mathlib.Omega.{arith}
use Rattle.theory.specs.Reader.{Segment, cut, pending}
use Rattle.theory.specs.Table.{Kind, damage, is_damage}
use Rattle.theory.specs.Table as table
use Rattle.theory.specs.Tally.{Log}
use Rattle.theory.proofs.Divisions.{Division, Holds, cut-nil, cut-pending}
use Rattle.terms.specs.Told.{told_refusal}
use Rattle.terms.specs.declared.Refusal.{Refusal}
use Rattle.terms.specs.declared.Refusal.TheVariants.{NoRoom}
use Rattle.terms.proofs.ToldBack.{no_zero}
use Rattle.decoder_shared.specs.Decoding.{Decoding, act, fresh, ended}
use Rattle.decoder_shared.specs.Checks.{admit_says}
use Rattle.decoder_shared.specs.Calls.{finish_says, Finishes}
use Rattle.decoder_shared.specs.Inside.Steps.{counted, struck}
use Rattle.decoder_shared.proofs.ChecksInOrder.{Admits, admits, admitted-then, refused-so}

-- what finish says once it is admitted
abbrev says_of : Log → List ℕ → List ℕ
says_of l out =
    cond (ltb (length out) (length l.out)) (3 ∷ length l.out ∷ []) (0 ∷ length l.out ∷ l.whole ∷ l.damaged ∷ l.count ∷ [])

module _ {S : Type 0} (D : Decoding S) (d : S) (out list : List ℕ) where
  finish-so : (r : Refusal) → told_refusal r ≡ finish_says D d out list → Finishes D d out list out list (told_refusal r) d
  finish-so r e = record { answer = e; state = rw (← e, no_zero r); output = rw (← e, no_zero r); entries = rw (← e, no_zero r) }

  pub finish-refused : (r : Refusal) → told_refusal r ≡ admit_says D d 0 (length list) → Finishes D d out list out list (told_refusal r) d
  finish-refused r q = finish-so r (refused-so D d 0 (length list) r q (says_of (ended D d list) out))

  module _ (g : admit_says D d 0 (length list) ≡ 0 ∷ []) where
    granted : Admits D d 0 (length list)
    granted = admits D d 0 (length list) (sym g)

    says_is : finish_says D d out list ≡ says_of (ended D d list) out
    says_is = admitted-then D d 0 (length list) (says_of (ended D d list) out) granted

    -- the text has ended with this log, for which there is room
    ended_so : (l : Log) → ended D d list ≡ l → length l.out ≤ length out → (out' list' : List ℕ) → out' ≡ l.out ++ drop (length l.out) out
        → list' ≡ l.list → (next : S) → next ≡ fresh D (D.stands d).room
        → Finishes D d out list out' list' (0 ∷ length l.out ∷ l.whole ∷ l.damaged ∷ l.count ∷ []) next
    ended_so l e h out' list' o i next f =
        let says : finish_says D d out list ≡ 0 ∷ length l.out ∷ l.whole ∷ l.damaged ∷ l.count ∷ []
        = says_is ∙ rw (e, le-ltb (length out) (length l.out) h) in
        record { answer = sym says; state = rw says f; output = rw (says, e) o; entries = rw (says, e) i }

    -- nothing is pending
    pub finish-none : (D.stands d).left ≡ [] → (next : S) → next ≡ fresh D (D.stands d).room
        → Finishes D d out list out list (0 ∷ 0 ∷ (D.stands d).whole ∷ (D.stands d).damaged ∷ (D.stands d).count ∷ []) next
    finish-none e next f =
        ended_so
        (record { whole = (D.stands d).whole; damaged = (D.stands d).damaged; count = (D.stands d).count; out = []; list = list })
        (rw (e, cut-nil D.look))
        (omega arith) out list refl refl next f

    -- what is pending is damage that the end of the text stops, for which U+FFFD is written
    module _ (divides : Division D.look) (hold : ℕ) (H : Holds D.look hold)
        (held : (x : ℕ) (xs : List ℕ) → (D.look x xs).sure ≡ false → (D.look x xs).tag ≡ damage table.ended)
        (mark : List ℕ) (marks : (s : Segment Kind) → is_damage s.tag ≡ true → D.write s ≡ mark)
        (begins : pending D.look (D.stands d).left ≡ true) (some : length (D.stands d).left ≡ 0 → ⊥) where
      abbrev struck_log : Log
      struck_log = struck (D.stands d).room (length (D.stands d).left) table.ended (counted (D.stands d).whole (D.stands d).damaged (D.stands d).count list)

      abbrev last_log : Log
      last_log = record { whole = struck_log.whole; damaged = struck_log.damaged; count = struck_log.count; out = mark; list = struck_log.list }

      one-damage : (left : List ℕ) → pending D.look left ≡ true → (length left ≡ 0 → ⊥)
          → (l : Log) → l.out ≡ [] → foldl (act D.write (D.stands d).room) l (cut D.look left)
          ≡ record {
            whole = l.whole;
            damaged = l.damaged + length left;
            count = l.count + 1;
            out = mark;
            list = (struck (D.stands d).room (length left) table.ended l).list;
          }
      one-damage [] p n l o = absurd (n refl)
      one-damage (x ∷ xs) p n l o =
          let e : (D.look x xs).sure ≡ false = not-true (D.look x xs).sure p in
          let s : Segment Kind = record { head = x; tail = xs; tag = damage table.ended } in
          rw (cut-pending divides hold H x xs e, held x xs e, o, marks s refl) (simp add-zero)

      last-is : ended D d list ≡ last_log
      last-is = one-damage (D.stands d).left begins some _ refl

      pub finish-short : length out < length mark → Finishes D d out list out list (told_refusal (NoRoom (length mark))) d
      finish-short h = finish-so (NoRoom (length mark)) (sym (says_is ∙ rw (last-is, lt-ltb (length out) (length mark) h)))

      pub finish-done : length mark ≤ length out → (out' : List ℕ) → out' ≡ mark ++ drop (length mark) out
          → (m : Log) → m ≡ struck_log → (next : S) → next ≡ fresh D (D.stands d).room
          → Finishes D d out list out' m.list (0 ∷ length mark ∷ m.whole ∷ m.damaged ∷ m.count ∷ []) next
      finish-done h out' o m e next f = rw e (ended_so last_log last-is h out' struck_log.list o refl next f)
