-- What a feed answers: each way through its checks meets the promise, over any decoder.
use mathlib.Core.Path.{◌≡◌, refl, sym, ap, ◌∙◌}
use Prim.Native.Nat.{ℕ, ◌+◌, ◌-◌, ◌*◌, ◌≤◌}
use mathlib.Core.List.{List, [], ◌∷◌, ◌++◌, foldl-append}
use lib.ListN.{length, take}
use lib.Seq.{sets}
use borrow.Author.Tests.{le-ltb}
use native.Mathlib.Omega.{arith}
use Rattle.theory.specs.Reader.{Segment, parts}
use Rattle.theory.specs.Stream.{State}
use Rattle.theory.specs.Table.{Kind, is_damage}
use Rattle.theory.specs.Tally.{written, total, Entry, entries, count_of, Log}
use Rattle.theory.proofs.TalliesAdd.{entries-length, store_is, log_is}
use Rattle.terms.specs.Limits.{entry_width}
use Rattle.terms.specs.Told.{told_refusal, size_of}
use Rattle.terms.specs.Writing.{roomed, output_of, Writes}
use Rattle.terms.specs.declared.First.{First}
use Rattle.terms.specs.declared.First.TheVariants.{Nothing, Whole, Damage, Begun}
use Rattle.terms.specs.declared.Refusal.{Refusal}
use Rattle.std.specs.Prelude.{Ok, Err}
use Rattle.terms.proofs.ToldBack.{no_zero}
use Rattle.decoder_shared.specs.Decoding.{Decoding, numbers, opened, fed, closed}
use Rattle.decoder_shared.specs.Checks.{admit_says}
use Rattle.decoder_shared.specs.Calls.{Feeds}
use Rattle.decoder_shared.specs.Inside.Steps.{counted, tallied, told_of, tallied_as, Fits, Rests, behind, Answers}
use Rattle.decoder_shared.proofs.ChecksInOrder.{admits, admitted-then, refused-so}
use Rattle.decoder_shared.proofs.TalliedWalk.{tallied-whole, tallied-damaged, tallied-count}

-- ---- where nothing is entered

no_length : {A : Type 0} (es : List A) → length es ≡ 0 → es ≡ []
no_length [] e = refl
no_length (a ∷ es) e = absurd (omega arith)

module _ (room : ℕ) (l : Log) (ss : List (Segment Kind)) where
  abbrev entries_of : List (Entry Kind)
  entries_of = entries is_damage (l.whole + l.damaged) ss

  abbrev start : ℕ
  start = entry_width * l.count

  tallied-list : (tallied room l ss).list ≡ sets l.list start (written numbers (take (room - l.count) entries_of))
  tallied-list =
      ap (λ (m : Log). m.list) (log_is is_damage (λ s. []) numbers entry_width room l ss)
      ∙ store_is numbers entry_width room (λ e. refl) l.list l.count entries_of

  -- no damage is among them
  none-entered : total (count_of is_damage) ss ≡ 0 → (tallied room l ss).list ≡ l.list
  none-entered e =
      let n : entries_of ≡ [] = no_length entries_of (entries-length is_damage (l.whole + l.damaged) ss ∙ e) in
      ap (λ (m : Log). m.list) (log_is is_damage (λ s. []) numbers entry_width room l ss) ∙ rw n

  -- the list is full
  full : room ≤ l.count → (tallied room l ss).list ≡ l.list
  full h = let z : room - l.count ≡ 0 = omega arith in tallied-list ∙ rw z

-- no damage is counted
pub list_same : (room : ℕ) (seg : First) (l : Log) (ss : List (Segment Kind)) → (tallied 0 (tallied_as 0 seg l) ss).count ≡ l.count
    → l.list ≡ (tallied room (tallied_as room seg l) ss).list
list_same room Nothing l ss e = sym (none-entered room l ss (omega (arith, e, tallied-count 0 l ss)))
list_same room (Whole n) l ss e =
    sym (none-entered room (tallied_as room (Whole n) l) ss (omega (arith, e, tallied-count 0 (tallied_as 0 (Whole n) l) ss)))
list_same room (Damage n c) l ss e = absurd (omega (arith, e, tallied-count 0 (tallied_as 0 (Damage n c) l) ss))
list_same room (Begun n) l ss e = sym (none-entered room l ss (omega (arith, e, tallied-count 0 l ss)))

-- or the list is full
pub list_full : (room : ℕ) (seg : First) (l : Log) (ss : List (Segment Kind)) → room ≤ l.count → l.list ≡ (tallied room (tallied_as room seg l) ss).list
list_full room Nothing l ss h = sym (full room l ss h)
list_full room (Whole n) l ss h = sym (full room (tallied_as room (Whole n) l) ss h)
list_full room (Damage n c) l ss h = sym (full room (tallied_as room (Damage n c) l) ss (omega arith) ∙ rw (le-ltb l.count room h))
list_full room (Begun n) l ss h = sym (full room l ss h)

module _ {S : Type 0} (D : Decoding S) where
  -- ---- a text of one segment or none, and then a text

  module _ (d : S) (seg : First) (head rest list : List ℕ) (p : Rests D d seg head rest list) where
    abbrev room : ℕ
    room = (D.stands d).room

    abbrev begins : Log
    begins = counted (D.stands d).whole (D.stands d).damaged (D.stands d).count list

    abbrev done : List (Segment Kind)
    done = (parts D.look rest).done

    abbrev all : List (Segment Kind)
    all = told_of seg head ++ done

    abbrev after : State Log
    after = behind D d all (parts D.look rest).left list

    -- there is room for them, whether the list is lent or not
    pub rests-fits : Fits room (size_of seg + length rest) begins
    rests-fits = record { row = p.row; sums = omega (arith, p.sums, p.size_is); counts = p.counts }

    pub rests-dry : Fits 0 (size_of seg + length rest) begins
    rests-dry = record { row = omega arith; sums = omega (arith, p.sums, p.size_is); counts = p.counts }

    both-tallied : (n : ℕ) → tallied n (tallied_as n seg begins) done ≡ tallied n begins all
    both-tallied n = ap (λ (l : Log). tallied n l done) (p.tells n begins refl) ∙ sym (foldl-append _ begins (told_of seg head) done)

    -- without room nothing is entered
    pub dry-list : (tallied 0 (tallied_as 0 seg begins) done).list ≡ list
    dry-list = ap (λ (l : Log). l.list) (both-tallied 0) ∙ full 0 begins all (omega arith)

    form-is : after.kept.out ≡ written D.write all
    form-is = ap (λ (l : Log). l.out) (log_is is_damage D.write numbers entry_width room (opened D d list).kept all)

    module _ (taken : ℕ) (form out out' : List ℕ) (e : form ≡ written D.write all) where
      says_is : roomed (length out) form ≡ roomed (length out) after.kept.out
      says_is = rw (form-is, e)

      output-is : output_of (roomed (length out) form) form out ≡ output_of (roomed (length out) after.kept.out) after.kept.out out
      output-is = rw (form-is, e)

      pub answers-refused : (why : Refusal) → Writes (roomed (length out) form) form out out' (Err why)
          → Answers D d taken after out list out' list (told_refusal why) d
      answers-refused why w =
          let says : told_refusal why ≡ roomed (length out) after.kept.out = w.answer ∙ says_is in
          record {
            answer = says;
            state = rw (← says, no_zero why);
            output = w.output ∙ output-is;
            entries = rw (← says, no_zero why);
          }

      pub answers-granted : (n : ℕ) → Writes (roomed (length out) form) form out out' (Ok n)
          → (m : Log) → m ≡ tallied 0 (tallied_as 0 seg begins) done → (list' : List ℕ) → list' ≡ (tallied room (tallied_as room seg begins) done).list
          → (next : S) → next ≡ D.state (record {
            left = (parts D.look rest).left;
            taken = taken;
            whole = m.whole;
            damaged = m.damaged;
            count = m.count;
            room = room;
          })
          → Answers D d taken after out list out' list' (0 ∷ n ∷ []) next
      answers-granted n w m t list' f next g =
          let says : 0 ∷ n ∷ [] ≡ roomed (length out) after.kept.out = w.answer ∙ says_is in
          let k : m ≡ tallied 0 begins all = t ∙ both-tallied 0 in
          let q = log_is is_damage D.write numbers entry_width room (opened D d list).kept all in
          let i : m.whole ≡ after.kept.whole = ap (λ (l : Log). l.whole) k ∙ tallied-whole 0 begins all ∙ sym (ap (λ (l : Log). l.whole) q) in
          let j : m.damaged ≡ after.kept.damaged = ap (λ (l : Log). l.damaged) k ∙ tallied-damaged 0 begins all ∙ sym (ap (λ (l : Log). l.damaged) q) in
          let h : m.count ≡ after.kept.count = ap (λ (l : Log). l.count) k ∙ tallied-count 0 begins all ∙ sym (ap (λ (l : Log). l.count) q) in
          let r = log_is is_damage (λ s. []) numbers entry_width room begins all in
          record {
            answer = says;
            state = rw (← says) (g ∙ rw (i, j, h));
            output = w.output ∙ output-is;
            entries = rw (← says) (f ∙ ap (λ (l : Log). l.list) (both-tallied room) ∙ ap (λ (l : Log). l.list) r ∙ sym (ap (λ (l : Log). l.list) q));
          }

  -- where nothing is settled yet, all of it is pending
  pub answers-still : (d : S) (taken : ℕ) (left out list : List ℕ) (next : S)
      → next ≡ closed D d taken (behind D d [] left list) → Answers D d taken (behind D d [] left list) out list out list (0 ∷ 0 ∷ []) next
  answers-still d taken left out list next e =
      let says : 0 ∷ 0 ∷ [] ≡ roomed (length out) [] = rw (le-ltb (length out) 0 (omega arith)) in
      record { answer = says; state = rw (← says) e; output = rw (← says); entries = rw (← says) }

  -- ---- the checks before

  module _ (d : S) (piece out list : List ℕ) where
    pub feed-refused : (r : Refusal) → told_refusal r ≡ admit_says D d (length piece) (length list) → Feeds D d piece out list out list (told_refusal r) d
    feed-refused r q =
        let e = refused-so D d (length piece) (length list) r q (roomed (length out) (fed D d piece list).kept.out) in
        record { answer = e; state = rw (← e, no_zero r); output = rw (← e, no_zero r); entries = rw (← e, no_zero r) }

    pub feed-granted : admit_says D d (length piece) (length list) ≡ 0 ∷ [] → (out' list' said : List ℕ) (next : S)
        → Answers D d ((D.stands d).taken + length piece) (fed D d piece list) out list out' list' said next → Feeds D d piece out list out' list' said next
    feed-granted g out' list' said next a =
        let says = admitted-then D d (length piece) (length list) (roomed (length out) (fed D d piece list).kept.out)
        (admits D d (length piece) (length list) (sym g)) in
        record { answer = rw says a.answer; state = rw says a.state; output = rw says a.output; entries = rw says a.entries }
