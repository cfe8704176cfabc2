-- Calls that must be refused: the number that is due to each of them, and that they change nothing.
use mathlib.Core.Path.{◌≡◌, sym, ap, ◌∙◌}
use Prim.Native.Nat.{ℕ, ◌+◌, ◌*◌, ◌-◌, ◌≤◌, ◌<◌}
use mathlib.Core.Bool.{Bool, true, false, cond}
use mathlib.Core.List.{List, [], ◌∷◌, ◌++◌}
use lib.ListN.{length, get_or, take, drop, length-append}
use lib.Dec.{ltb, eqb}
use borrow.Author.Tests.{eq-eqb, ne_eqb, lt-ltb}
use native.Mathlib.Omega.{arith}
use Rattle.theory.specs.Reader.{Segment, parts}
use Rattle.theory.specs.Table.{Kind, is_damage}
use Rattle.theory.specs.Tally.{written, total, size}
use Rattle.theory.proofs.Cases.{split}
use Rattle.theory.proofs.Divisions.{parts-size}
use Rattle.terms.specs.Form.{mend}
use Rattle.terms.specs.Limits.{limit, most_room, entry_width, most_pending}
use Rattle.terms.specs.Told.{told_refusal, is_granted}
use Rattle.terms.specs.Told as told
use Rattle.terms.specs.Writing.{roomed}
use Rattle.terms.specs.declared.Decoder.{Decoder}
use Rattle.terms.specs.declared.Refusal.{Refusal}
use Rattle.std.specs.Prelude.{Ok, Err}
use Rattle.utf8.specs.Bytes.{bytes}
use Rattle.utf8.specs.Scalar.{utf8}
use Rattle.utf8_pending.proofs.SettledFirst.{bytes-short, left-short}
use Rattle.decoder_shared.proofs.ChecksInOrder.{admitted-over, admitted-list, admitted-then}
use Rattle.decoder.specs.Checks.{admitted}
use Rattle.decoder.proofs.TestsAsFacts.{Sound, sound_is, is_sound}
use Rattle.decoder.specs.State.{left, sound, byte_decoding, fed}
use Rattle.decoder.specs.Feeding.{feed_says, Feeds}
use Rattle.decoder_shared.specs.declared.Fed.{Fed}
use Rattle.demand_pieces.specs.Inside.Trying.{number_of, due_to, Refuses}
use Rattle.demand_pieces.specs.Inside.Trying as trying
use Rattle.demand_feeding.proofs.GrantedExactly.{fed-form}

abbrev head : List ℕ → ℕ
head says = get_or says 0 0

-- ---- the call: what is refused changes nothing, and tells its number

module _ {d : Decoder} {piece out list out₁ list₁ : List ℕ} {q : Fed Decoder} (f : Feeds d piece out list out₁ list₁ q)
    (n : ℕ) (due : head (feed_says d piece out list) ≡ n) (some : 0 < n) where
  pub not-granted : (m : ℕ) → q.answer ≡ Ok m → ⊥
  not-granted m a =
      let z : 0 ≡ n = ap head (sym (ap told.told_written a) ∙ f.answer) ∙ due in
      omega (arith, z, some)

  pub refused-so : (why : Refusal) → q.answer ≡ Err why → (k : ℕ) → k ≡ get_or (told_refusal why) 0 0 → Refuses out list out₁ list₁ (eqb k n)
  refused-so why a k e =
      let no : is_granted (feed_says d piece out list) ≡ false
      = ne_eqb (head (feed_says d piece out list)) 0 (λ z. let y : n ≡ 0 = sym due ∙ z in omega (arith, y, some)) in
      record {
        yes = eq-eqb k n (e ∙ ap head (sym (ap told.told_written a) ∙ f.answer) ∙ due);
        output = f.output
            ∙ ap (λ (b : Bool). cond b ((fed d piece list).kept.out ++ drop (length (fed d piece list).kept.out) out) out) no;
        entries = f.entries ∙ ap (λ (b : Bool). cond b (fed d piece list).kept.list list) no;
      }

-- one after another
pub refuses-then : {out list out₁ list₁ out₂ list₂ : List ℕ} {r s : Bool} → Refuses out list out₁ list₁ r → Refuses out₁ list₁ out₂ list₂ s
    → Refuses out list out₂ list₂ s
refuses-then a b = record { yes = b.yes; output = b.output ∙ a.output; entries = b.entries ∙ a.entries }

-- ---- the copies

module _ (d : Decoder) (s : sound d ≡ true) where
  pub tests : Sound d
  tests = sound_is d s

  abbrev over : Decoder
  over = record {
    held = d.held;
    pending = d.pending;
    taken = limit;
    whole = d.whole + (limit - d.taken);
    damaged = d.damaged;
    count = d.count;
    room = d.room;
  }

  pub over-refused : (out list : List ℕ) → number_of over 1 out list ≡ 2
  over-refused out list =
      let b = tests.numbers in
      let t = is_sound over (record {
        tail = tests.tail;
        numbers = record { sum = omega (arith, b.sum, b.within); within = omega arith; low = b.low; high = b.high; roomy = b.roomy };
      }) in
      let form : List ℕ = (fed over (take 1 trying.bytes) list).kept.out in
      sym (ap head (admitted-over byte_decoding over 1 (length list) (roomed (length out) form) t (omega arith)))

  abbrev roomier : Decoder
  roomier = record {
    held = d.held;
    pending = d.pending;
    taken = d.taken;
    whole = d.whole;
    damaged = d.damaged;
    count = d.count;
    room = most_room;
  }

  pub list-refused : (out : List ℕ) → number_of roomier 0 out [] ≡ 7
  list-refused out =
      let b = tests.numbers in
      let t = is_sound roomier (record {
        tail = tests.tail;
        numbers = record { sum = b.sum; within = b.within; low = b.low; high = b.high; roomy = omega arith };
      }) in
      let form : List ℕ = (fed roomier [] []).kept.out in
      sym (ap head (admitted-list byte_decoding roomier 0 0 (roomed (length out) form) t (omega (arith, b.within)) (omega arith)))

  -- ---- the state itself, with no output

  module _ (size row : ℕ) where
    pub due-over : limit - d.taken < size → 2 ≡ due_to d size row
    due-over h = ap head (admitted-over byte_decoding d size row (3 ∷ []) s (omega (arith, h)))

    module _ (h : size ≤ limit - d.taken) where
      inside : d.taken + size ≤ limit
      inside = omega (arith, h, tests.numbers.within)

      pub due-list : row < entry_width * d.room → 7 ≡ due_to d size row
      due-list k = ap head (admitted-list byte_decoding d size row (3 ∷ []) s inside k)

      pub due-places : entry_width * d.room ≤ row → 3 ≡ due_to d size row
      due-places k = sym (ap head (admitted-then byte_decoding d size row (3 ∷ []) (record { tests = s; within = inside; list = k })))

    -- whatever the call would say behind a 3
    same_head : (says : List ℕ) → head (admitted d size row (3 ∷ says)) ≡ due_to d size row
    same_head says = split (sound d)
        (λ t. split (ltb limit (d.taken + size))
        (λ o. rw (t, o))
        (λ o. split (ltb row (entry_width * d.room)) (λ k. rw (t, o, k)) (λ k. rw (t, o, k))))
        (λ t. rw t)

    pub due-some : 0 < due_to d size row
    due-some = split (sound d)
        (λ t. split (ltb limit (d.taken + size))
        (λ o. rw (t, o) (omega arith))
        (λ o. split (ltb row (entry_width * d.room)) (λ k. rw (t, o, k) (omega arith)) (λ k. rw (t, o, k) (omega arith))))
        (λ t. rw t (omega arith))

-- a segment is written in one place at least
mended : (ss : List (Segment Kind)) → 0 < total size ss → 0 < length (written (mend utf8) ss)
mended [] h = absurd (omega arith)
mended (s ∷ ss) h =
    let n : 0 < length (mend utf8 s) = split (is_damage s.tag) (λ e. rw e (omega arith)) (λ e. rw e (omega arith)) in
    omega (arith, n, length-append (mend utf8 s) (written (mend utf8) ss))

-- so more bytes than can be pending need a place
settles-some : (d : Decoder) (piece list : List ℕ) → most_pending < length piece → 0 < length (fed d piece list).kept.out
settles-some d piece list h =
    let text : List ℕ = left d ++ piece in
    let m : 0 < total size (parts bytes text).done = omega (arith, h, parts-size bytes text, left-short bytes-short text, length-append (left d) piece) in
    rw (fed-form byte_decoding d list piece) (mended (parts bytes text).done m)

pub places-refused : (d : Decoder) → sound d ≡ true → (list : List ℕ) → number_of d (most_pending + 1) [] list ≡ due_to d (most_pending + 1) (length list)
places-refused d s list =
    let form : List ℕ = (fed d trying.bytes list).kept.out in
    let n : 0 < length form = settles-some d trying.bytes list (omega arith) in
    let e : roomed 0 form ≡ 3 ∷ length form ∷ [] = rw (lt-ltb 0 (length form) n) in
    ap (λ (says : List ℕ). head (admitted d (most_pending + 1) (length list) says)) e ∙ same_head d s (most_pending + 1) (length list) (length form ∷ [])
