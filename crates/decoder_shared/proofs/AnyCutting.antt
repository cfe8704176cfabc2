-- Many calls by one caller, over any decoder: the cutting of the text does not matter, and the state always passes its tests.
use mathlib.Core.Path.{◌≡◌, refl, sym, ap, ◌∙◌}
use Prim.Native.Nat.{ℕ, ◌+◌, ◌≤◌}
use mathlib.Core.Bool.{Bool, true, cond, true≢false}
use mathlib.Core.List.{List, [], ◌∷◌, ◌++◌}
use lib.ListN.{length, get_or, take, drop, length-append}
use lib.Seq.{take_at}
use lib.Dec.{ltb}
use borrow.Author.Tests.{ltb-false}
use native.Mathlib.Omega.{arith}
use Rattle.theory.specs.Reader.{cut, parts}
use Rattle.theory.specs.Stream.{join, State, feed}
use Rattle.theory.specs.Course.{Course, called}
use Rattle.theory.specs.Table.{is_damage}
use Rattle.theory.specs.Tally.{Log}
use Rattle.theory.proofs.AnyCalls.{course-keeps, Follows, follows-start, follows_next}
use Rattle.theory.proofs.Cases.{split, either}
use Rattle.theory.proofs.Divisions.{left-pending}
use Rattle.theory.proofs.TalliesAdd.{count-damaged, damaged-count, behind, log-behind, tallied, so_far, balance, at-end}
use Rattle.terms.specs.Limits.{limit, most_room, entry_width}
use Rattle.terms.specs.Told.{is_granted, if_granted}
use Rattle.decoder_shared.specs.Decoding.{Standing, Decoding, numbers, act, fresh, fed, ended}
use Rattle.decoder_shared.specs.Calls.{feed_says, Feeds, finish_says}
use Rattle.decoder_shared.specs.Course.{Call, Caller, starting, wrote, feed_of, fed_all, Holds, FedAsWhole}
use Rattle.decoder_shared.proofs.ChecksInOrder.{Admits, admitted-then, granted-admits}
use Rattle.decoder_shared.proofs.Lawful.{Lawful}

-- ---- what is granted has passed each check

module _ {S : Type 0} (D : Decoding S) (d : S) (piece out list : List ℕ) where
  abbrev fed_form : List ℕ
  fed_form = (fed D d piece list).kept.out

  pub record FeedGrants : Type 0 where
    pub admits : Admits D d (length piece) (length list)
    pub fits : length fed_form ≤ length out
    pub says : feed_says D d piece out list ≡ 0 ∷ length fed_form ∷ []

  pub feed-grants : is_granted (feed_says D d piece out list) ≡ true → FeedGrants
  feed-grants g =
      let a = granted-admits D d (length piece) (length list) _ g in
      split (ltb (length out) (length fed_form))
      (λ n. absurd (true≢false (sym (rw n at a.1))))
      (λ n. record {
        admits = a.0;
        fits = ltb-false (length out) (length fed_form) n;
        says = admitted-then D d (length piece) (length list) _ a.0 ∙ rw n;
      })

module _ {S : Type 0} (D : Decoding S) (d : S) (out list : List ℕ) where
  abbrev end_log : Log
  end_log = ended D d list

  pub record FinishGrants : Type 0 where
    pub admits : Admits D d 0 (length list)
    pub fits : length end_log.out ≤ length out
    pub says : finish_says D d out list ≡ 0 ∷ length end_log.out ∷ end_log.whole ∷ end_log.damaged ∷ end_log.count ∷ []

  pub finish-grants : is_granted (finish_says D d out list) ≡ true → FinishGrants
  finish-grants g =
      let a = granted-admits D d 0 (length list) _ g in
      split (ltb (length out) (length end_log.out))
      (λ n. absurd (true≢false (sym (rw n at a.1))))
      (λ n. record {
        admits = a.0;
        fits = ltb-false (length out) (length end_log.out) n;
        says = admitted-then D d 0 (length list) _ a.0 ∙ rw n;
      })

-- what was written is the form
wrote_is : (says form out : List ℕ) {ns : List ℕ} → says ≡ 0 ∷ length form ∷ ns → wrote says form out ≡ form
wrote_is says form out e = rw e (take_at form (drop (length form) out) (length form) refl)

module _ {S : Type 0} (D : Decoding S) (L : Lawful D) where
  -- ---- the stream that the caller's things stand for

  abbrev pub reads : Caller S → State Log
  reads h =
      let s = D.stands h.state in
      record {
        left = s.left;
        kept = record { whole = s.whole; damaged = s.damaged; count = s.count; out = h.written; list = h.list };
      }

  -- the state that a feed hands back stands for what is left and what is kept
  abbrev after : Caller S → Call → Standing
  after h c =
      let s = fed D h.state c.piece h.list in
      record {
        left = s.left;
        taken = (D.stands h.state).taken + length c.piece;
        whole = s.kept.whole;
        damaged = s.kept.damaged;
        count = s.kept.count;
        room = (D.stands h.state).room;
      }

  stands_after : (h : Caller S) (c : Call) → D.stands ((feed_of D).goes h c).state ≡ after h c
  stands_after h c = L.kept (after h c) (left-pending D.look ((D.stands h.state).left ++ c.piece))

  -- a granted feed feeds it
  reads-fed : (h : Caller S) (c : Call) → is_granted (feed_says D h.state c.piece c.out h.list) ≡ true
      → reads ((feed_of D).goes h c) ≡ feed D.look (act D.write (D.stands h.state).room) (reads h) c.piece
  reads-fed h c g =
      let d = h.state in
      let text : List ℕ = (D.stands d).left ++ c.piece in
      let says = (feed-grants D d c.piece c.out h.list g).says in
      let form : List ℕ = (fed D d c.piece h.list).kept.out in
      let w : wrote (feed_says D d c.piece c.out h.list) form c.out ≡ form
      = wrote_is (feed_says D d c.piece c.out h.list) form c.out says in
      ap (λ (s : Standing). record {
        left = s.left;
        kept = record {
          whole = s.whole;
          damaged = s.damaged;
          count = s.count;
          out = h.written ++ wrote (feed_says D d c.piece c.out h.list) form c.out;
          list = (fed D d c.piece h.list).kept.list;
        };
      }) (stands_after h c)
      ∙ rw (w, log-behind is_damage D.write numbers entry_width (D.stands d).room (reads h).kept (parts D.look text).done)

  module _ (room : ℕ) (row : List ℕ) where
    abbrev start : Log
    start = record { whole = 0; damaged = 0; count = 0; out = []; list = row }

    -- WHAT EVERY GRANTED CALL KEEPS: the stream of the text that was taken, and with it the state
    pub record Keeps (text : List ℕ) (h : Caller S) : Type 0 where
      pub follows : Follows L.division (act D.write room) start reads text h
      pub within : length text ≤ limit
      pub taken : (D.stands h.state).taken ≡ length text
      pub room-is : (D.stands h.state).room ≡ room
      pub same : h.state ≡ D.state (D.stands h.state)

    keeps-start : Keeps [] (starting D room row)
    keeps-start =
        let k = L.kept (record { left = []; taken = 0; whole = 0; damaged = 0; count = 0; room = room }) refl in
        record {
          follows = follows-start L.division (act D.write room) start reads (starting D room row) (rw k);
          within = omega arith;
          taken = rw k;
          room-is = rw k;
          same = rw k;
        }

    keeps-next : (text : List ℕ) (h : Caller S) (c : Call) → (feed_of D).grants h c ≡ true → Keeps text h → Keeps (text ++ c.piece) ((feed_of D).goes h c)
    keeps-next text h c g k =
        let a = (feed-grants D h.state c.piece c.out h.list g).admits in
        let s = stands_after h c in
        let e : reads ((feed_of D).goes h c) ≡ feed D.look (act D.write room) (reads h) c.piece
        = reads-fed h c g ∙ ap (λ (n : ℕ). feed D.look (act D.write n) (reads h) c.piece) k.room-is in
        let t : (D.stands ((feed_of D).goes h c).state).taken ≡ (D.stands h.state).taken + length c.piece = ap (λ (s : Standing). s.taken) s in
        record {
          follows = follows_next L.division (act D.write room) start reads text c.piece h ((feed_of D).goes h c) k.follows e;
          within = omega (arith, a.within, k.taken, length-append text c.piece);
          taken = omega (arith, t, k.taken, length-append text c.piece);
          room-is = ap (λ (s : Standing). s.room) s ∙ k.room-is;
          same = sym (ap D.state s);
        }

    pub keeps : (calls : List Call) → Keeps (join (fed_all D room row calls).pieces) (fed_all D room row calls).caller
    keeps calls = course-keeps (feed_of D) Keeps keeps-next (starting D room row) keeps-start calls

    -- AFTER EVERY CALL the state is the one of the joined text, and passes its tests
    pub keeps-holds : room ≤ most_room → (text : List ℕ) (h : Caller S) → Keeps text h → Holds D room row text h
    keeps-holds roomy text h k =
        let done = (parts D.look text).done in
        let l = so_far is_damage D.write numbers entry_width room (λ e. refl) row L.division text (reads h) k.follows in
        let b = balance is_damage D.write numbers entry_width room (λ e. refl) row L.division text (reads h) k.follows in
        let left_is : (D.stands h.state).left ≡ (parts D.look text).left = ap (λ (s : State Log). s.left) k.follows in
        let m = ap (λ (m : Log). m.damaged) l in
        let n = ap (λ (m : Log). m.count) l in
        let sum : (D.stands h.state).whole + (D.stands h.state).damaged + length (D.stands h.state).left ≡ (D.stands h.state).taken
        = b ∙ sym k.taken in
        record {
          tests = rw k.same (L.passes (D.stands h.state) (record {
            begins = rw left_is (left-pending D.look text);
            sum = sum;
            within = omega (arith, k.within, k.taken);
            low = omega (arith, m, n, count-damaged is_damage done);
            high = rw (m, n) (damaged-count is_damage L.division L.hold L.short text);
            roomy = omega (arith, k.room-is, roomy);
          }));
          taken = k.taken;
          sum = sum;
          whole = ap (λ (m : Log). m.whole) l;
          damaged = m;
          count = n;
          room-is = k.room-is;
          pending = left_is;
          output = ap (λ (m : Log). m.out) l;
          entries = ap (λ (m : Log). m.list) l;
        }

    pub course_holds : room ≤ most_room → (calls : List Call) → let r = fed_all D room row calls in Holds D room row (join r.pieces) r.caller
    course_holds roomy calls = keeps-holds roomy _ _ (keeps calls)

  -- AND AT THE END there are the written form, the first entries and the totals of the joined text
  pub fed_as_whole : FedAsWhole D
  fed_as_whole room row calls out out' list' said next h granted =
      let r = fed_all D room row calls in
      let c : Caller S = r.caller in
      let k = keeps room row calls in
      let t : List ℕ = join r.pieces in
      let l : Log = ended D c.state c.list in
      let g : is_granted (finish_says D c.state out c.list) ≡ true = rw h.answer at granted in
      let says = (finish-grants D c.state out c.list g).says in
      let e : behind is_damage D.write numbers entry_width room c.written l ≡ tallied is_damage D.write numbers entry_width room row (cut D.look t)
      = rw k.room-is (sym (log-behind is_damage D.write numbers entry_width room (reads c).kept (cut D.look (D.stands c.state).left)))
      ∙ at-end is_damage D.write numbers entry_width room (λ e. refl) row L.division t (reads c) k.follows in
      record {
        output = rw (h.answer, h.output, wrote_is (finish_says D c.state out c.list) l.out out says) (ap (λ (m : Log). m.out) e);
        entries = h.entries ∙ ap (λ (b : Bool). cond b l.list c.list) g ∙ ap (λ (m : Log). m.list) e;
        totals = ap (drop 2) (h.answer ∙ says) ∙ ap (λ (m : Log). m.whole ∷ m.damaged ∷ m.count ∷ []) e;
        state = h.state ∙ ap (λ (b : Bool). cond b (fresh D (D.stands c.state).room) c.state) g ∙ ap (fresh D) k.room-is;
      }

  -- ---- THE CALLS THEMSELVES GO THIS COURSE: whatever a feed answers, leaves in the output and in the list

  pub feeds_called : (r : Course (Caller S)) (c : Call) (out' list' said : List ℕ) (next : S)
      → Feeds D r.caller.state c.piece c.out r.caller.list out' list' said next
      → called (feed_of D) r c ≡ if_granted said (record {
        caller = record { state = next; list = list'; written = r.caller.written ++ take (get_or said 1 0) out' };
        pieces = r.pieces ++ c.piece ∷ [];
      }) r
  feeds_called r c out' list' said next h =
      let d = r.caller.state in
      let says = feed_says D d c.piece c.out r.caller.list in
      let new = (feed_of D).goes r.caller c in
      rw (h.answer, h.state, h.entries, h.output)
      (either
      (λ (state : S) (list : List ℕ). record {
        caller = record { state = state; list = list; written = new.written };
        pieces = r.pieces ++ c.piece ∷ [];
      }) (is_granted says) r d new.state r.caller.list new.list)
