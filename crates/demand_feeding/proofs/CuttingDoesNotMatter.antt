-- THE CUTTING DOES NOT MATTER: what the feeds on the way through a text leave is what a course of the decoder's calls leaves; so
-- where finish is granted, it has given the form, the totals and the entries of the text.
use mathlib.Core.Path.{◌≡◌, refl, sym, ap, ap₂, subst, ◌∙◌}
use Prim.Native.Nat.{ℕ, ◌+◌, ◌*◌, ◌-◌, ◌≤◌}
use mathlib.Core.Bool.{Bool, true, cond, true≢false}
use mathlib.Core.List.{List, [], ◌∷◌, ◌++◌, foldl-append}
use lib.ListN.{length, get_or, take, drop, length-append, length-drop, take-append-drop}
use lib.Seq.{take_at, take_all, take-append-add, length-take-le, length-sets}
use lib.Dec.{ltb, eqb}
use borrow.Author.Tests.{eqb-true, eq-eqb, ltb-false}
use native.Mathlib.Omega.{arith}
use Rattle.theory.specs.Reader.{cut, parts}
use Rattle.theory.specs.Stream.{join}
use Rattle.theory.specs.Course.{Course, granted, called, course}
use Rattle.theory.specs.Course as course
use Rattle.theory.specs.Table.{is_damage}
use Rattle.theory.specs.Tally.{written, total, entries, whole_of, damaged_of, count_of}
use Rattle.theory.proofs.AnyCalls.{course-keeps, join_more}
use Rattle.theory.proofs.Cases.{split}
use Rattle.terms.specs.Limits.{most_room, entry_width}
use Rattle.terms.specs.Told.{is_granted, if_granted}
use Rattle.terms.specs.Writing.{output_of}
use Rattle.decoder_shared.specs.Decoding.{Decoding, numbers, fresh, fed, ended, closed}
use Rattle.decoder_shared.specs.Calls.{finish_says, Finishes}
use Rattle.decoder_shared.specs.Course.{Caller, starting, wrote, fed_all, listed, Holds}
use Rattle.decoder_shared.specs.Course as calling
use Rattle.decoder_shared.proofs.Lawful.{Lawful}
use Rattle.decoder_shared.proofs.AnyCutting.{FeedGrants, feed-grants, FinishGrants, finish-grants, course_holds, fed_as_whole}
use Rattle.demand_shared.proofs.CutsBetween.{bring-from, bring-end}
use Rattle.demand_feeding.specs.Feeds.{Held, Call, rest_of, end_of, piece_of, says_of, feed_of, Given, given, finished, ran, through}
use Rattle.demand_feeding.specs.Feeds as specs
use Rattle.demand_feeding.specs.Pieces.{form_of}
use Rattle.demand_feeding.specs.Inside.Feeding.{fed_one}
use Rattle.demand_feeding.proofs.CallsOnTheWay.{one-granted, one-refused, called-caller}

-- ---- lists

-- the part between two places, behind what is before the first
take_on : (l : List ℕ) (a b : ℕ) → a ≤ b → a ≤ length l → take a l ++ take (b - a) (drop a l) ≡ take b l
take_on l a b h k =
    let n : a + (b - a) ≡ b = omega arith in
    let m : length (take a l) ≡ a = length-take-le a l k in
    sym (take-append-add (take a l) (drop a l) (b - a)) ∙ rw (m, take-append-drop a l, n)

-- what stands at a place where a form was written
take-wrote : (out form : List ℕ) (done : ℕ) → done ≤ length out → take (done + length form) (take done out ++ (form ++ drop (length form) (drop done out)))
    ≡ take done out ++ form
take-wrote out form done h =
    let m : length (take done out) ≡ done = length-take-le done out h in
    ap (λ (k : ℕ). take (k + length form) (take done out ++ (form ++ drop (length form) (drop done out)))) (sym m)
    ∙ take-append-add (take done out) (form ++ drop (length form) (drop done out)) (length form)
    ∙ ap (λ (l : List ℕ). take done out ++ l) (take_at form (drop (length form) (drop done out)) (length form) refl)

wrote-long : (out form : List ℕ) (done : ℕ) → done ≤ length out → length form ≤ length (drop done out)
    → length (take done out ++ (form ++ drop (length form) (drop done out))) ≡ length out
wrote-long out form done h k = omega (
  arith,
  length-append (take done out) (form ++ drop (length form) (drop done out)),
  length-append form (drop (length form) (drop done out)),
  length-drop (length form) (drop done out),
  length-drop done out,
  length-take-le done out h,
)

-- ---- a granted feed

-- it stays within the text and the output
pub record Bounded {S : Type 0} (text : List ℕ) (h : Held S) : Type 0 where
  pub from_in : h.from ≤ length text
  pub done-in : h.done ≤ length h.out

module _ {S : Type 0} (D : Decoding S) (text : List ℕ) (h : Held S) (c : Call) where
  abbrev part : List ℕ
  part = take c.places (rest_of h)

  abbrev form : List ℕ
  form = (fed D h.state (piece_of text h c) h.list).kept.out

  abbrev next : List ℕ → Held S
  next says = record {
    state = closed D h.state ((D.stands h.state).taken + length (piece_of text h c)) (fed D h.state (piece_of text h c) h.list);
    from = end_of text h c;
    done = h.done + get_or says 1 0;
    out = take h.done h.out ++ output_of says form (rest_of h);
    list = (fed D h.state (piece_of text h c) h.list).kept.list;
  }

  abbrev told : List ℕ
  told = 0 ∷ length form ∷ []

  module _ (e : is_granted (says_of D text h c) ≡ true) (b : Bounded text h) where
    grants : FeedGrants D h.state (piece_of text h c) part h.list
    grants = feed-grants D h.state (piece_of text h c) part h.list e

    goes-is : (feed_of D text).goes h c ≡ next told
    goes-is = ap next grants.says

    fits : length form ≤ length (rest_of h)
    fits = omega (
      arith,
      grants.fits,
      ap length (take-append-drop c.places (rest_of h)),
      length-append (take c.places (rest_of h)) (drop c.places (rest_of h)),
    )

    next-long : length (next told).out ≡ length h.out
    next-long = wrote-long h.out form h.done b.done-in fits

    next-bounded : Bounded text (next told)
    next-bounded = record {
      from_in = bring-end c.cut h.from (length text) b.from_in;
      done-in = omega (arith, next-long, fits, b.done-in, length-drop h.done h.out);
    }

  -- and so does any feed, since a refused one leaves everything as it was
  pub one-bounded : Bounded text h → Bounded text (fed_one D text h c)
  one-bounded b = split (is_granted (says_of D text h c))
      (λ e. subst (Bounded text) (sym (one-granted D text h c e ∙ goes-is e b)) (next-bounded e b))
      (λ e. subst (Bounded text) (sym (one-refused D text h c e)) b)

-- ---- the decoder's calls that such feeds are

abbrev pub caller_of : {S : Type 0} → Held S → Caller S
caller_of h = record { state = h.state; list = h.list; written = take h.done h.out }

module _ {S : Type 0} (D : Decoding S) (room : ℕ) (row text out : List ℕ) where
  -- WHAT EVERY GRANTED FEED KEEPS: the caller has what a course of the decoder's calls leaves, and its pieces are the text so far
  pub record Keeps (so_far : List ℕ) (h : Held S) : Type 0 where
    pub bounded : Bounded text h
    pub long : length h.out ≡ length out
    pub calls : List calling.Call
    pub caller-is : (fed_all D room row calls).caller ≡ caller_of h
    pub joined : join (fed_all D room row calls).pieces ≡ so_far
    pub so-far-is : so_far ≡ take h.from text

  keeps-start : Keeps [] (specs.starting D room out row)
  keeps-start = record {
    bounded = record { from_in = omega arith; done-in = omega arith };
    long = refl;
    calls = [];
    caller-is = refl;
    joined = refl;
    so-far-is = refl;
  }

  keeps-next : (so_far : List ℕ) (h : Held S) (c : Call) → (feed_of D text).grants h c ≡ true → Keeps so_far h
      → Keeps (so_far ++ piece_of text h c) ((feed_of D text).goes h c)
  keeps-next so_far h c e k =
      let b = k.bounded in
      let piece : List ℕ = piece_of text h c in
      let r : Course (Caller S) = fed_all D room row k.calls in
      let x : calling.Call = record { piece = piece; out = part D text h c } in
      let yes : (calling.feed_of D).grants r.caller x ≡ true = rw k.caller-is e in
      let more : fed_all D room row (k.calls ++ x ∷ []) ≡ granted (calling.feed_of D) r x
      = foldl-append (called (calling.feed_of D)) (course.uncalled (starting D room row)) k.calls (x ∷ [])
      ∙ ap (λ (a : Bool). cond a (granted (calling.feed_of D) r x) r) yes in
      let says = (grants D text h c e b).says in
      let wrote_is : wrote (says_of D text h c) (form D text h c) (part D text h c) ≡ form D text h c
      = ap (λ (l : List ℕ). wrote l (form D text h c) (part D text h c)) says
      ∙ take_at (form D text h c) (drop (length (form D text h c)) (part D text h c)) (length (form D text h c)) refl in
      let n : Held S = next D text h c (told D text h c) in
      let written_is : take h.done h.out ++ wrote (says_of D text h c) (form D text h c) (part D text h c) ≡ take n.done n.out
      = ap (λ (l : List ℕ). take h.done h.out ++ l) wrote_is ∙ sym (take-wrote h.out (form D text h c) h.done b.done-in) in
      subst (Keeps (so_far ++ piece)) (sym (goes-is D text h c e b)) (record {
        bounded = next-bounded D text h c e b;
        long = next-long D text h c e b ∙ k.long;
        calls = k.calls ++ x ∷ [];
        caller-is =
            ap (λ (y : Course (Caller S)). y.caller) more
            ∙ ap (λ (y : Caller S). (calling.feed_of D).goes y x) k.caller-is
            ∙ ap (λ (l : List ℕ). record { state = n.state; list = n.list; written = l }) written_is;
        joined = ap (λ (y : Course (Caller S)). join y.pieces) more ∙ join_more r.pieces piece ∙ ap (λ (l : List ℕ). l ++ piece) k.joined;
        so-far-is =
            ap (λ (l : List ℕ). l ++ piece) k.so-far-is
            ∙ take_on text h.from (end_of text h c) (bring-from c.cut h.from (length text) b.from_in) b.from_in;
      })

  -- so it holds after any feeds
  abbrev pub behind : List Call → Held S
  behind calls = (course (feed_of D text) (specs.starting D room out row) calls).caller

  pub keeps : (calls : List Call) → Keeps (join (course (feed_of D text) (specs.starting D room out row) calls).pieces) (behind calls)
  keeps calls = course-keeps (feed_of D text) Keeps keeps-next (specs.starting D room out row) keeps-start calls

  pub behind-one : (calls : List Call) (c : Call) → behind (calls ++ c ∷ []) ≡ fed_one D text (behind calls) c
  behind-one calls c =
      ap (λ (r : Course (Held S)). r.caller) (foldl-append (called (feed_of D text)) (course.uncalled (specs.starting D room out row)) calls (c ∷ []))
      ∙ called-caller D text (course (feed_of D text) (specs.starting D room out row) calls) c

  -- WHAT A WAY HAS FOUND where finish was granted
  pub record Ran (v : Given) : Type 0 where
    pub roomy : room ≤ most_room
    pub listed_in : entry_width * room ≤ length row
    pub fits : v.found.written ≤ length v.out
    pub long : length v.out ≡ length out
    pub output : take v.found.written v.out ≡ form_of D text
    pub list-is : v.list ≡ listed room row (cut D.look text)
    pub whole_is : v.found.whole ≡ total (whole_of is_damage) (cut D.look text)
    pub damaged-is : v.found.damaged ≡ total (damaged_of is_damage) (cut D.look text)
    pub count-is : v.found.count ≡ total (count_of is_damage) (cut D.look text)

  module _ (L : Lawful D) where
    module _ (roomy : room ≤ most_room) (so_far : List ℕ) (h : Held S) (k : Keeps so_far h) where
      -- the state passes its tests, and is the one of the text so far
      pub keeps-holds : Holds D room row so_far (caller_of h)
      keeps-holds =
          subst (Holds D room row so_far) k.caller-is
          (subst (λ (l : List ℕ). Holds D room row l (fed_all D room row k.calls).caller) k.joined (course_holds D L room row roomy k.calls))

      pub list-long : length h.list ≡ length row
      list-long =
          ap length keeps-holds.entries
          ∙ length-sets row 0 (written numbers (take room (entries is_damage 0 (parts D.look so_far).done)))

      -- ---- the end

      abbrev last : List ℕ
      last = (ended D h.state h.list).out

      abbrev pub ending : Given
      ending = given
          (record {
            granted = true;
            written = h.done + length last;
            whole = (ended D h.state h.list).whole;
            damaged = (ended D h.state h.list).damaged;
            count = (ended D h.state h.list).count;
          })
          (take h.done h.out ++ (last ++ drop (length last) (rest_of h)))
          (ended D h.state h.list).list

      ran-all : h.from ≡ length text → FinishGrants D h.state (rest_of h) h.list → Ran ending
      ran-all all f =
          let b = k.bounded in
          let d = h.state in
          let out₁ : List ℕ = last ++ drop (length last) (rest_of h) in
          let l = ended D d h.list in
          let says : List ℕ = 0 ∷ length last ∷ l.whole ∷ l.damaged ∷ l.count ∷ [] in
          let next : S = fresh D (D.stands d).room in
          let fin : Finishes D d (rest_of h) h.list out₁ l.list says next = record {
            answer = sym f.says;
            state = sym (ap (λ (l : List ℕ). if_granted l next d) f.says);
            output = sym (ap (λ (l : List ℕ). output_of l last (rest_of h)) f.says);
            entries = sym (ap (λ (n : List ℕ). if_granted n l.list h.list) f.says);
          } in
          let z = fed_as_whole D L room row k.calls (rest_of h) out₁ l.list says next (rw k.caller-is fin) refl in
          let whole-text : join (fed_all D room row k.calls).pieces ≡ text
          = k.joined ∙ k.so-far-is ∙ ap (λ (i : ℕ). take i text) all ∙ take_all (length text) text (omega arith) in
          let room-is : (D.stands d).room ≡ room = keeps-holds.room-is in
          let long : length ending.out ≡ length h.out = wrote-long h.out last h.done b.done-in f.fits in
          record {
            roomy = roomy;
            listed_in = omega (arith, f.admits.list, room-is, list-long);
            fits = omega (arith, f.fits, b.done-in, length-drop h.done h.out, long);
            long = long ∙ k.long;
            output =
                take-wrote h.out last h.done b.done-in
                ∙ sym (ap₂ ◌++◌ (ap (λ (y : Caller S). y.written) k.caller-is) (take_at last (drop (length last) (rest_of h)) (length last) refl))
                ∙ z.output
                ∙ ap (form_of D) whole-text;
            list-is = z.entries ∙ ap (λ (l : List ℕ). listed room row (cut D.look l)) whole-text;
            whole_is = ap (λ (l : List ℕ). get_or l 0 0) z.totals ∙ ap (λ (l : List ℕ). total (whole_of is_damage) (cut D.look l)) whole-text;
            damaged-is = ap (λ (l : List ℕ). get_or l 1 0) z.totals ∙ ap (λ (l : List ℕ). total (damaged_of is_damage) (cut D.look l)) whole-text;
            count-is = ap (λ (l : List ℕ). get_or l 2 0) z.totals ∙ ap (λ (l : List ℕ). total (count_of is_damage) (cut D.look l)) whole-text;
          }

      -- it is granted where all was taken and finish is granted
      pub ended_so : h.from ≡ length text → FinishGrants D h.state (rest_of h) h.list → finished D text h ≡ ending
      ended_so all f = rw (eq-eqb h.from (length text) all, f.says)

      found-ran : (finished D text h).found.granted ≡ true → Ran (finished D text h)
      found-ran e = split (eqb h.from (length text))
          (λ t. split (is_granted (finish_says D h.state (rest_of h) h.list))
          (λ g.
          let all = eqb-true h.from (length text) t in
          let f = finish-grants D h.state (rest_of h) h.list g in
          subst Ran (sym (ended_so all f)) (ran-all all f))
          (λ g. absurd (true≢false (sym e ∙ rw (t, g)))))
          (λ t. absurd (true≢false (sym e ∙ rw t)))

    -- THE SECOND DEMAND on the way through a text, by any feeds
    pub through-ran : (calls : List Call) (v : Given) → v ≡ through D room text calls out row → v.found.granted ≡ true → Ran v
    through-ran calls v e g = split (ltb most_room room)
        (λ t. absurd (true≢false (sym g ∙ ap (λ (x : Given). x.found.granted) e ∙ rw t)))
        (λ t.
        let same : v ≡ ran D room text calls out row = e ∙ rw t in
        subst Ran (sym same)
        (found-ran (ltb-false most_room room t) _ (behind calls) (keeps calls) (ap (λ (x : Given). x.found.granted) (sym same) ∙ g)))
