-- The calls on the way through a text, as the definitions say: start, the feed of a piece, finish; and what each has passed.
use mathlib.Core.Path.{◌≡◌, refl, sym, ap, subst, ◌∙◌}
use Prim.Native.Nat.{ℕ, ◌+◌, ◌-◌, ◌≤◌}
use mathlib.Core.Bool.{Bool, true, false, cond, true≢false}
use mathlib.Core.List.{List, [], ◌∷◌, ◌++◌, append_assoc}
use lib.ListN.{length, get_or, take, drop, length-append, length-drop, take-append-drop}
use lib.Seq.{drop-append-le, take_all}
use lib.Dec.{ltb}
use borrow.Author.Tests.{eq-eqb, ne_eqb, ltb-false}
use native.Mathlib.Omega.{arith}
use Rattle.theory.specs.Course.{Course, uncalled, granted, called}
use Rattle.theory.proofs.Cases.{split}
use Rattle.terms.specs.Limits.{most_room}
use Rattle.terms.specs.Told.{is_granted, if_granted}
use Rattle.terms.specs.Writing.{output_of}
use Rattle.terms.proofs.WalkBySegments.{part_is}
use Rattle.terms.proofs.WalkWrites.{lent, back, back_is}
use Rattle.decoder_shared.specs.Decoding.{Standing, Decoding, fresh, fed, ended, closed}
use Rattle.decoder_shared.specs.Calls.{Starts, Feeds, finish_says, Finishes}
use Rattle.decoder_shared.proofs.Lawful.{Lawful}
use Rattle.decoder_shared.proofs.AnyCutting.{FeedGrants, feed-grants, finish-grants}
use Rattle.demand_shared.specs.Cuts.{bring}
use Rattle.demand_feeding.specs.Feeds.{Held, Call, call, rest_of, end_of, piece_of, says_of, feed_of, starting, Given, given, nothing, finished, ran, through}
use Rattle.demand_feeding.specs.Inside.Feeding.{fed_one}
use Rattle.demand_feeding.specs.declared.Found.{Found}

-- ---- start

module _ {S : Type 0} (D : Decoding S) (room : ℕ) {said : List ℕ} {next : S} (s : Starts D room said next) where
  start-ready : said ≡ 0 ∷ [] → (ltb most_room room ≡ false) × (next ≡ fresh D room)
  start-ready e = split (ltb most_room room)
      (λ t. let q : 0 ∷ [] ≡ 7 ∷ [] = rw t at (sym e ∙ s.answer) in let z : ◌≡◌ {A = ℕ} 0 7 = cc in absurd (omega arith))
      (λ t. (t, s.state ∙ rw t))

  start-refused : is_granted said ≡ false → ltb most_room room ≡ true
  start-refused e = split (ltb most_room room)
      (λ t. t)
      (λ t. absurd (true≢false (ap is_granted (rw t at (sym s.answer)) ∙ e)))

  module _ (L : Lawful D) where
    room-kept : said ≡ 0 ∷ [] → (D.stands next).room ≡ room
    room-kept e =
        ap (λ (d : S). (D.stands d).room) (start-ready e).1
        ∙ ap (λ (x : Standing). x.room) (L.kept (record { left = []; taken = 0; whole = 0; damaged = 0; count = 0; room = room }) refl)

    -- the state that a start gives is the fresh one of its room
    pub ready-fresh : said ≡ 0 ∷ [] → next ≡ fresh D (D.stands next).room
    ready-fresh e = (start-ready e).1 ∙ ap (fresh D) (sym (room-kept e))

    -- which is not over the most
    pub ready-roomy : said ≡ 0 ∷ [] → (D.stands next).room ≤ most_room
    ready-roomy e = rw (room-kept e) (ltb-false most_room room (start-ready e).0)

    -- and then what it says of the feeds
    module _ (text : List ℕ) (calls : List Call) (out list : List ℕ) (v : Given) where
      pub through-ready : said ≡ 0 ∷ [] → v ≡ ran D (D.stands next).room text calls out list → v ≡ through D room text calls out list
      through-ready e h =
          h ∙ ap (λ (n : ℕ). ran D n text calls out list) (room-kept e)
          ∙ sym (ap (λ (b : Bool). cond b (given nothing out list) (ran D room text calls out list)) (start-ready e).0)

  module _ (text : List ℕ) (calls : List Call) (out list : List ℕ) (v : Given) where
    pub through-refused : is_granted said ≡ false → v ≡ given nothing out list → v ≡ through D room text calls out list
    through-refused e h = h ∙ sym (ap (λ (b : Bool). cond b (given nothing out list) (ran D room text calls out list)) (start-refused e))

-- the caller before the first feed
pub begins : {S : Type 0} (D : Decoding S) (d : S) (room : ℕ) (out list : List ℕ) → d ≡ fresh D room
    → record { state = d; from = 0; done = 0; out = out; list = list } ≡ starting D room out list
begins D d room out list e = rw e

-- ---- the feed of a piece

-- what a form leaves in a part of the rest of an output, put back
put_back : (form rest : List ℕ) (k : ℕ) → length form ≤ length (take k rest)
    → (form ++ drop (length form) (take k rest)) ++ drop k rest ≡ form ++ drop (length form) rest
put_back form rest k h =
    append_assoc form (drop (length form) (take k rest)) (drop k rest)
    ∙ ap (λ (l : List ℕ). form ++ l)
    (sym (drop-append-le (length form) (take k rest) (drop k rest) h) ∙ ap (drop (length form)) (take-append-drop k rest))

-- all the rest of an output, as the code lends it
pub all-lent : (out : List ℕ) (done : ℕ) → take (length out - done) (drop done out) ≡ take (length out) (drop done out)
all-lent out done = part_is out done ∙ sym (take_all (length out) (drop done out) (omega (arith, length-drop done out)))

module _ {S : Type 0} (D : Decoding S) (text : List ℕ) where
  pub one-granted : (h : Held S) (c : Call) → is_granted (says_of D text h c) ≡ true → fed_one D text h c ≡ (feed_of D text).goes h c
  one-granted h c e = ap (λ (b : Bool). (cond b (granted (feed_of D text) (uncalled h) c) (uncalled h)).caller) e

  pub one-refused : (h : Held S) (c : Call) → is_granted (says_of D text h c) ≡ false → fed_one D text h c ≡ h
  one-refused h c e = ap (λ (b : Bool). (cond b (granted (feed_of D text) (uncalled h) c) (uncalled h)).caller) e

  -- the caller of a course after one call more
  pub called-caller : (r : Course (Held S)) (c : Call) → (called (feed_of D text) r c).caller ≡ fed_one D text r.caller c
  called-caller r c =
      let after : Bool → Held S = λ b. (cond b (granted (feed_of D text) r c) r).caller in
      split (is_granted (says_of D text r.caller c))
      (λ e. ap after e ∙ sym (one-granted r.caller c e))
      (λ e. ap after e ∙ sym (one-refused r.caller c e))

module _ {S : Type 0} (D : Decoding S) (text : List ℕ) (h : Held S) (cut places : ℕ) where
  abbrev c : Call
  c = call cut places

  abbrev rest : List ℕ
  rest = rest_of h

  abbrev piece : List ℕ
  piece = piece_of text h c

  abbrev form : List ℕ
  form = (fed D h.state piece h.list).kept.out

  abbrev after : S
  after = closed D h.state ((D.stands h.state).taken + length piece) (fed D h.state piece h.list)

  -- the piece and the part that is lent, as the code says them
  module _ (to k : ℕ) (to_is : to ≡ bring cut h.from (length text)) (lent_is : take k rest ≡ take places rest)
      {out₁ list₁ said : List ℕ} {next : S}
      (f : Feeds D h.state (take (to - h.from) (drop h.from text)) (take k rest) h.list out₁ list₁ said next) where
    feeds : Feeds D h.state piece (take places rest) h.list out₁ list₁ said next
    feeds = rw (to_is, lent_is) at f

    module _ (m : ℕ) (a : said ≡ 0 ∷ m ∷ []) where
      says : says_of D text h c ≡ 0 ∷ m ∷ []
      says = sym feeds.answer ∙ a

      grants : FeedGrants D h.state piece (take places rest) h.list
      grants = feed-grants D h.state piece (take places rest) h.list (ap is_granted says)

      fits : length form ≤ length (take k rest)
      fits = rw (← lent_is) at grants.fits

      pub piece-fits : h.done ≤ length h.out → h.done + m ≤ length h.out
      piece-fits i =
          let e : m ≡ length form = ap (λ (l : List ℕ). get_or l 1 0) (sym says ∙ grants.says) in
          omega (arith, e, fits, length-drop h.done h.out, ap length (take-append-drop k rest), length-append (take k rest) (drop k rest))

      pub piece-granted : record { state = next; from = to; done = h.done + m; out = take h.done h.out ++ (out₁ ++ drop k rest); list = list₁ }
          ≡ fed_one D text h c
      piece-granted =
          let state-is : next ≡ after = feeds.state ∙ ap (λ (l : List ℕ). if_granted l after h.state) says in
          let list-is : list₁ ≡ (fed D h.state piece h.list).kept.list
          = feeds.entries ∙ ap (λ (l : List ℕ). if_granted l (fed D h.state piece h.list).kept.list h.list) says in
          let wrote : out₁ ≡ form ++ drop (length form) (take k rest)
          = feeds.output
          ∙ ap (λ (l : List ℕ). output_of l form (take places rest)) says
          ∙ ap (λ (l : List ℕ). form ++ drop (length form) l) (sym lent_is) in
          let out-is : out₁ ++ drop k rest ≡ form ++ drop (length form) rest
          = ap (λ (l : List ℕ). l ++ drop k rest) wrote ∙ put_back form rest k fits in
          let new : List ℕ → Held S = λ l. record {
            state = after;
            from = end_of text h c;
            done = h.done + get_or l 1 0;
            out = take h.done h.out ++ output_of l form rest;
            list = (fed D h.state piece h.list).kept.list;
          } in
          let goes : record { state = next; from = to; done = h.done + m; out = take h.done h.out ++ (out₁ ++ drop k rest); list = list₁ }
          ≡ new (0 ∷ m ∷ []) = rw (to_is, state-is, list-is, out-is) in
          goes ∙ sym (ap new says) ∙ sym (one-granted D text h c (ap is_granted says))

    pub piece-refused : is_granted said ≡ false
        → record { state = next; from = h.from; done = h.done; out = take h.done h.out ++ (out₁ ++ drop k rest); list = list₁ }
        ≡ fed_one D text h c
    piece-refused a =
        let no : is_granted (says_of D text h c) ≡ false = ap is_granted (sym feeds.answer) ∙ a in
        let state-is : next ≡ h.state = feeds.state ∙ ap (λ (b : Bool). cond b after h.state) no in
        let list-is : list₁ ≡ h.list
        = feeds.entries ∙ ap (λ (b : Bool). cond b (fed D h.state piece h.list).kept.list h.list) no in
        let out-is : out₁ ≡ take k rest
        = feeds.output ∙ ap (λ (b : Bool). cond b (form ++ drop (length form) (take places rest)) (take places rest)) no ∙ sym lent_is in
        let same : record { state = next; from = h.from; done = h.done; out = take h.done h.out ++ (out₁ ++ drop k rest); list = list₁ } ≡ h
        = rw (state-is, list-is, out-is, take-append-drop k rest, take-append-drop h.done h.out) in
        same ∙ sym (one-refused D text h c no)

-- ---- finish

module _ {S : Type 0} (D : Decoding S) (text : List ℕ) (h : Held S) where
  abbrev finish_tells : List ℕ
  finish_tells = finish_says D h.state (rest_of h) h.list

  abbrev gave : List ℕ → Found
  gave says = if_granted says
      (record { granted = true; written = h.done + get_or says 1 0; whole = get_or says 2 0; damaged = get_or says 3 0; count = get_or says 4 0 })
      nothing

  pub end_before : (h.from ≡ length text → ⊥) → (x : Found) → x ≡ nothing → given x h.out h.list ≡ finished D text h
  end_before e x n = rw (ne_eqb h.from (length text) e, n)

  module _ (all : h.from ≡ length text) {out₁ list₁ said : List ℕ} {next : S}
      (f : Finishes D h.state (lent h.out h.done) h.list out₁ list₁ said next) where
    ends : Finishes D h.state (rest_of h) h.list out₁ list₁ said next
    ends = subst (λ (l : List ℕ). Finishes D h.state l h.list out₁ list₁ said next) (part_is h.out h.done) f

    end-gave : (x : Found) → x ≡ gave finish_tells → given x (back h.out h.done out₁) list₁ ≡ finished D text h
    end-gave x e = rw (e, back_is h.out h.done out₁, ends.output, ends.entries, eq-eqb h.from (length text) all)

    pub end-granted : (n w d k : ℕ) → said ≡ 0 ∷ n ∷ w ∷ d ∷ k ∷ []
        → given (record { granted = true; written = h.done + n; whole = w; damaged = d; count = k }) (back h.out h.done out₁) list₁
        ≡ finished D text h
    end-granted n w d k a =
        end-gave (record { granted = true; written = h.done + n; whole = w; damaged = d; count = k }) (sym (ap gave (sym ends.answer ∙ a)))

    pub end_refused : is_granted said ≡ false → (x : Found) → x ≡ nothing → given x (back h.out h.done out₁) list₁ ≡ finished D text h
    end_refused a x e =
        let no : is_granted finish_tells ≡ false = ap is_granted (sym ends.answer) ∙ a in
        end-gave x (e ∙ rw no)

    -- what it wrote lies within the output
    pub end_fits : (n w d k : ℕ) → said ≡ 0 ∷ n ∷ w ∷ d ∷ k ∷ [] → h.done ≤ length h.out → h.done + n ≤ length h.out
    end_fits n w d k a i =
        let says : finish_tells ≡ 0 ∷ n ∷ w ∷ d ∷ k ∷ [] = sym ends.answer ∙ a in
        let e = finish-grants D h.state (rest_of h) h.list (ap is_granted says) in
        let m : n ≡ length (ended D h.state h.list).out = ap (λ (l : List ℕ). get_or l 1 0) (sym says ∙ e.says) in
        omega (arith, m, e.fits, length-drop h.done h.out)
