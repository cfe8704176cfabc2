-- The laws of the watch: a feed with no room for entries serves it, it agrees with any feed of the byte, and bytes one by one are one piece.
use mathlib.Core.Path.{◌≡◌, sym, ap, ◌∙◌}
use Prim.Native.Nat.{ℕ, ◌+◌, ◌*◌, ◌^◌, ◌≤◌, ◌<◌}
use native.Mathlib.Nat.{add-zero, le_trans}
use mathlib.Core.Bool.{Bool, true, false, cond}
use mathlib.Core.List.{List, [], ◌∷◌, ◌++◌, append_assoc}
use lib.ListN.{length, length-append, length-take}
use lib.Dec.{ltb}
use borrow.Author.Tests.{le-ltb, le-leb}
use native.Mathlib.Omega.{arith}
use Rattle.theory.specs.Reader.{parts}
use Rattle.theory.specs.Table.{is_damage}
use Rattle.theory.proofs.Cases.{split}
use Rattle.theory.proofs.Divisions.{parts-size}
use Rattle.theory.proofs.TalliesAdd.{whole-damaged, count-damaged}
use Rattle.terms.specs.Limits.{limit, most_room, most_pending, unheld, entry_width}
use Rattle.terms.specs.Told.{told_written, is_granted}
use Rattle.terms.specs.declared.Decoder.{Decoder}
use Rattle.terms.specs.declared.Refusal.{Refusal}
use Rattle.std.specs.Prelude.{Ok, Err}
use Rattle.terms.proofs.ToldBack.{no_zero}
use Rattle.terms.proofs.Tested.{tested-then, granted-passed}
use Rattle.utf8.specs.Bytes.{bytes}
use Rattle.decoder_shared.proofs.AnyCutting.{feed-grants}
use Rattle.decoder.proofs.TestsAsFacts.{Sound, sound_is}
use Rattle.decoder.specs.State.{left, sound, byte_decoding, fed, closed}
use Rattle.decoder.specs.Feeding.{feed_says, Feeds}
use Rattle.decoder_shared.specs.declared.Fed.{Fed}
use Rattle.decoder.specs.Room.{most_fed}
use Rattle.decoder.proofs.Enough.{enough}
use Rattle.decoder.proofs.StateKept.{grown, closed_is, grown-sound, grown_append, grown-nothing}
use Rattle.decoder_watch.specs.Watching.{watch_says, fed_byte, counting, refusing, watching, watched_all}
use Rattle.decoder_watch.specs.declared.Watched.{Watched}

-- ---- what the watch gives where it is granted, and where it is not

-- the state behind the byte
abbrev next : Decoder → ℕ → Decoder
next d b = grown d (d.taken + 1) (left d ++ b ∷ [])

left-few : (d : Decoder) → Sound d → length (left d) ≤ most_pending
left-few d s = omega (arith, length-take d.pending d.held, s.tail.few)

-- it is granted where the tests pass and the byte is within the limit, and only where they pass
grants : (d : Decoder) → sound d ≡ true → d.taken + 1 ≤ limit → is_granted (watch_says d) ≡ true
grants d s h = ap is_granted (tested-then (sound d) d.taken 1 (0 ∷ []) s h)

granted-sound : (d : Decoder) → is_granted (watch_says d) ≡ true → sound d ≡ true
granted-sound d g = (granted-passed (sound d) d.taken 1 (0 ∷ []) g).tests

module _ (d : Decoder) (b : ℕ) where
  watching-refused : is_granted (watch_says d) ≡ false → watching d b ≡ refusing d
  unfolding watching
  watching-refused g = ap (λ (t : Bool). cond t (counting (fed_byte d b)) (refusing d)) g

  module _ (g : is_granted (watch_says d) ≡ true) where
    watching-granted : watching d b ≡ counting (next d b)
    unfolding watching
    watching-granted =
        ap (λ (t : Bool). cond t (counting (fed_byte d b)) (refusing d)) g ∙ ap counting (closed_is d (d.taken + 1) (b ∷ []) [])

    next_small : (next d b).count < (refusing d).reply
    next_small =
        let s = sound_is d (granted-sound d g) in
        let n = s.numbers in
        let text = left d ++ b ∷ [] in
        omega (
          arith,
          n.sum,
          n.within,
          n.low,
          left-few d s,
          length-append (left d) (b ∷ []),
          count-damaged is_damage (parts bytes text).done,
          whole-damaged is_damage (parts bytes text).done,
          parts-size bytes text,
        )

    -- no count is taken for a refusal
    pub reply-small : (watching d b).reply < (refusing d).reply
    reply-small = rw watching-granted next_small

-- ---- a feed with no room for entries

abbrev room_of : Decoder → ℕ → Decoder
room_of d room = record {
  held = d.held;
  pending = d.pending;
  taken = d.taken;
  whole = d.whole;
  damaged = d.damaged;
  count = d.count;
  room = room;
}

-- over the most room a state fails its tests
pub step-over : (d : Decoder) (b : ℕ) → most_room < d.room → refusing d ≡ watching d b
step-over d b h =
    let s : sound d ≡ false = split (sound d) (λ s. let n = (sound_is d s).numbers in absurd (omega (arith, n.roomy))) (λ e. e) in
    sym (watching-refused d b (rw s))

-- up to it they do not look at the room
bare-sound : (d : Decoder) → d.room ≤ most_room → sound (room_of d 0) ≡ sound d
bare-sound d roomy = rw (le-leb d.room most_room roomy)

module _ (d : Decoder) (roomy : d.room ≤ most_room) (b : ℕ) (out list : List ℕ) (places : most_fed 1 ≤ length out) where
  abbrev bare_says : List ℕ
  bare_says = feed_says (room_of d 0) (b ∷ []) out list

  -- the output is long enough for what one byte settles
  form-fits : sound d ≡ true → ltb (length out) (length (fed (room_of d 0) (b ∷ []) list).kept.out) ≡ false
  form-fits s = le-ltb (length out) (length (fed (room_of d 0) (b ∷ []) list).kept.out)
      (le_trans (enough (room_of d 0) (bare-sound d roomy ∙ s) list (b ∷ []) (omega arith)) places)

  same-grant : is_granted bare_says ≡ is_granted (watch_says d)
  same-grant = split (sound d)
      (λ s.
      split (ltb limit (d.taken + 1))
      (λ o. rw (bare-sound d roomy, s, o))
      (λ o. rw (bare-sound d roomy, s, o, le-ltb (length list) (entry_width * 0) (omega arith), form-fits s)))
      (λ s. rw (bare-sound d roomy, s))

  module _ {out' list' : List ℕ} {r : Fed Decoder} (h : Feeds (room_of d 0) (b ∷ []) out list out' list' r) where
    pub step-refused : (q : Refusal) → r.answer ≡ Err q → refusing d ≡ watching d b
    step-refused q e =
        let g : is_granted bare_says ≡ false = ap is_granted (sym h.answer ∙ ap told_written e) ∙ no_zero q in
        sym (watching-refused d b (sym same-grant ∙ g))

    module _ (n : ℕ) (e : r.answer ≡ Ok n) where
      bare-granted : is_granted bare_says ≡ true
      bare-granted = ap is_granted (sym h.answer ∙ ap told_written e)

      step-grants : is_granted (watch_says d) ≡ true
      step-grants = sym same-grant ∙ bare-granted

      -- the state that was fed is the one of the watch, but for the room
      bare-state : r.state ≡ room_of (next d b) 0
      bare-state =
          h.state
          ∙ ap (λ (t : Bool). cond t (closed (room_of d 0) (d.taken + 1) (fed (room_of d 0) (b ∷ []) list)) (room_of d 0)) bare-granted
          ∙ closed_is (room_of d 0) (d.taken + 1) (b ∷ []) list

      pub step-granted : counting (room_of r.state d.room) ≡ watching d b
      step-granted = ap (λ (s : Decoder). counting (room_of s d.room)) bare-state ∙ sym (watching-granted d b step-grants)

      pub step_fits : r.state.count < 2 ^ 32
      step_fits = rw bare-state (omega (arith, next_small d b step-grants))

-- ---- THE STATE AFTER THE WATCH is that of a feed of this one byte, for any output and list with which it is not refused

pub watch-feed : (d : Decoder) (b : ℕ) (out list out' list' ns : List ℕ) (r : Fed Decoder) → Feeds d (b ∷ []) out list out' list' r
    → told_written r.answer ≡ 0 ∷ ns → (watching d b).state ≡ r.state
watch-feed d b out list out' list' ns r h e =
    let g : is_granted (feed_says d (b ∷ []) out list) ≡ true = ap is_granted (sym h.answer ∙ e) in
    let a = (feed-grants byte_decoding d (b ∷ []) out list g).admits in
    let fed-state : r.state ≡ next d b
    = h.state
    ∙ ap (λ (t : Bool). cond t (closed d (d.taken + 1) (fed d (b ∷ []) list)) d) g
    ∙ closed_is d (d.taken + 1) (b ∷ []) list in
    ap (λ (w : Watched). w.state) (watching-granted d b (grants d a.tests a.within)) ∙ sym fed-state

-- ---- BYTES ONE BY ONE are one piece

next-three : (d : Decoder) (b : ℕ) → length (next d b).held ≡ most_pending
next-three d b =
    let rest = (parts bytes (left d ++ b ∷ [])).left in
    let row : List ℕ = unheld in
    omega (arith, length-take most_pending (rest ++ row), length-append rest row)

watched-grown : (d : Decoder) (bs : List ℕ) → length d.held ≡ most_pending → sound d ≡ true → d.taken + length bs ≤ limit
    → watched_all d bs ≡ grown d (d.taken + length bs) (left d ++ bs)
watched-grown d [] three s h = rw add-zero (sym (grown-nothing d three (sound_is d s)))
watched-grown d (b ∷ bs) three s h =
    let t : d.taken + length (b ∷ bs) ≡ d.taken + 1 + length bs = omega arith in
    let e : watching d b ≡ counting (next d b) = watching-granted d b (grants d s (omega arith)) in
    let n : sound (next d b) ≡ true = grown-sound d three (sound_is d s) (b ∷ []) (omega arith) in
    ap (λ (w : Watched). watched_all w.state bs) e
    ∙ watched-grown (next d b) bs (next-three d b) n (omega arith)
    ∙ grown_append d (d.taken + 1) (d.taken + 1 + length bs) (left d ++ b ∷ []) bs
    ∙ rw (append_assoc, t)

module _ (d : Decoder) (bs list : List ℕ) (three : length d.held ≡ most_pending) (s : sound d ≡ true) where
  -- the state is that of one feed of all of them, whatever the list
  pub watched-all : d.taken + length bs ≤ limit → watched_all d bs ≡ closed d (d.taken + length bs) (fed d bs list)
  watched-all h = watched-grown d bs three s h ∙ sym (closed_is d (d.taken + length bs) bs list)

  -- and one byte more is answered by the damage count of one feed of all of them
  pub watched-count : (b : ℕ) → d.taken + length bs + 1 ≤ limit → (watching (watched_all d bs) b).reply ≡ (fed d (bs ++ b ∷ []) list).kept.count
  watched-count b h =
      let taken : ℕ = d.taken + length bs in
      let behind : Decoder = grown d taken (left d ++ bs) in
      let n : sound behind ≡ true = grown-sound d three (sound_is d s) bs (omega arith) in
      let all : next behind b ≡ grown d (taken + 1) (left d ++ (bs ++ b ∷ []))
      = grown_append d taken (taken + 1) (left d ++ bs) (b ∷ []) ∙ rw append_assoc in
      ap (λ (e : Decoder). (watching e b).reply) (watched-grown d bs three s (omega arith))
      ∙ ap (λ (w : Watched). w.reply) (watching-granted behind b (grants behind n h))
      ∙ ap (λ (e : Decoder). e.count) (all ∙ sym (closed_is d (taken + 1) (bs ++ b ∷ []) list))
