-- What the calls on the way through a text leave is what a course of the builder's feeds leaves; where the index was built that
-- course has taken the text and was finished, and otherwise the refusal was right.
use mathlib.Core.Path.{◌≡◌, refl, sym, ap, ◌∙◌}
use Prim.Native.Nat.{ℕ, ◌+◌, ◌-◌, ◌≤◌}
use mathlib.Core.Bool.{Bool, true, false, cond, true≢false}
use mathlib.Core.List.{List, [], ◌∷◌, ◌++◌, append_assoc, append-nil, foldl-append}
use lib.ListN.{length, take, drop, length-drop}
use lib.Seq.{take-add, take_all, length-take-le}
use lib.Dec.{ltb}
use borrow.Author.Tests.{lt-ltb, le-ltb, ltb-false}
use native.Mathlib.Omega.{arith}
use Rattle.theory.specs.Stream.{join}
use Rattle.theory.specs.Course.{Course, uncalled, granted, called, course}
use Rattle.theory.proofs.AnyCalls.{course-keeps}
use Rattle.theory.proofs.Cases.{split, under}
use Rattle.terms.specs.Limits.{limit}
use Rattle.terms.specs.Told.{told_checked, is_granted}
use Rattle.index_checkpoint.specs.Checkpoints.{needed}
use Rattle.index_build.specs.State.{fresh_builder, build_says}
use Rattle.std.specs.Prelude.{Ok}
use Rattle.index_build.specs.declared.state.Built as the-built
use Rattle.index_build.specs.Building.{Finishes}
use Rattle.index_build.specs.Course.{Caller, feed_of, fed_all}
use Rattle.index_build.specs.Course as calls
use Rattle.index_build.proofs.GrantedOrRefused.{says-granted, finish-done}
use Rattle.index_build.proofs.BuiltAsPlain.{keeps, keeps-granted}
use Rattle.demand_shared.specs.Cuts.{bring}
use Rattle.demand_shared.proofs.CutsBetween.{bring-from, bring-end}
use Rattle.demand_index.specs.Inside.Steps.{may_refuse, Builds}
use Rattle.demand_index.specs.Builds.{Cutter, starting, piece_of, feed_to, fed_to, Build, stopped, built}

module _ (text row : List ℕ) where
  -- WHAT EVERY GRANTED CALL KEEPS: a course of the builder's feeds that leaves the same, and has taken the text so far
  pub record Fed (taken : List ℕ) (h : Cutter) : Type 0 where
    pub inside : h.from ≤ length text
    pub taken_is : taken ≡ take h.from text
    pub pieces : List (List ℕ)
    pub caller : (fed_all row pieces).caller ≡ h.caller
    pub joined : (more : List (List ℕ)) → join ((fed_all row pieces).pieces ++ more) ≡ taken ++ join more

  fed-start : Fed [] (starting row)
  fed-start = record { inside = omega arith; taken_is = refl; pieces = []; caller = refl; joined = λ more. refl }

  fed-next : (taken : List ℕ) (h : Cutter) (cut : ℕ) → (feed_to text).grants h cut ≡ true → Fed taken h
      → Fed (taken ++ piece_of text h cut) ((feed_to text).goes h cut)
  fed-next taken h cut g k =
      let p : List ℕ = piece_of text h cut in
      let r = fed_all row k.pieces in
      let to : ℕ = bring cut h.from (length text) in
      let n : h.from + (to - h.from) ≡ to = omega (arith, bring-from cut h.from (length text) k.inside) in
      let next : fed_all row (k.pieces ++ p ∷ []) ≡ granted feed_of r p
      = foldl-append (called feed_of) (uncalled (calls.starting row)) k.pieces (p ∷ [])
      ∙ ap (λ (t : Bool). cond t (granted feed_of r p) r) (ap (λ (c : Caller). feed_of.grants c p) k.caller ∙ g) in
      record {
        inside = bring-end cut h.from (length text) k.inside;
        taken_is = ap (λ (l : List ℕ). l ++ p) k.taken_is ∙ sym (take-add h.from (to - h.from) text) ∙ ap (λ (i : ℕ). take i text) n;
        pieces = k.pieces ++ p ∷ [];
        caller = ap (λ (r : Course Caller). r.caller) next ∙ ap (λ (c : Caller). feed_of.goes c p) k.caller;
        joined = λ more.
            ap (λ (r : Course Caller). join (r.pieces ++ more)) next
            ∙ ap join (append_assoc r.pieces (p ∷ []) more)
            ∙ k.joined (p ∷ more)
            ∙ sym (append_assoc taken p (join more));
      }

  fed_along : (cs : List ℕ) → let r = course (feed_to text) (starting row) cs in Fed (join r.pieces) r.caller
  fed_along = course-keeps (feed_to text) Fed fed-next (starting row) fed-start

  module _ {taken : List ℕ} {h : Cutter} (k : Fed taken h) where
    fed-joined : join (fed_all row k.pieces).pieces ≡ take h.from text
    fed-joined = sym (ap join (append-nil (fed_all row k.pieces).pieces)) ∙ k.joined [] ∙ append-nil taken ∙ k.taken_is

    fed-long : length h.caller.row ≡ length row
    fed-long = ap (λ (c : Caller). length c.row) (sym k.caller) ∙ (keeps row k.pieces).long

    -- a call is granted where the whole text stays within the limit and the row is long enough for its index
    fed-grants : length text ≤ limit → needed (length text) ≤ length row → (piece : List ℕ) → h.from + length piece ≤ length text
        → is_granted (build_says h.caller.state (length piece) (length h.caller.row)) ≡ true
    fed-grants w n piece l =
        let t : length (join (fed_all row k.pieces).pieces) ≡ h.from = ap length fed-joined ∙ length-take-le h.from text k.inside in
        let g = keeps-granted row _ _ (keeps row k.pieces) piece (omega (arith, t, l, w)) (omega (arith, t, l, n)) in
        ap (λ (c : Caller). is_granted (build_says c.state (length piece) (length c.row))) (sym k.caller) ∙ ap is_granted g

-- ---- at the end

-- a course of feeds that has taken the text and was finished, which left this row
pub record Finished (text row row' : List ℕ) : Type 0 where
  pub pieces : List (List ℕ)
  pub joined : join (fed_all row pieces).pieces ≡ text
  pub call : the-built.Built
  pub finishes : Finishes (fed_all row pieces).caller.state (fed_all row pieces).caller.row row' call
  pub grants : is_granted (told_checked call.answer) ≡ true

module _ (text cuts row : List ℕ) where
  abbrev end : Cutter
  end = fed_to text cuts row

  abbrev says : List ℕ
  says = build_says end.caller.state 0 (length end.caller.row)

  whole-finished : ltb end.from (length text) ≡ false → is_granted says ≡ true → Finished text row (built text cuts row).row
  whole-finished e g =
      let k = fed_along text row (cuts ++ length text ∷ []) in
      let last = says-granted end.caller.state 0 end.caller.row g in
      record {
        pieces = k.pieces;
        joined = fed-joined text row k ∙ take_all end.from text (ltb-false end.from (length text) e);
        call = record { answer = (Ok tt); state = fresh_builder };
        finishes = rw (k.caller, e, g) (finish-done end.caller.state end.caller.row last _ fresh_builder refl refl);
        grants = refl;
      }

  done-finished : (built text cuts row).done ≡ true → Finished text row (built text cuts row).row
  done-finished d = split (ltb end.from (length text))
      (λ e. absurd (true≢false (sym (rw e at d))))
      (λ e. split (is_granted says) (whole-finished e) (λ g. absurd (true≢false (sym (rw (e, g) at d)))))

  stopped-is : (built text cuts row).done ≡ false → built text cuts row ≡ stopped end.caller.row
  stopped-is d = split (ltb end.from (length text))
      (λ e. rw e)
      (λ e. split (is_granted says) (λ g. absurd (true≢false (rw (e, g) at d))) (λ g. rw (e, g)))

  -- the last call takes all that is left
  module _ (within : length text ≤ limit) (room : needed (length text) ≤ length row) where
    all-taken : end.from ≡ length text
    all-taken =
        let r = course (feed_to text) (starting row) cuts in
        let k = fed_along text row cuts in
        let from : ℕ = r.caller.from in
        let to : bring (length text) from (length text) ≡ length text
        = rw (le-ltb (length text) from k.inside, le-ltb (length text) (length text) (omega arith)) in
        let left : length text - from ≤ length (drop from text) = omega (arith, length-drop from text) in
        let fits : from + length (piece_of text r.caller (length text)) ≤ length text
        = rw (to, length-take-le (length text - from) (drop from text) left) (omega (arith, k.inside)) in
        let g : (feed_to text).grants r.caller (length text) ≡ true = fed-grants text row k within room (piece_of text r.caller (length text)) fits in
        ap (λ (r : Course Cutter). r.caller.from) (foldl-append (called (feed_to text)) (uncalled (starting row)) cuts (length text ∷ []))
        ∙ ap (λ (t : Bool). (cond t (granted (feed_to text) r (length text)) r).caller.from) g
        ∙ to

    all_done : (built text cuts row).done ≡ true
    all_done =
        let k = fed_along text row (cuts ++ length text ∷ []) in
        let g : is_granted says ≡ true = fed-grants text row k within room [] (omega (arith, k.inside)) in
        rw (all-taken, le-ltb (length text) (length text) (omega arith), g)

  done-or-due : (built text cuts row).done ≡ false → may_refuse (length text) (length (built text cuts row).row) ≡ true
  done-or-due d =
      let l : length (built text cuts row).row ≡ length row
      = ap (λ (b : Build). length b.row) (stopped-is d) ∙ fed-long text row (fed_along text row (cuts ++ length text ∷ [])) in
      under limit (length text)
      (λ o. rw (lt-ltb limit (length text) o))
      (λ w.
      under (length row) (needed (length text))
      (λ s. rw (l, le-ltb limit (length text) w, lt-ltb (length row) (needed (length text)) s))
      (λ n. absurd (true≢false (sym (all_done w n) ∙ d))))

  -- WHATEVER THE CUT POSITIONS AND THE ROW: what was built is finished, and a refusal was right
  module _ {row' : List ℕ} {r : Bool} (d : Builds (built text cuts row) row' r) where
    pub built-finished : r ≡ true → Finished text row row'
    built-finished e = rw d.row_is (done-finished (sym d.answer ∙ e))

    pub built-refused : r ≡ false → may_refuse (length text) (length row') ≡ true
    built-refused e = rw d.row_is (done-or-due (sym d.answer ∙ e))
