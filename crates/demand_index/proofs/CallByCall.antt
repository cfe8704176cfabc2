-- A build in pieces goes call by call: what a feed answers decides where the next piece begins.
use mathlib.Core.Path.{◌≡◌, refl, sym, ap, ◌∙◌}
use Prim.Native.Nat.{ℕ, suc, ◌-◌, ◌≤◌, ◌<◌}
use mathlib.Core.Bool.{Bool, true, false, cond}
use mathlib.Core.List.{List, [], ◌∷◌, ◌++◌, foldl-append}
use lib.ListN.{length, get_or, take, drop, length-append, get_or-append, get_or-eq_default}
use lib.Seq.{take-suc, drop-cons, take_all, get_or-append_seam}
use borrow.Author.Tests.{lt-ltb, le-ltb}
use native.Mathlib.Omega.{arith}
use Rattle.theory.specs.Course.{Course, uncalled, called, course}
use Rattle.theory.proofs.Cases.{split, under}
use Rattle.terms.specs.Told.{told_checked, is_granted, if_granted}
use Rattle.index_build.specs.State.{fresh_builder, build_says}
use Rattle.index_build.specs.declared.state.Builder.{Builder}
use Rattle.index_build.specs.declared.state.Built as the-built
use Rattle.index_build.specs.Building.{ended, Feeds, Finishes}
use Rattle.index_build.specs.Course.{feed_of}
use Rattle.demand_shared.specs.Cuts.{bring}
use Rattle.demand_shared.proofs.CutsBetween.{bring-from, bring-end}
use Rattle.demand_index.specs.Builds.{Cutter, cutter, starting, feed_to, fed_to, stopped, finished, built}
use Rattle.demand_index.specs.Inside.Steps.{Builds}

-- what is read in a list does not depend on what stands for nothing
pub read_any : (l : List ℕ) (k d e : ℕ) → k < length l → get_or l k d ≡ get_or l k e
read_any l k d e h = ap (λ (m : List ℕ). get_or m 0 0) (sym (drop-cons l k d h) ∙ drop-cons l k e h)

-- ---- finish

module _ {b : Builder} {row row' : List ℕ} {q : the-built.Built} (h : Finishes b row row' q) where
  either : (t : Bool) → Builds (cond t (record { done = true; row = (ended b row).row }) (stopped row)) (cond t (ended b row).row row) t
  either true = record { answer = refl; row_is = refl }
  either false = record { answer = refl; row_is = refl }

  pub finish-builds : Builds (finished b row) row' (is_granted (told_checked q.answer))
  finish-builds = rw (h.answer, h.checkpoints) (either (is_granted (build_says b 0 (length row))))

-- ---- a feed

module _ (text : List ℕ) where
  -- what the caller has behind a call
  abbrev behind : Cutter → ℕ → Cutter
  behind h cut = cond ((feed_to text).grants h cut) ((feed_to text).goes h cut) h

  called-behind : (r : Course Cutter) (cut : ℕ) → (called (feed_to text) r cut).caller ≡ behind r.caller cut
  called-behind r cut = split ((feed_to text).grants r.caller cut) (λ e. rw e) (λ e. rw e)

  chosen : (t : Bool) (b b' : Builder) (row row' : List ℕ) (from to : ℕ)
      → cond t (cutter b' row' to) (cutter b row from) ≡ cutter (cond t b' b) (cond t row' row) (cond t to from)
  chosen true b b' row row' from to = refl
  chosen false b b' row row' from to = refl

  -- is what the call handed back
  feeds-behind : {b : Builder} {row row' : List ℕ} (from to cut from' : ℕ) {q : the-built.Built} → to ≡ bring cut from (length text)
      → Feeds b (take (to - from) (drop from text)) row row' q
      → from' ≡ if_granted (told_checked q.answer) to from
      → behind (cutter b row from) cut ≡ cutter q.state row' from'
  feeds-behind {b} {row} from to cut from' e h f =
      let p : List ℕ = take (to - from) (drop from text) in
      let new = feed_of.goes (record { state = b; row = row }) p in
      rw (f, h.answer, h.state, h.checkpoints, ← e)
      (chosen (is_granted (build_says b (length p) (length row))) b new.state row new.row from to)

-- ---- the calls one after another

module _ (text cuts row₀ : List ℕ) where
  -- the positions that are fed to
  abbrev ends : List ℕ
  ends = cuts ++ length text ∷ []

  ends-long : length ends ≡ suc (length cuts)
  ends-long = omega (arith, length-append cuts (length text ∷ []))

  ends_at : (k : ℕ) → k ≤ length cuts → get_or ends k (length text) ≡ get_or cuts k (length text)
  ends_at k h =
      under k (length cuts)
      (λ l. get_or-append cuts (length text ∷ []) (length text) k l)
      (λ m.
      let e : k ≡ length cuts = omega arith in
      rw e (get_or-append_seam cuts (length text) [] (length text) ∙ sym (get_or-eq_default cuts (length text) {n = length cuts} (omega arith))))

  -- k calls were made, and the caller has this
  pub record Along (row : List ℕ) (b : Builder) (from k : ℕ) : Type 0 where
    pub inside : from ≤ length text
    pub upto : k ≤ suc (length cuts)
    pub long : length row ≡ length row₀
    pub same : (course (feed_to text) (starting row₀) (take k ends)).caller ≡ cutter b row from

  pub along-start : Along row₀ fresh_builder 0 0
  along-start = record { inside = omega arith; upto = omega arith; long = refl; same = refl }

  module _ {row : List ℕ} {b : Builder} {from k : ℕ} (a : Along row b from k) where
    -- a call more
    module _ (more : k ≤ length cuts) (cut : ℕ) (is_cut : cut ≡ get_or cuts k (length text)) (to : ℕ) (brought : to ≡ bring cut from (length text)) where
      pub along-from : from ≤ to
      along-from = rw brought (bring-from cut from (length text) a.inside)

      pub along-to : to ≤ length text
      along-to = rw brought (bring-end cut from (length text) a.inside)

      module _ {row' : List ℕ} {q : the-built.Built} (h : Feeds b (take (to - from) (drop from text)) row row' q)
          (from' : ℕ) (next : from' ≡ if_granted (told_checked q.answer) to from) where
        within : from' ≤ length text
        within = split (is_granted (told_checked q.answer)) (λ e. rw (next, e) along-to) (λ e. rw (next, e) a.inside)

        pub along-next : length row' ≡ length row → Along row' q.state from' (suc k)
        along-next l =
            let r = course (feed_to text) (starting row₀) (take k ends) in
            let t : take (suc k) ends ≡ take k ends ++ cut ∷ []
            = take-suc ends k (length text) (omega (arith, ends-long)) ∙ ap (λ (c : ℕ). take k ends ++ c ∷ []) (ends_at k more ∙ sym is_cut) in
            record {
              inside = within;
              upto = omega arith;
              long = l ∙ a.long;
              same = ap (λ (cs : List ℕ). (course (feed_to text) (starting row₀) cs).caller) t
                  ∙ ap (λ (r : Course Cutter). r.caller) (foldl-append (called (feed_to text)) (uncalled (starting row₀)) (take k ends) (cut ∷ []))
                  ∙ called-behind text r cut
                  ∙ ap (λ (h : Cutter). behind text h cut) a.same
                  ∙ feeds-behind text from to cut from' brought h next;
            }

    -- all were made
    module _ (all : length cuts < k) where
      fed-is : fed_to text cuts row₀ ≡ cutter b row from
      fed-is = sym (ap (λ (cs : List ℕ). (course (feed_to text) (starting row₀) cs).caller) (take_all k ends (omega (arith, ends-long)))) ∙ a.same

      pub along-stop : from < length text → Builds (built text cuts row₀) row false
      along-stop h = rw (fed-is, lt-ltb from (length text) h) (record { answer = refl; row_is = refl })

      pub along-end : length text ≤ from → {row' : List ℕ} {r : Bool} → Builds (finished b row) row' r → Builds (built text cuts row₀) row' r
      along-end h d = rw (fed-is, le-ltb from (length text) h) d
