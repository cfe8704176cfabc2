-- What a call answers, and what it leaves where it is granted and where it is refused.
use mathlib.Core.Path.{◌≡◌, sym, ap}
use Prim.Native.Nat.{ℕ, ◌+◌}
use mathlib.Core.Bool.{true, true≢false}
use mathlib.Core.List.{List, [], ◌∷◌}
use lib.ListN.{length}
use lib.Dec.{ltb}
use borrow.Author.Tests.{ltb-false}
use Rattle.std.specs.Prelude.{Ok, Err}
use Rattle.theory.proofs.Cases.{split}
use Rattle.terms.specs.Told.{told_refusal, is_granted}
use Rattle.terms.specs.declared.Refusal.{Refusal}
use Rattle.terms.proofs.ToldBack.{no_zero}
use Rattle.terms.proofs.Tested.{granted-passed}
use Rattle.index_checkpoint.specs.Checkpoints.{needed}
use Rattle.index_build.specs.State.{fresh_builder, sound, build_says}
use Rattle.index_build.specs.declared.state.Builder.{Builder}
use Rattle.index_build.proofs.ChecksInOrder.{says-done}
use Rattle.index_build.specs.Building.{ended, Feeds, Finishes}
use Rattle.index_build.specs.Inside.Steps.{Granted, grown}

-- ---- a call that is granted has passed them all

module _ (b : Builder) (more : ℕ) (row : List ℕ) where
  pub says-granted : is_granted (build_says b more (length row)) ≡ true → Granted b more row
  says-granted g =
      let p = granted-passed (sound b) b.taken more _ g in
      split (ltb (length row) (needed (b.taken + more)))
      (λ n. absurd (true≢false (sym (rw n at p.grants))))
      (λ n. record { tests = p.tests; within = p.within; room = ltb-false (length row) (needed (b.taken + more)) n })

  pub done-granted : 0 ∷ [] ≡ build_says b more (length row) → Granted b more row
  done-granted e = says-granted (ap is_granted (sym e))

  pub granted-says : Granted b more row → build_says b more (length row) ≡ 0 ∷ []
  granted-says g = sym (says-done b more (length row) g.tests g.within g.room)

-- ---- feed and finish

module _ (b : Builder) (piece row : List ℕ) where
  pub feed-done : Granted b (length piece) row → (row' : List ℕ) (r : Builder) → grown b piece row row' r
      → Feeds b piece row row' (record { answer = Ok tt; state = r })
  feed-done g row' r h =
      let e = granted-says b (length piece) row g in
      record { answer = sym e; state = rw e h.state; checkpoints = rw e h.checkpoints }

  pub feed-refused : (why : Refusal) → told_refusal why ≡ build_says b (length piece) (length row)
      → Feeds b piece row row (record { answer = Err why; state = b })
  feed-refused why e = record { answer = e; state = rw (← e, no_zero why); checkpoints = rw (← e, no_zero why) }

module _ (b : Builder) (row : List ℕ) where
  pub finish-done : Granted b 0 row → (row' : List ℕ) (r : Builder) → row' ≡ (ended b row).row → r ≡ fresh_builder
      → Finishes b row row' (record { answer = Ok tt; state = r })
  finish-done g row' r h f =
      let e = granted-says b 0 row g in
      record { answer = sym e; state = rw e f; checkpoints = rw e h }

  pub finish-refused : (why : Refusal) → told_refusal why ≡ build_says b 0 (length row)
      → Finishes b row row (record { answer = Err why; state = b })
  finish-refused why e = record { answer = e; state = rw (← e, no_zero why); checkpoints = rw (← e, no_zero why) }
