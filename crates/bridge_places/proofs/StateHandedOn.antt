-- The promise of a call that takes the state of a builder from a slice and puts the next one there.
use mathlib.Core.Path.{◌≡◌, refl, ap, ◌∙◌}
use Prim.Native.Nat.{ℕ, ◌≤◌}
use mathlib.Core.Bool.{Bool, true, false}
use mathlib.Core.List.{List}
use lib.ListN.{length}
use Rattle.terms.specs.Told.{told_checked}
use Rattle.index_build.specs.State as builder
use Rattle.index_build.specs.declared.state.Builder.{Builder}
use Rattle.index_build.specs.declared.state.Built.{Built}
use Rattle.index_build.specs.Building as build
use Rattle.bridge_numbers.specs.Telling.{saying, said_of, put, not_called, Tells}
use Rattle.bridge_numbers.specs.States.{kept, builder_numbers}
use Rattle.bridge_numbers.specs.declared.telling.Said.{Said}
use Rattle.bridge_numbers.proofs.HoldsState.{kept-long}
use Rattle.bridge_numbers.proofs.WrapperTells.{as_said}
use Rattle.bridge_numbers.proofs.AllSaid.{said_checked}
use Rattle.bridge_places.specs.Keeping.{Freshens, Builds, Ends}

pub unfreshened : {called : Bool} {state : List ℕ} → called ≡ false → Freshens called state state not_called
unfreshened e = rw e (record { reply = refl; next = refl })

pub freshened : {called : Bool} {q : Builder} {state state' : List ℕ} → called ≡ true → q ≡ builder.fresh_builder
    → 8 ≤ length state → state' ≡ kept 8 (builder_numbers q) state → Freshens called state state' 0
freshened {q = v} {state = state} e q long k =
    rw e (record { reply = refl; next = k ∙ kept-long 8 state (builder_numbers v) long ∙ ap (λ (b : Builder). put (builder_numbers b) state) q })

pub unbuilt : {called : Bool} {b : Builder} {piece row state says : List ℕ} → called ≡ false
    → Builds called b piece row row state state says says not_called
unbuilt e = rw e (record { tells = record { reply = refl; told = refl }; next = refl; checkpoints = refl })

pub was_built : {called : Bool} {b q : Builder} {piece row row' state state' says says' : List ℕ} {r : ℕ} {f : Built} {s : Said}
    → called ≡ true → q ≡ b → build.Feeds q piece row row' f → 8 ≤ length state → state' ≡ kept 8 (builder_numbers f.state) state
    → s ≡ said_of (told_checked f.answer) → Tells true (saying s) says says' r
    → Builds called b piece row row' state state' says says' r
was_built {state = state} {f = v} e q f long k s t =
    rw (e, ← q)
    (record {
      tells = as_said (said_checked v.answer s ∙ f.answer) t;
      next = k ∙ kept-long 8 state (builder_numbers v.state) long ∙ ap (λ (b : Builder). put (builder_numbers b) state) f.state;
      checkpoints = f.checkpoints;
    })

pub unended : {called : Bool} {b : Builder} {row state says : List ℕ} → called ≡ false
    → Ends called b row row state state says says not_called
unended e = rw e (record { tells = record { reply = refl; told = refl }; next = refl; checkpoints = refl })

pub was_ended : {called : Bool} {b q : Builder} {row row' state state' says says' : List ℕ} {r : ℕ} {f : Built} {s : Said}
    → called ≡ true → q ≡ b → build.Finishes q row row' f → 8 ≤ length state → state' ≡ kept 8 (builder_numbers f.state) state
    → s ≡ said_of (told_checked f.answer) → Tells true (saying s) says says' r
    → Ends called b row row' state state' says says' r
was_ended {state = state} {f = v} e q f long k s t =
    rw (e, ← q)
    (record {
      tells = as_said (said_checked v.answer s ∙ f.answer) t;
      next = k ∙ kept-long 8 state (builder_numbers v.state) long ∙ ap (λ (b : Builder). put (builder_numbers b) state) f.state;
      checkpoints = f.checkpoints;
    })
