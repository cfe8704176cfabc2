-- Calls that take the state of a builder from a lent slice and put the next one there; where nothing is called nothing is changed.
use Rattle.std.specs.Prelude.{◌≡◌, ℕ, ◌+◌, Bool, cond, List, length}
use Rattle.terms.specs.Told.{if_granted}
use Rattle.index_build.specs.State as builder
use Rattle.index_build.specs.declared.state.Builder.{Builder}
use Rattle.index_build.specs.Building as build
use Rattle.bridge_numbers.specs.Telling.{not_called, Tells}
use Rattle.bridge_numbers.specs.Keeping.{stored}
use Rattle.bridge_numbers.specs.States.{builder_numbers}

pub record Freshens (called : Bool) (state state' : List ℕ) (r : ℕ) : Type 0 where
  pub reply : r ≡ cond called 0 not_called
  pub next : state' ≡ stored called (builder_numbers builder.fresh_builder) state

pub record Builds (called : Bool) (b : Builder) (piece row row' state state' says says' : List ℕ) (r : ℕ) : Type 0 where
  pub tells : Tells called (builder.build_says b (length piece) (length row)) says says' r
  pub next : state'
      ≡ stored called
      (builder_numbers
      (if_granted (builder.build_says b (length piece) (length row)) (build.closed (b.taken + length piece) (build.fed b piece row)) b))
      state
  pub checkpoints : row'
      ≡ cond called (if_granted (builder.build_says b (length piece) (length row)) (build.fed b piece row).kept.row row) row

pub record Ends (called : Bool) (b : Builder) (row row' state state' says says' : List ℕ) (r : ℕ) : Type 0 where
  pub tells : Tells called (builder.build_says b 0 (length row)) says says' r
  pub next : state' ≡ stored called (builder_numbers (if_granted (builder.build_says b 0 (length row)) builder.fresh_builder b)) state
  pub checkpoints : row' ≡ cond called (if_granted (builder.build_says b 0 (length row)) (build.ended b row).row row) row
