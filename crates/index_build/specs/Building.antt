-- The builder: what a feed and finish answer, hand back and write.
use Rattle.std.specs.Prelude.{◌≡◌, ℕ, ◌+◌, List, length}
use Rattle.theory.specs.Stream.{State}
use Rattle.theory.specs.Stream as stream
use Rattle.theory.specs.Index.{Built, add, start_marked}
use Rattle.terms.specs.Told.{told_checked, if_granted}
use Rattle.utf8.specs.Pending.{padded}
use Rattle.place.specs.Measures.{ruler, reader}
use Rattle.place.specs.Lookup.{four_counts}
use Rattle.place.specs.declared.Place.{Place}
use Rattle.index_checkpoint.specs.Checkpoints.{spacing, width}
use Rattle.index_build.specs.State.{fresh_builder, left, settled_place, build_says}
use Rattle.index_build.specs.declared.state.Builder.{Builder}
use Rattle.index_build.specs.declared.state.Built as the-built

-- the state as a stream's: checkpoint 0 is written by every call
abbrev pub opened : Builder → List ℕ → State (Built Place)
opened b row = record { left = left b; kept = record { place = settled_place b; row = (start_marked ruler four_counts width spacing row).row } }

abbrev pub fed : Builder → List ℕ → List ℕ → State (Built Place)
fed b piece row = stream.feed reader (add ruler four_counts width spacing) (opened b row) piece

abbrev pub ended : Builder → List ℕ → Built Place
ended b row = stream.finish reader (add ruler four_counts width spacing) (opened b row)

abbrev pub closed : ℕ → State (Built Place) → Builder
closed taken s = record {
  held = padded s.left;
  pending = length s.left;
  taken = taken;
  units = s.kept.place.units;
  points = s.kept.place.points;
  lines = s.kept.place.lines;
}

pub record Feeds (b : Builder) (piece row row' : List ℕ) (r : the-built.Built) : Type 0 where
  pub answer : told_checked r.answer ≡ build_says b (length piece) (length row)
  pub state : r.state ≡ if_granted (build_says b (length piece) (length row)) (closed (b.taken + length piece) (fed b piece row)) b
  pub checkpoints : row' ≡ if_granted (build_says b (length piece) (length row)) (fed b piece row).kept.row row

-- finish settles the pending bytes and hands back a fresh state
pub record Finishes (b : Builder) (row row' : List ℕ) (r : the-built.Built) : Type 0 where
  pub answer : told_checked r.answer ≡ build_says b 0 (length row)
  pub state : r.state ≡ if_granted (build_says b 0 (length row)) fresh_builder b
  pub checkpoints : row' ≡ if_granted (build_says b 0 (length row)) (ended b row).row row
