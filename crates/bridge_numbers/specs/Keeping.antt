-- What a wrapped call leaves where a state stands: the next state; where nothing is called nothing is changed.
use Rattle.std.specs.Prelude.{ℕ, Bool, cond, ◌&&◌, List, length, leb}
use Rattle.bridge_numbers.specs.Telling.{put, roomy}

-- the numbers of the next state stand in the slice
abbrev pub stored : Bool → List ℕ → List ℕ → List ℕ
stored called numbers state = cond called (put numbers state) state

-- start reads no state
abbrev pub writable : ℕ → List ℕ → List ℕ → Bool
writable n state says = leb n (length state) && roomy says
