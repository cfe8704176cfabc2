-- What the three bytes before a place ask for: how many of them wait, and when the byte behind them stands well.
use Prim.Native.Nat.{ℕ, ◌<◌, ◌≤◌}
use mathlib.Core.Path.{◌≡◌}
use mathlib.Core.Bool.{not}
use borrow.Author.Tests.{le-leb, lt-leb}
use Rattle.utf8_scan.specs.Stands.{is_later, second, stands, waiting}

-- ---- how many bytes wait

module _ (b3 b2 b1 : ℕ) where
  pub waits_one : 0xC0 ≤ b1 → waiting b3 b2 b1 ≡ 1
  unfolding waiting
  waits_one h = rw (le-leb 0xC0 b1 h)

  pub waits-two : b1 < 0xC0 → 0xE0 ≤ b2 → waiting b3 b2 b1 ≡ 2
  unfolding waiting
  waits-two l h = rw (lt-leb 0xC0 b1 l, le-leb 0xE0 b2 h)

  pub waits-three : b1 < 0xC0 → b2 < 0xE0 → 0xF0 ≤ b3 → waiting b3 b2 b1 ≡ 3
  unfolding waiting
  waits-three l m h = rw (lt-leb 0xC0 b1 l, lt-leb 0xE0 b2 m, le-leb 0xF0 b3 h)

  pub waits-none : b1 < 0xC0 → b2 < 0xE0 → b3 < 0xF0 → waiting b3 b2 b1 ≡ 0
  unfolding waiting
  waits-none l m h = rw (lt-leb 0xC0 b1 l, lt-leb 0xE0 b2 m, lt-leb 0xF0 b3 h)

-- ---- when a byte stands well, by what the three before it ask for

module _ (b3 b2 b1 b0 : ℕ) where
  pub stands-second : 0xC0 ≤ b1 → stands b3 b2 b1 b0 ≡ second b1 b0
  unfolding stands
  stands-second h = rw (le-leb 0xC0 b1 h)

  pub stands-third : b1 < 0xC0 → 0xE0 ≤ b2 → stands b3 b2 b1 b0 ≡ is_later b0
  unfolding stands
  stands-third l h = rw (lt-leb 0xC0 b1 l, le-leb 0xE0 b2 h)

  pub stands-fourth : b1 < 0xC0 → b2 < 0xE0 → 0xF0 ≤ b3 → stands b3 b2 b1 b0 ≡ is_later b0
  unfolding stands
  stands-fourth l m h = rw (lt-leb 0xC0 b1 l, lt-leb 0xE0 b2 m, le-leb 0xF0 b3 h)

  pub stands-first : b1 < 0xC0 → b2 < 0xE0 → b3 < 0xF0 → stands b3 b2 b1 b0 ≡ not (is_later b0)
  unfolding stands
  stands-first l m h = rw (lt-leb 0xC0 b1 l, lt-leb 0xE0 b2 m, lt-leb 0xF0 b3 h)
