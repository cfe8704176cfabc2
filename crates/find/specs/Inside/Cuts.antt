-- Greatest suffixes, their periods, and the cut of a needle that a two-way search leans on.
use Rattle.std.specs.Prelude.{ℕ, ◌+◌, ◌-◌, ◌<◌, ◌≤◌, ◌≡◌, Bool, true, false, ◌⊎◌}

-- a byte's rank in the order, or in the order turned round
abbrev pub rank_of : Bool → ℕ → ℕ
rank_of true b = 255 - b
rank_of false b = b

abbrev pub ranked : Bool → (ℕ → ℕ) → ℕ → ℕ
ranked turned x i = rank_of turned (x i)

-- of m letters, those from i on are below those from s on in the order of words
pub record Below (y : ℕ → ℕ) (m i s : ℕ) : Type 0 where
  pub far : ℕ
  pub tie : (d : ℕ) → d < far → y (i + d) ≡ y (s + d)
  pub over : ((i + far ≡ m) × (s + far < m)) ⊎ ((i + far < m) × (s + far < m) × (y (i + far) < y (s + far)))

-- p is a period from s on
abbrev pub Period : (ℕ → ℕ) → ℕ → ℕ → ℕ → Type 0
Period y m s p = (i : ℕ) → s ≤ i → i + p < m → y i ≡ y (i + p)

-- the greatest suffix of m letters starts at s, and p is its least period
pub record Greatest (y : ℕ → ℕ) (m s p : ℕ) : Type 0 where
  pub some : 0 < p
  pub inside : s + p ≤ m
  pub greatest : (i : ℕ) → i < m → (i ≡ s → ⊥) → Below y m i s
  pub period : Period y m s p
  pub least : (g : ℕ) → 0 < g → g < p → Period y m s g → ⊥

-- a repetition of length r around l
abbrev pub Rep : (ℕ → ℕ) → ℕ → ℕ → ℕ → Type 0
Rep x m l r = (j : ℕ) → j < l → l ≤ j + r → j + r < m → x j ≡ x (j + r)

-- What a search leans on: each repetition around the cut l is a period from there on, and no shorter than the shift q; and the
-- first `keep` letters stand, after that shift, to the right of the cut.
pub record Cut (x : ℕ → ℕ) (m l q keep : ℕ) : Type 0 where
  pub inside : l ≤ m
  pub some : 0 < q
  pub short : q ≤ m
  pub far : (r : ℕ) → 0 < r → Rep x m l r → q ≤ r
  pub right : (r : ℕ) → 0 < r → Rep x m l r → Period x m l r
  pub low : keep ≤ m
  pub kept : (j : ℕ) → j < keep → (l ≤ j + q) × (j + q < m) × (x j ≡ x (j + q))
