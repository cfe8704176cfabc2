-- What makes a decoder one: its reader divides, a state keeps what it stands for, and what balances passes the tests.
use mathlib.Core.Path.{◌≡◌}
use Prim.Native.Nat.{ℕ, suc, ◌+◌, ◌*◌, ◌≤◌}
use mathlib.Core.Bool.{true}
use mathlib.Core.List.{List}
use lib.ListN.{length}
use Rattle.theory.specs.Reader.{Reader, pending}
use Rattle.theory.specs.Table.{Kind, is_damage}
use Rattle.theory.proofs.Divisions.{Division}
use Rattle.terms.specs.Limits.{limit, most_room}
use Rattle.decoder_shared.specs.Decoding.{Standing, Decoding}

-- the numbers of a state that is due: `hold` is the most elements of a damage
pub record Balanced (look : Reader Kind) (hold : ℕ) (s : Standing) : Type 0 where
  pub begins : pending look s.left ≡ true
  pub sum : s.whole + s.damaged + length s.left ≡ s.taken
  pub within : s.taken ≤ limit
  pub low : s.count ≤ s.damaged
  pub high : s.damaged ≤ hold * s.count
  pub roomy : s.room ≤ most_room

pub record Lawful {S : Type 0} (D : Decoding S) : Type 0 where
  pub hold : ℕ
  pub division : Division D.look
  pub short : (x : ℕ) (xs : List ℕ) → is_damage (D.look x xs).tag ≡ true → suc (D.look x xs).more ≤ hold
  pub kept : (s : Standing) → pending D.look s.left ≡ true → D.stands (D.state s) ≡ s
  pub passes : (s : Standing) → Balanced D.look hold s → D.sound (D.state s) ≡ true
