-- Two replies that the promise of a call on a builder's state allows are equal, and they leave the same.
use mathlib.Core.Path.{◌≡◌, sym, ◌∙◌}
use Prim.Native.Nat.{ℕ}
use mathlib.Core.Bool.{Bool}
use mathlib.Core.List.{List}
use Rattle.index_build.specs.declared.state.Builder.{Builder}
use Rattle.bridge_numbers.proofs.OneAnswer.{tells_once}
use Rattle.bridge_places.specs.Keeping.{Freshens, Builds, Ends}

pub freshens_once : {called : Bool} {state state' state'' : List ℕ} {q r : ℕ} → Freshens called state state' q → Freshens called state state'' r
    → (q ≡ r) × (state' ≡ state'')
freshens_once f g = (f.reply ∙ sym g.reply, f.next ∙ sym g.next)

pub builds_once : {called : Bool} {b : Builder} {piece row row' row'' state state' state'' says says' says'' : List ℕ} {q r : ℕ}
    → Builds called b piece row row' state state' says says' q → Builds called b piece row row'' state state'' says says'' r
    → (q ≡ r) × (state' ≡ state'') × (row' ≡ row'') × (says' ≡ says'')
builds_once f g =
    let t = tells_once f.tells g.tells in
    (t.0, f.next ∙ sym g.next, f.checkpoints ∙ sym g.checkpoints, t.1)

pub ends-once : {called : Bool} {b : Builder} {row row' row'' state state' state'' says says' says'' : List ℕ} {q r : ℕ}
    → Ends called b row row' state state' says says' q → Ends called b row row'' state state'' says says'' r
    → (q ≡ r) × (state' ≡ state'') × (row' ≡ row'') × (says' ≡ says'')
ends-once f g =
    let t = tells_once f.tells g.tells in
    (t.0, f.next ∙ sym g.next, f.checkpoints ∙ sym g.checkpoints, t.1)
