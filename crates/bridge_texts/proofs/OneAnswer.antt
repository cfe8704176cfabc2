-- Two replies that the promise of a call on a decoder's state allows are equal, and they leave the same.
use mathlib.Core.Path.{◌≡◌, sym, ◌∙◌}
use Prim.Native.Nat.{ℕ}
use mathlib.Core.Bool.{Bool}
use mathlib.Core.List.{List}
use Rattle.terms.specs.declared.Decoder.{Decoder}
use Rattle.decoder_shared.specs.Decoding.{Decoding}
use Rattle.bridge_numbers.proofs.OneAnswer.{tells_once}
use Rattle.bridge_texts.specs.Keeping.{Starts, Feeds, Finishes, Watches}

module _ {S : Type 0} {D : Decoding S} {numbers : S → List ℕ} where
  pub starts-once : {called : Bool} {room : ℕ} {state state' state'' says says' says'' : List ℕ} {q r : ℕ}
      → Starts D numbers called room state state' says says' q → Starts D numbers called room state state'' says says'' r
      → (q ≡ r) × (state' ≡ state'') × (says' ≡ says'')
  starts-once f g =
      let t = tells_once f.tells g.tells in
      (t.0, f.next ∙ sym g.next, t.1)

  pub feeds-once : {called : Bool} {d : S} {piece out list out' out'' list' list'' state state' state'' says says' says'' : List ℕ} {q r : ℕ}
      → Feeds D numbers called d piece out list out' list' state state' says says' q → Feeds D numbers called d piece out list out'' list'' state state'' says says'' r
      → (q ≡ r) × (state' ≡ state'') × (out' ≡ out'') × (list' ≡ list'') × (says' ≡ says'')
  feeds-once f g =
      let t = tells_once f.tells g.tells in
      (t.0, f.next ∙ sym g.next, f.output ∙ sym g.output, f.entries ∙ sym g.entries, t.1)

  pub finishes_once : {called : Bool} {d : S} {out list out' out'' list' list'' state state' state'' says says' says'' : List ℕ} {q r : ℕ}
      → Finishes D numbers called d out list out' list' state state' says says' q → Finishes D numbers called d out list out'' list'' state state'' says says'' r
      → (q ≡ r) × (state' ≡ state'') × (out' ≡ out'') × (list' ≡ list'') × (says' ≡ says'')
  finishes_once f g =
      let t = tells_once f.tells g.tells in
      (t.0, f.next ∙ sym g.next, f.output ∙ sym g.output, f.entries ∙ sym g.entries, t.1)

pub watches-once : {called : Bool} {d : Decoder} {b : ℕ} {state state' state'' : List ℕ} {q r : ℕ}
    → Watches called d b state state' q → Watches called d b state state'' r → (q ≡ r) × (state' ≡ state'')
watches-once f g = (f.reply ∙ sym g.reply, f.next ∙ sym g.next)
