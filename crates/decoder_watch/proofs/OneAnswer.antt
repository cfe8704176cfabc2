-- Two replies that the promise of the watch allows are equal, and they leave the same state.
use mathlib.Core.Path.{◌≡◌, sym, ◌∙◌}
use Prim.Native.Nat.{ℕ}
use Rattle.terms.specs.declared.Decoder.{Decoder}
use Rattle.decoder_watch.specs.Watching.{watching}

pub watch-once : (d : Decoder) (b : ℕ) {e e' : Decoder} {q r : ℕ} → (e ≡ (watching d b).state) × (q ≡ (watching d b).reply)
    → (e' ≡ (watching d b).state) × (r ≡ (watching d b).reply) → (e ≡ e') × (q ≡ r)
watch-once d b f g = (f.0 ∙ sym g.0, f.1 ∙ sym g.1)
