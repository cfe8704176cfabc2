-- What a granted feed has taken and written: the piece, within the limit, and places within the output.
use mathlib.Core.Path.{◌≡◌, sym, ap, ◌∙◌}
use Prim.Native.Nat.{ℕ, ◌+◌, ◌≤◌}
use mathlib.Core.List.{List, [], ◌∷◌}
use lib.ListN.{length, get_or}
use Rattle.terms.specs.Limits.{limit}
use Rattle.terms.specs.Told.{told_written, is_granted, if_granted}
use Rattle.terms.specs.declared.Decoder.{Decoder}
use Rattle.std.specs.Prelude.{Ok}
use Rattle.decoder_shared.proofs.AnyCutting.{feed-grants}
use Rattle.decoder.specs.State.{byte_decoding, fed, closed}
use Rattle.decoder.specs.Feeding.{feed_says, Feeds}
use Rattle.decoder_shared.specs.declared.Fed.{Fed}

module _ {d : Decoder} {piece out list out' list' : List ℕ} {r : Fed Decoder} (f : Feeds d piece out list out' list' r) (n : ℕ) (e : r.answer ≡ Ok n) where
  says : feed_says d piece out list ≡ 0 ∷ n ∷ []
  says = sym f.answer ∙ ap told_written e

  pub taken_is : r.state.taken ≡ d.taken + length piece
  taken_is =
      ap (λ (s : Decoder). s.taken) (f.state
      ∙ ap (λ (l : List ℕ). if_granted l (closed d (d.taken + length piece) (fed d piece list)) d) says)

  -- it passed each of its checks
  pub record Granted : Type 0 where
    pub within : d.taken + length piece ≤ limit
    pub fits : n ≤ length out

  pub granted : Granted
  granted =
      let g = feed-grants byte_decoding d piece out list (ap is_granted says) in
      let m : n ≡ length (fed d piece list).kept.out = ap (λ (l : List ℕ). get_or l 1 0) (sym says ∙ g.says) in
      record { within = g.admits.within; fits = rw m g.fits }
