-- An entry in the list: it is stored where there is room for it, and where the list has the places of its room that is all there is to ask.
use mathlib.Core.Path.{◌≡◌}
use Prim.Native.Nat.{ℕ, suc, ◌+◌, ◌*◌, ◌/◌, ◌≤◌, ◌<◌}
use mathlib.Core.List.{List, [], ◌∷◌}
use lib.ListN.{length, set}
use lib.Dec.{ltb}
use borrow.Author.Tests.{lt-ltb, le-ltb, ltb-true}
use native.Mathlib.Numerals.{add-one}
use native.Mathlib.Omega.{arith}
use Rattle.theory.specs.Table.{damage}
use Rattle.theory.specs.Tally.{store}
use Rattle.theory.proofs.Cases.{split}
use Rattle.terms.specs.Limits.{entry_width}
use Rattle.decoder_shared.specs.Decoding.{numbers}
use Rattle.decoder_shared.specs.Entry.{entered}

module _ (room i start long cause : ℕ) (list : List ℕ) where
  pub full : room ≤ i → list ≡ entered room list i start long cause
  full h = rw (le-ltb i room h)

  pub short : i < room → length list / entry_width ≤ i → list ≡ entered room list i start long cause
  short h k = rw (lt-ltb i room h, le-ltb i (length list / entry_width) k)

  pub stored : i < room → i < length list / entry_width
      → set (set (set list (entry_width * i) start) (entry_width * i + 1) long) (entry_width * i + 2) cause ≡ entered room list i start long cause
  stored h k =
      let two : entry_width * i + 2 ≡ suc (suc (entry_width * i)) = omega arith in
      rw (lt-ltb i room h, lt-ltb i (length list / entry_width) k, add-one (entry_width * i), two)

  -- what the log of a damage says
  pub entered-is : entry_width * room ≤ length list
      → entered room list i start long cause ≡ store numbers entry_width room list i (record { start = start; long = long; tag = damage cause } ∷ [])
  entered-is h = split (ltb i room)
      (λ t.
      let k : i < room = ltb-true i room t in
      let l : i < length list / entry_width = omega arith in
      rw (t, lt-ltb i (length list / entry_width) l))
      (λ t. rw t)
