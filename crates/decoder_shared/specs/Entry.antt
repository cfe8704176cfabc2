-- An entry in the list of damages.
use Rattle.std.specs.Prelude.{ℕ, ◌*◌, ◌/◌, cond, ◌&&◌, List, length, ltb}
use Rattle.std.proofs.lemmas.List.Edits.{sets}
use Rattle.theory.specs.Table.{damage}
use Rattle.terms.specs.Limits.{entry_width}
use Rattle.decoder_shared.specs.Decoding.{numbers}

-- entry i of a list is written where i is below the room and the list has places for it; all other numbers stay
abbrev pub entered : ℕ → List ℕ → ℕ → ℕ → ℕ → ℕ → List ℕ
entered room list i start long cause =
    cond (ltb i room && ltb i (length list / entry_width)) (sets list (entry_width * i) (numbers (record { start = start; long = long; tag = damage cause }))) list
