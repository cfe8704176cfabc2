-- The empty run spells nothing; any other one is put.
use mathlib.Core.Path.{◌≡◌, refl}
use mathlib.Core.List.{[]}
use native.Mathlib.Omega.{arith}
use Rattle.convert_from_utf8.specs.Inside.Spell.{spelled}
use Rattle.convert_from_utf8.proofs.SpelledByKind.{left_end}
use Rattle.convert_from_utf8.proofs.spell_run.Goals as goal

pub returns-then-run-eq0 : goal.returns-then-run-eq0
returns-then-run-eq0 c =
    let run = c.args.run.now in
    let e : spelled run ≡ [] = left_end run 0 (omega (arith, c.if-run-eq0.true)) in
    rw e (record { count = refl; output = refl })
