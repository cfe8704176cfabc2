-- Each arm has the bits of as many bytes as the first one wants.
use lib.ListN.{get_or}
use native.Mathlib.Omega.{arith}
use Rattle.convert_from_utf8.proofs.SpelledByKind.{wants-none, wants-one, wants-two, wants-three}
use Rattle.convert_from_utf8.proofs.FirstByteTells.{Told, first-told}
use Rattle.convert_from_utf8.proofs.points.first_point.Goals.{Else-a-lt240, Then-a-lt128, Then-a-lt224, Then-a-lt240}
use Rattle.convert_from_utf8.proofs.points.first_point.Goals as goal

-- what stands first, in each arm
one : (c : Then-a-lt128) → Told c.args.text.now 1
one c =
    first-told c.args.text.now c.requires.0 c.requires.1 0 (wants-none (get_or c.args.text.now 0 0) c.if-a-lt128.true)

two : (c : Then-a-lt224) → Told c.args.text.now 2
two c =
    first-told c.args.text.now c.requires.0 c.requires.1 1 (wants-one (get_or c.args.text.now 0 0) c.if-a-lt128.false c.if-a-lt224.true)

three : (c : Then-a-lt240) → Told c.args.text.now 3
three c =
    first-told c.args.text.now c.requires.0 c.requires.1 2 (wants-two (get_or c.args.text.now 0 0) c.if-a-lt224.false c.if-a-lt240.true)

four : (c : Else-a-lt240) → Told c.args.text.now 4
four c =
    first-told c.args.text.now c.requires.0 c.requires.1 3 (wants-three (get_or c.args.text.now 0 0) c.if-a-lt240.false)

pub returns-then-a-lt128 : goal.returns-then-a-lt128
returns-then-a-lt128 c = (one (goal.at.returns-then-a-lt128 c).Then-a-lt128).says

pub bounds-text-1 : goal.bounds-text-1
bounds-text-1 c = omega (arith, (two (goal.at.bounds-text-1 c).Then-a-lt224).inside)

pub returns-then-a-lt224 : goal.returns-then-a-lt224
returns-then-a-lt224 c =
    rw c.with_later.ensures (two (goal.at.returns-then-a-lt224 c).Then-a-lt224).says

pub bounds-text-1-then-a-lt240 : goal.bounds-text-1-then-a-lt240
bounds-text-1-then-a-lt240 c = omega (arith, (three (goal.at.bounds-text-1-then-a-lt240 c).Then-a-lt240).inside)

pub bounds-text-2 : goal.bounds-text-2
bounds-text-2 c = omega (arith, (three (goal.at.bounds-text-2 c).Then-a-lt240).inside)

pub returns-then-a-lt240 : goal.returns-then-a-lt240
returns-then-a-lt240 c =
    rw (c.with_later-then-a-lt240-2.ensures, c.with_later-then-a-lt240.ensures) (three (goal.at.returns-then-a-lt240 c).Then-a-lt240).says

pub bounds-text-1-2 : goal.bounds-text-1-2
bounds-text-1-2 c = omega (arith, (four (goal.at.bounds-text-1-2 c).Else-a-lt240).inside)

pub bounds-text-2-2 : goal.bounds-text-2-2
bounds-text-2-2 c = omega (arith, (four (goal.at.bounds-text-2-2 c).Else-a-lt240).inside)

pub bounds-text-3 : goal.bounds-text-3
bounds-text-3 c = omega (arith, (four (goal.at.bounds-text-3 c).Else-a-lt240).inside)

pub returns : goal.returns
returns c =
    rw (c.with_later-4.ensures, c.with_later-3.ensures, c.with_later-2.ensures) (four (goal.at.returns c).Else-a-lt240).says
