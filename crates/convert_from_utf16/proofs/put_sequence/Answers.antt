-- Each arm stores the sequence that its tests lead to.
use mathlib.Core.Path.{ap}
use Prim.Native.Nat.{◌≤◌}
use lib.ListN.{length, length-set}
use native.Mathlib.Omega.{arith}
use Rattle.terms.proofs.FaithfulForms.{scalar_top}
use Rattle.utf8.specs.Scalar.{sequence}
use Rattle.utf8.proofs.FaithfulForm.{is_one, two, is-two, three, is-three, four, is-four}
use Rattle.convert_point.proofs.PointWritten.{puts_sets}
use mathlib.Core.List.{[], ◌∷◌}
use Rattle.convert_from_utf16.proofs.put_sequence.Goals.{Else-c-lt65536, Then-c-lt128, Then-c-lt2048, Then-c-lt65536}
use Rattle.convert_from_utf16.proofs.put_sequence.Goals as goal

-- there is room for what is stored
room-one : (c : Then-c-lt128) → 1 ≤ length c.args.out.now
room-one c = omega (arith, c.requires.c_in_bounds, ap length (is_one c.args.c (omega arith)))

room-two : (c : Then-c-lt2048) → 2 ≤ length c.args.out.now
room-two c = omega (arith, c.requires.c_in_bounds, ap length (is-two c.args.c (omega arith) (omega arith)))

room-three : (c : Then-c-lt65536) → 3 ≤ length c.args.out.now
room-three c = omega (arith, c.requires.c_in_bounds, ap length (is-three c.args.c (omega arith) (omega arith)))

room-four : (c : Else-c-lt65536) → 4 ≤ length c.args.out.now
room-four c = omega (arith, c.requires.c_in_bounds, ap length (is-four c.args.c (omega arith)))

pub bounds-out-0 : goal.bounds-out-0
bounds-out-0 c = let h = room-one c in omega arith

pub returns-then-c-lt128 : goal.returns-then-c-lt128
returns-then-c-lt128 c =
    let a = c.args in puts_sets (sequence a.c) (a.c ∷ []) a.out.now (is_one a.c (omega arith)) c.requires.c_in_bounds

pub bounds-out-0-then-c-lt2048 : goal.bounds-out-0-then-c-lt2048
bounds-out-0-then-c-lt2048 c = let h = room-two c in omega arith

pub bounds-out-1 : goal.bounds-out-1
bounds-out-1 c = let h = room-two c in simp length-set (omega arith)

pub shape_of-out-then-c-lt2048 : goal.shape_of-out-then-c-lt2048
shape_of-out-then-c-lt2048 c = simp length-set

pub returns-then-c-lt2048 : goal.returns-then-c-lt2048
returns-then-c-lt2048 c =
    let a = c.args in
    puts_sets (sequence a.c) (two a.c) a.out.now (is-two a.c (omega arith) (omega arith)) c.requires.c_in_bounds

pub bounds-out-0-then-c-lt65536 : goal.bounds-out-0-then-c-lt65536
bounds-out-0-then-c-lt65536 c = let h = room-three c in omega arith

pub bounds-out-1-then-c-lt65536 : goal.bounds-out-1-then-c-lt65536
bounds-out-1-then-c-lt65536 c = let h = room-three c in simp length-set (omega arith)

pub bounds-out-2 : goal.bounds-out-2
bounds-out-2 c = let h = room-three c in simp length-set (omega arith)

pub shape_of-out-then-c-lt65536 : goal.shape_of-out-then-c-lt65536
shape_of-out-then-c-lt65536 c = simp length-set

pub returns-then-c-lt65536 : goal.returns-then-c-lt65536
returns-then-c-lt65536 c =
    let a = c.args in
    puts_sets (sequence a.c) (three a.c) a.out.now (is-three a.c (omega arith) (omega arith)) c.requires.c_in_bounds

pub overflow_cast-out-2 : goal.overflow_cast-out-2
overflow_cast-out-2 c = omega (arith, scalar_top c.args.c c.requires.c_value)

pub bounds-out-0-2 : goal.bounds-out-0-2
bounds-out-0-2 c = let h = room-four c in omega arith

pub bounds-out-1-2 : goal.bounds-out-1-2
bounds-out-1-2 c = let h = room-four c in simp length-set (omega arith)

pub bounds-out-2-2 : goal.bounds-out-2-2
bounds-out-2-2 c = let h = room-four c in simp length-set (omega arith)

pub bounds-out-3 : goal.bounds-out-3
bounds-out-3 c = let h = room-four c in simp length-set (omega arith)

pub shape_of-out : goal.shape_of-out
shape_of-out c = simp length-set

pub returns : goal.returns
returns c =
    let a = c.args in
    puts_sets (sequence a.c) (four a.c) a.out.now (is-four a.c (omega arith)) c.requires.c_in_bounds
