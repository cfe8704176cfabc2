-- Each arm is a row of classes or a class of later bytes, and the last is neither.
use mathlib.Core.Path.{refl}
use native.Mathlib.Omega.{arith}
use Rattle.utf8.specs.Classes.{any_later, rows_of_classes}
use Rattle.utf8.proofs.ClassesWanted.{not-among, none_of, not-only}
use Rattle.utf8.proofs.classes.lead_of.Goals as goal

pub returns-in-0 : goal.returns-in-0
unfolding rows_of_classes
returns-in-0 c = rw c.in-0.is (refl, refl)

pub returns-in-1 : goal.returns-in-1
unfolding rows_of_classes
returns-in-1 c = rw c.in-1.is (refl, refl)

pub returns-in-2 : goal.returns-in-2
unfolding rows_of_classes
returns-in-2 c = rw c.in-2.is (refl, refl)

pub returns-in-3 : goal.returns-in-3
unfolding rows_of_classes
returns-in-3 c = rw c.in-3.is (refl, refl)

pub returns-in-5 : goal.returns-in-5
unfolding rows_of_classes
returns-in-5 c = rw c.in-5.is (refl, refl)

pub returns-in-6 : goal.returns-in-6
unfolding rows_of_classes
returns-in-6 c = rw c.in-6.is (refl, refl)

pub returns-in-7 : goal.returns-in-7
unfolding rows_of_classes
returns-in-7 c = rw c.in-7.is (refl, refl)

pub returns-in-8 : goal.returns-in-8
unfolding rows_of_classes
returns-in-8 c = rw c.in-8.is (refl, refl)

pub returns-in-9 : goal.returns-in-9
unfolding rows_of_classes
returns-in-9 c = rw c.in-9.is (refl, refl)

pub returns-in-10 : goal.returns-in-10
unfolding rows_of_classes
returns-in-10 c = rw c.in-10.is (refl, refl)

pub returns-in-11 : goal.returns-in-11
unfolding rows_of_classes
returns-in-11 c = rw c.in-11.is (refl, refl)

pub returns-in_default : goal.returns-in_default
unfolding rows_of_classes
returns-in_default c =
    let x = c.args.class in
    rw (
      not-only 0 x (λ e. omega arith),
      not-only 5 x (λ e. omega arith),
      not-only 6 x (λ e. omega arith),
      not-only 7 x (λ e. omega arith),
      not-only 8 x (λ e. omega arith),
      not-only 9 x (λ e. omega arith),
      not-only 10 x (λ e. omega arith),
      not-only 11 x (λ e. omega arith),
      not-among any_later x (omega arith) (omega arith)
          (none_of x (λ e. omega arith) (λ e. omega arith) (λ e. omega arith)),
    )
    (refl, refl)
