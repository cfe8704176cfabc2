-- Each arm bars what its class does not want, which is tried at each class of later bytes.
use mathlib.Core.Path.{refl}
use mathlib.Core.Bool.{not}
use lib.Dec.{eqb}
use native.Mathlib.Omega.{arith}
use Rattle.utf8.proofs.ClassesWanted.{left_by}
use Rattle.utf8.proofs.classes.barred.Goals as goal

pub returns-in-6 : goal.returns-in-6
returns-in-6 c = rw c.in-6.is (left_by _ (λ k. not (eqb k 3)) c.args.class (omega arith) (omega arith) refl refl refl)

pub returns-in-8 : goal.returns-in-8
returns-in-8 c = rw c.in-8.is (left_by _ (λ k. eqb k 3) c.args.class (omega arith) (omega arith) refl refl refl)

pub returns-in-9 : goal.returns-in-9
returns-in-9 c = rw c.in-9.is (left_by _ (λ k. eqb k 1) c.args.class (omega arith) (omega arith) refl refl refl)

pub returns-in-11 : goal.returns-in-11
returns-in-11 c = rw c.in-11.is (left_by _ (λ k. not (eqb k 1)) c.args.class (omega arith) (omega arith) refl refl refl)
