-- Whatever the table has, a reader by classes is a division, and takes at most three bytes behind the first.
use Prim.Native.Nat.{ℕ, ◌≤◌}
use mathlib.Core.List.{List, map}
use Rattle.theory.specs.Table.{read}
use Rattle.theory.proofs.Divisions.{Division, through_division}
use Rattle.theory.proofs.TableDivides.{table-division, table-top}
use Rattle.utf8.specs.Classes.{class_in, rows_of_classes, lone_class, by_classes}

pub classes_division : (table : List ℕ) → Division (by_classes table)
unfolding by_classes
classes_division table = through_division (read rows_of_classes lone_class) (class_in table) (table-division rows_of_classes lone_class)

pub classes-top : (table : List ℕ) (x : ℕ) (xs : List ℕ) → (by_classes table x xs).more ≤ 3
unfolding by_classes rows_of_classes
classes-top table x xs = table-top rows_of_classes lone_class (class_in table x) (map (class_in table) xs)
