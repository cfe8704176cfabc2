-- What the class of a first byte tells the reader's code: how many bytes are wanted behind it, and of which classes.
use Rattle.std.specs.Prelude.{ℕ, zero, suc, cond, List, [], ◌∷◌, eqb}
use Rattle.std.proofs.Math.Option.{Option, none, some}
use Rattle.theory.specs.Table.{Range, ◌to◌}
use Rattle.terms.specs.Told.{number_of}
use Rattle.utf8.specs.Classes.{any_later, lone_class}
use Rattle.utf8.specs.declared.classes.Lead.{Lead}
use Rattle.utf8.specs.declared.classes.Lead.TheVariants.{Alone, Begins}

-- the classes wanted right behind a byte of this one
abbrev pub wanted_next : ℕ → Range
wanted_next lead = cond (eqb lead 6) (3 to 3) (cond (eqb lead 8) (1 to 2) (cond (eqb lead 9) (2 to 3) (cond (eqb lead 11) (1 to 1) any_later)))

-- those of so many bytes: behind the first of them any later ones are wanted, as behind class 5
abbrev pub laters : ℕ → ℕ → List Range
laters zero lead = []
laters (suc k) lead = wanted_next lead ∷ laters k 5

abbrev pub wanted : ℕ → Lead → Option (List Range)
wanted class (Alone cause) = none
wanted class (Begins more) = some (laters more class)

-- the cause that it tells of a byte which begins none; of another nobody asks
abbrev pub cause_in : ℕ → Lead → ℕ
cause_in class (Alone cause) = number_of cause
cause_in class (Begins more) = lone_class class
