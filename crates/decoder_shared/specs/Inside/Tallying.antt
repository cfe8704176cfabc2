-- A tally, and a list that goes with it, as a log of nothing written; and what its steps make of both, modulo the width of their numbers.
use Rattle.std.specs.Prelude.{ℕ, ◌+◌, ◌%◌, ◌^◌, List}
use Rattle.terms.specs.Told.{number_of}
use Rattle.terms.specs.declared.First.{First}
use Rattle.terms.specs.declared.First.TheVariants.{Nothing, Whole, Damage, Begun}
use Rattle.decoder_shared.specs.Entry.{entered}
use Rattle.theory.specs.Tally.{Log}
use Rattle.decoder_shared.specs.Inside.Steps.{counted}
use Rattle.decoder_shared.specs.declared.Totals.{Totals}
use Rattle.decoder_shared.specs.declared.tally.Tally.{Tally}

abbrev pub log_of : Tally → List ℕ → Log
log_of t list = counted t.whole t.damaged t.count list

-- the totals that finish gives of it, where it wrote so many places
abbrev pub totals_of : ℕ → Tally → Totals
totals_of written t = record { written = written; whole = t.whole; damaged = t.damaged; count = t.count }

-- the sum of two numbers of 64 bits
abbrev pub sum_of : ℕ → ℕ → ℕ
sum_of a b = (a + b) % 2 ^ 64

-- so many elements more in whole segments, and a damage of so many more
abbrev pub passed_by : Tally → ℕ → Tally
passed_by t n = record { whole = sum_of t.whole n; damaged = t.damaged; count = t.count }

abbrev pub struck_by : Tally → ℕ → Tally
struck_by t n = record { whole = t.whole; damaged = sum_of t.damaged n; count = sum_of t.count 1 }

-- the list with its entry
abbrev pub listed_by : Tally → ℕ → ℕ → ℕ → List ℕ → List ℕ
listed_by t n cause room list = entered room list t.count (sum_of t.whole t.damaged % 2 ^ 32) (n % 2 ^ 32) cause

-- what stands first, if it is settled
abbrev pub taken_by : Tally → First → Tally
taken_by t Nothing = t
taken_by t (Whole n) = passed_by t n
taken_by t (Damage n cause) = struck_by t n
taken_by t (Begun n) = t

abbrev pub told_list : Tally → First → ℕ → List ℕ → List ℕ
told_list t Nothing room list = list
told_list t (Whole n) room list = list
told_list t (Damage n cause) room list = listed_by t n (number_of cause) room list
told_list t (Begun n) room list = list
