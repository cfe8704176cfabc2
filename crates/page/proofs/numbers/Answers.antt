-- The arrays of the code have the tables' numbers.
use Rattle.page.specs.Tables.{iso8859_1, iso8859_5, iso8859_15}
use Rattle.page.proofs.numbers.Goals as goal

pub returns-in-Iso8859_1 : goal.returns-in-Iso8859_1
unfolding iso8859_1
returns-in-Iso8859_1 c = rw c.in-Iso8859_1.is

pub returns-in-Iso8859_5 : goal.returns-in-Iso8859_5
unfolding iso8859_5
returns-in-Iso8859_5 c = rw c.in-Iso8859_5.is

pub returns-in-Iso8859_15 : goal.returns-in-Iso8859_15
unfolding iso8859_15
returns-in-Iso8859_15 c = rw c.in-Iso8859_15.is
