-- The units passed are squeezed into the output.
use Rattle.convert_utf16_blocks.specs.Inside.Places.{Squeezed}
use Rattle.convert_utf16_blocks.proofs.squeeze.Given as goal

abbrev pub invariant-loop-k : goal.invariant-loop-k
invariant-loop-k l = Squeezed l.units l.k 2 l.initial.out l.out l.at
