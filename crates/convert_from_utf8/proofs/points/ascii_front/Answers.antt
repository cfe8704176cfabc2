-- Each byte that was passed is below 0x80.
use lib.ListN.{take, length-take}
use lib.Dec.{ltb}
use borrow.Author.Tests.{ltb-true}
use native.Mathlib.Omega.{arith}
use Rattle.std.proofs.lemmas.List.Sums.{prefix_len-le-length, prefix_len_passes}
use Rattle.convert_from_utf8.proofs.AsciiBeginning.{ascii-part}
use Rattle.convert_from_utf8.proofs.points.ascii_front.Goals as goal

pub returns : goal.returns
returns c =
    let text = c.args.text.now in
    let part = take 16 text in
    let few = prefix_len-le-length (λ b. ltb b 0x80) part in
    rw c.leading.ensures (
      omega (arith, few, length-take 16 text),
      ascii-part text 16 _ few (λ k h. ltb-true _ _ (prefix_len_passes (λ b. ltb b 0x80) part k 0 h)),
    )
