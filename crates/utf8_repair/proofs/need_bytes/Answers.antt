-- The first run is counted as it is, and then the rest.
use mathlib.Core.Path.{◌≡◌, ap, ◌∙◌}
use Prim.Native.Nat.{◌+◌}
use lib.ListN.{length}
use native.Mathlib.Omega.{arith}
use Rattle.terms.specs.Form.{converted}
use Rattle.terms.proofs.WalkBySegments.{part_is}
use Rattle.terms.proofs.WalkWrites.{Counted}
use Rattle.utf8.specs.Scalar.{utf8}
use Rattle.convert_point.specs.declared.Target.TheVariants.{Bytes}
use Rattle.convert_point.proofs.Enough.{text_few}
use Rattle.utf8_repair.proofs.RunsCopied.{first_counted}
use borrow.Author.Rules.{rules}
use Rattle.utf8_repair.proofs.need_bytes.Goals.{After-need_on, After-shared_slice_known-1}
use Rattle.utf8_repair.proofs.need_bytes.Goals as goal

-- what is counted with the run
ran : (c : After-shared_slice_known-1) → let a = c.args in Counted utf8 utf8 a.text.now a.run a.run
ran c = first_counted c.args.text.now c.args.run c.requires.1

pub slice_bounds-need_on-count : goal.slice_bounds-need_on-count
slice_bounds-need_on-count c = (ran c).inside

pub slice_bounds-need_on-start : goal.slice_bounds-need_on-start
slice_bounds-need_on-start c = let i = (ran c).inside in search rules

-- and with the rest
all : (c : After-need_on)
    → let a = c.args in
    Counted utf8 utf8 a.text.now a.run a.run → a.run + c.need_on.result ≡ length (converted utf8 utf8 a.text.now)
all c ran =
    let a = c.args in
    omega (arith, ran.same, c.need_on.ensures ∙ ap (λ l. length (converted utf8 utf8 l)) (part_is a.text.now a.run))

pub overflow_add-result : goal.overflow_add-result
overflow_add-result c =
    let way = goal.at.overflow_add-result c in
    omega (arith, all way.After-need_on (ran way.After-shared_slice_known-1), text_few Bytes Bytes c.args.text.now, c.requires.0)

pub returns : goal.returns
returns c =
    let way = goal.at.returns c in
    all way.After-need_on (ran way.After-shared_slice_known-1)
