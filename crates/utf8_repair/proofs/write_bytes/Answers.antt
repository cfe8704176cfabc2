-- The first run is copied, and the rest of the form is written behind it.
use mathlib.Core.Path.{sym}
use Prim.Native.Nat.{◌+◌}
use lib.Seq.{length-take-le}
use native.Mathlib.Omega.{arith}
use Rattle.terms.specs.Form.{converted}
use Rattle.terms.proofs.WalkWrites.{Wrote, wrote-end, back}
use Rattle.utf8.specs.Scalar.{utf8}
use Rattle.utf8_check.proofs.StandingIsWhole.{run_at}
use Rattle.convert_point.specs.Puts.{Puts}
use Rattle.convert_point.proofs.WalkInPasses.{rest-room}
use Rattle.utf8_repair.proofs.RunsCopied.{first-wrote}
use Rattle.utf8_repair.proofs.RestWalked.{wrote-rest}
use borrow.Author.Rules.{rules}
use Rattle.utf8_repair.proofs.write_bytes.Goals.{After-copy, After-write_on}
use Rattle.utf8_repair.proofs.write_bytes.Goals as goal

pub slice_bounds-copy-end : goal.slice_bounds-copy-end
slice_bounds-copy-end c =
    sym (length-take-le c.args.run c.args.text.now (run_at c.args.text.now c.args.run c.requires.0).inside)

-- what is written with the run
ran : (c : After-copy)
    → let a = c.args in
    Wrote utf8 utf8 a.text.now a.out.now c.copy.new.out a.run a.run
ran c =
    first-wrote c.args.text.now c.args.run c.requires.0 c.args.out.now c.copy.new.out c.requires.1 c.copy.ensures

pub returns-then-run-text : goal.returns-then-run-text
returns-then-run-text c =
    let a = c.args in
    let wrote = ran (goal.at.returns-then-run-text c).After-copy in
    let e = wrote-end utf8 utf8 a.text.now a.out.now c.copy.new.out a.run a.run wrote (omega (arith, c.if-run-text.true)) in
    record { count = e.0; output = e.1 }

pub slice_bounds-write_on-count : goal.slice_bounds-write_on-count
slice_bounds-write_on-count c = (ran (goal.at.slice_bounds-write_on-count c).After-copy).inside

pub slice_bounds-write_on-start : goal.slice_bounds-write_on-start
slice_bounds-write_on-start c = let i = (ran (goal.at.slice_bounds-write_on-start c).After-copy).inside in search rules

pub slice_bounds-write_on-count-2 : goal.slice_bounds-write_on-count-2
slice_bounds-write_on-count-2 c =
    let w = ran (goal.at.slice_bounds-write_on-count-2 c).After-copy in let i = w.within in let j = w.long in search rules

pub slice_bounds-write_on-start-2 : goal.slice_bounds-write_on-start-2
slice_bounds-write_on-start-2 c =
    let w = ran (goal.at.slice_bounds-write_on-start-2 c).After-copy in let i = w.within in let j = w.long in search rules

pub slice_bounds-write_on-end-2 : goal.slice_bounds-write_on-end-2
slice_bounds-write_on-end-2 c =
    let w = ran (goal.at.slice_bounds-write_on-end-2 c).After-copy in let i = w.within in let j = w.long in search rules

pub write_on-requires : goal.write_on-requires
write_on-requires c =
    let a = c.args in
    rest-room utf8 utf8 a.text.now a.out.now c.copy.new.out a.run a.run (ran (goal.at.write_on-requires c).After-copy) c.requires.1

-- and with the rest
all : (c : After-write_on)
    → let a = c.args in
    Wrote utf8 utf8 a.text.now a.out.now c.copy.new.out a.run a.run
    → Puts (converted utf8 utf8 a.text.now) a.out.now (back c.copy.new.out a.run c.write_on.new.out) (a.run + c.write_on.result)
all c ran =
    let a = c.args in
    wrote-rest a.text.now a.out.now c.copy.new.out a.run a.run ran c.requires.1 c.write_on.new.out c.write_on.result c.write_on.ensures

pub overflow_add-result : goal.overflow_add-result
overflow_add-result c =
    let way = goal.at.overflow_add-result c in
    omega (arith, (all way.After-write_on (ran way.After-copy)).count, c.requires.1, c.well_formed)

pub returns : goal.returns
returns c =
    let way = goal.at.returns c in
    all way.After-write_on (ran way.After-copy)
