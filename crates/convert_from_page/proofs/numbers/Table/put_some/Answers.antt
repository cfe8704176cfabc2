-- Each byte but the last leaves a place that its second store may take; the last is put exactly.
use mathlib.Core.Path.{◌≡◌}
use Prim.Native.Nat.{◌+◌, ◌-◌, ◌≤◌, ◌<◌}
use lib.ListN.{length, get_or, length-take}
use lib.Seq.{get_or-take}
use native.Mathlib.Omega.{arith}
use Rattle.terms.specs.Form.{converted}
use Rattle.terms.proofs.WalkWrites.{back}
use Rattle.utf8.specs.Scalar.{utf8}
use Rattle.page.specs.Paged.{paged}
use Rattle.convert_point.specs.Puts.{Puts}
use Rattle.convert_from_page.proofs.NumberStored.{Walked, walked_start, turn-room, turn_on, last_on}
use borrow.Author.Rules.{rules}
use Rattle.convert_from_page.proofs.numbers.Table.put_some.Goals.{After-number, After-put_bytes, After-put_two-done}
use Rattle.convert_from_page.proofs.numbers.Table.put_some.Goals as goal

pub loop-b-init : goal.loop-b-init
loop-b-init c = walked_start c.args.self.now.numbers c.args.text.now c.args.out.now

-- the byte that is read is that of the text
read : (c : After-number)
    → let text = c.args.text.now in
    (c.loop-b.b-index + 2 ≤ length text) × (c.number.result ≡ get_or c.args.self.now.numbers (get_or text c.loop-b.b-index 0) 0)
read c =
    let text = c.args.text.now in
    let l : c.loop-b.b-index < length text - 1 = omega (arith, c.loop-b-test.true, length-take (length text - 1) text) in
    (omega arith, rw (get_or-take (length text - 1) text c.loop-b.b-index 0 l) at c.number.ensures)

pub put_two-done-requires : goal.put_two-done-requires
put_two-done-requires c =
    let r = read (goal.at.put_two-done-requires c).After-number in
    turn-room c.args.self.now.numbers c.args.text.now c.args.out.now c.requires.text_in_bounds c.loop-b.out c.loop-b.b-index c.loop-b.done c.loop-b.invariant
    (omega (arith, c.type_inv.text c.loop-b.b-index)) c.number.result r.1 r.0

-- what is written then
after : (c : After-put_two-done)
    → let a = c.args in
    (r : (c.loop-b.b-index + 2 ≤ length a.text.now) × (c.number.result ≡ get_or a.self.now.numbers (get_or a.text.now c.loop-b.b-index 0) 0))
    → Walked a.self.now.numbers a.text.now a.out.now (back c.loop-b.out c.loop-b.done c.put_two-done.new.out) (c.loop-b.b-index + 1) (c.loop-b.done + c.put_two-done.result)
after c r =
    turn_on c.args.self.now.numbers c.args.text.now c.args.out.now c.requires.text_in_bounds c.loop-b.out c.loop-b.b-index c.loop-b.done c.loop-b.invariant
    (omega (arith, c.type_inv.text c.loop-b.b-index)) c.number.result r.1 r.0
    c.put_two-done.new.out c.put_two-done.result c.put_two-done.ensures

pub overflow_add-done : goal.overflow_add-done
overflow_add-done c =
    omega (arith, (after (goal.at.overflow_add-done c).After-put_two-done (read (goal.at.overflow_add-done c).After-number)).within, c.well_formed)

pub loop-b-preserved : goal.loop-b-preserved
loop-b-preserved c =
    after (goal.at.loop-b-preserved c).After-put_two-done (read (goal.at.loop-b-preserved c).After-number)

-- what is written behind the last byte
whole : (c : After-put_bytes)
    → let a = c.args in
    let ys = c.put_bytes.new.out in
    Walked a.self.now.numbers a.text.now a.out.now (back c.loop-b.out c.loop-b.done ys) (c.loop-b.b-index + 1) (c.loop-b.done + c.put_bytes.result)
    × Puts (converted (paged a.self.now.numbers) utf8 a.text.now) a.out.now (back c.loop-b.out c.loop-b.done ys) (c.loop-b.done + c.put_bytes.result)
whole c =
    let n = length c.args.text.now in
    let e : c.loop-b.b-index ≡ n - 1 = omega (arith, c.loop-b-test.false, c.loop-b.invariant.inside, length-take (n - 1) c.args.text.now) in
    last_on c.args.self.now.numbers c.args.text.now c.args.out.now c.requires.text_in_bounds c.loop-b.out c.loop-b.b-index c.loop-b.done c.loop-b.invariant
    (omega (arith, c.type_inv.text c.loop-b.b-index)) c.number-2.result (rw (← e) at c.number-2.ensures) (omega (arith, e, c.requires.text_nonzero)) (search rules)
    c.put_bytes.new.out c.put_bytes.result c.put_bytes.ensures

pub overflow_add-result : goal.overflow_add-result
overflow_add-result c =
    omega (arith, (whole (goal.at.overflow_add-result c).After-put_bytes).0.within, c.well_formed)

pub shape_of-out : goal.shape_of-out
shape_of-out c = (whole (goal.at.shape_of-out c).After-put_bytes).0.long

pub returns : goal.returns
returns c = (whole (goal.at.returns c).After-put_bytes).1
