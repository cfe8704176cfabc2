-- Where the output has a place for each byte there is room without counting; else the need is counted first.
use Prim.Native.Nat.{◌≤◌}
use mathlib.Core.Path.{◌≡◌, sym, ◌∙◌}
use lib.ListN.{length}
use native.Mathlib.Omega.{arith}
use Rattle.terms.specs.Form.{converted}
use Rattle.terms.proofs.AnswersWritten.{roomed-short, roomed-done}
use Rattle.utf8.specs.Scalar.{utf8}
use Rattle.page.specs.Paged.{paged}
use Rattle.convert_point.specs.declared.Target.TheVariants.{Bytes, Points}
use Rattle.convert_point.proofs.Enough.{text_few}
use Rattle.convert_from_utf8.proofs.SumsAreNeeds.{places-points}
use Rattle.convert_from_utf8.proofs.pages.Table.write_held.Goals.{After-need-places, Else-out-places, Then-text-out}
use Rattle.convert_from_utf8.proofs.pages.Table.write_held.Goals as goal

-- a place for each byte is enough
roomy : (c : Then-text-out)
    → let a = c.args in
    length (converted utf8 (paged a.self.now.numbers) a.text.now) ≤ length a.out.now
roomy c =
    let a = c.args in
    omega (arith, places-points a.self.now.numbers a.text.now, text_few Bytes Points a.text.now, c.if-text-out.true)

-- what was counted
counted : (c : After-need-places)
    → let a = c.args in
    c.need-places.result ≡ length (converted utf8 (paged a.self.now.numbers) a.text.now)
counted c = let a = c.args in c.need-places.ensures ∙ sym (places-points a.self.now.numbers a.text.now)

-- and there is room for it
counted-room : (c : Else-out-places)
    → let a = c.args in
    (counted : c.need-places.result ≡ length (converted utf8 (paged a.self.now.numbers) a.text.now))
    → length (converted utf8 (paged a.self.now.numbers) a.text.now) ≤ length a.out.now
counted-room c counted = omega (arith, counted, c.if-out-places.false)

pub put-requires : goal.put-requires
put-requires c =
    record {
      fits = c.requires.fits;
      text_in_bounds = roomy (goal.at.put-requires c).Then-text-out;
    }

pub returns-then-text-out : goal.returns-then-text-out
returns-then-text-out c =
    let a = c.args in
    let r = roomy (goal.at.returns-then-text-out c).Then-text-out in
    roomed-done (converted utf8 (paged a.self.now.numbers) a.text.now) a.out.now _ c.put.ensures.count r _ c.put.ensures.output

pub returns-then-out-places : goal.returns-then-out-places
returns-then-out-places c =
    let a = c.args in
    let n = counted (goal.at.returns-then-out-places c).After-need-places in
    roomed-short (converted utf8 (paged a.self.now.numbers) a.text.now) a.out.now _ n c.if-out-places.true

pub put-requires-2 : goal.put-requires-2
put-requires-2 c =
    let n = counted (goal.at.put-requires-2 c).After-need-places in
    record {
      fits = c.requires.fits;
      text_in_bounds = counted-room (goal.at.put-requires-2 c).Else-out-places n;
    }

pub returns : goal.returns
returns c =
    let a = c.args in
    let r = counted-room (goal.at.returns c).Else-out-places (counted (goal.at.returns c).After-need-places) in
    roomed-done (converted utf8 (paged a.self.now.numbers) a.text.now) a.out.now _ c.put-2.ensures.count r _ c.put-2.ensures.output
