-- `walk::lacking` meets its contract: three places for each byte are always enough, and else the need is counted.
use Prim.Native.Nat.{ℕ, ◌+◌}
use mathlib.Core.Path.{◌≡◌, sym, ap, ◌∙◌}
use borrow.Author.Tests.{lt-ltb, le-ltb}
use native.Mathlib.Omega.{arith}
use Rattle.std.specs.Prelude.{Some}
use Rattle.theory.specs.Reader.{parts}
use Rattle.utf8.specs.Bytes.{bytes}
use Rattle.decoder.specs.Inside.Acting.{need, places}
use Rattle.decoder.proofs.SettledPlaces.{parts_small}
use Rattle.decoder.proofs.walk.lacking.Goals.{After-need_of}
use Rattle.decoder.proofs.walk.lacking.Goals as goal

pub returns-then-first-text : goal.returns-then-first-text
returns-then-first-text c =
    let a = c.args in
    sym (rw (le-ltb a.given (places a.seg + need (parts bytes a.text.now).done) (omega (arith, c.places-first.ensures, c.if-first-text.true, parts_small a.text.now))))

pub overflow_add-needed : goal.overflow_add-needed
overflow_add-needed c =
    omega (arith, c.places-first.ensures, c.need_of.ensures, c.requires, parts_small c.args.text.now)

-- how many places they need
needed_is : (c : After-need_of)
    → let a = c.args in
    c.places-first.result + c.need_of.result ≡ places a.seg + need (parts bytes a.text.now).done
needed_is c = λ i. c.places-first.ensures i + c.need_of.ensures i

pub returns-then-given-needed : goal.returns-then-given-needed
returns-then-given-needed c =
    let a = c.args in
    let n = needed_is (goal.at.returns-then-given-needed c).After-need_of in
    ap (λ (k : ℕ). Some k) n ∙ sym (rw (lt-ltb a.given (places a.seg + need (parts bytes a.text.now).done) (rw n at c.if-given-needed.true)))

pub returns : goal.returns
returns c =
    let a = c.args in
    sym (rw (le-ltb a.given (places a.seg + need (parts bytes a.text.now).done) (rw (needed_is (goal.at.returns c).After-need_of) at c.if-given-needed.false)))
