-- Any place at which the number stands is its place in a page.
use Prim.Native.Nat.{◌+◌, ◌%◌, ◌<◌}
use mathlib.Core.Path.{◌≡◌, sym, ◌∙◌}
use lib.ListN.{drop, length-drop}
use lib.Seq.{take_all}
use native.Mathlib.Omega.{arith}
use Rattle.std.specs.Prelude.{Some}
use Rattle.convert_from_utf8.specs.Inside.Held.{place_in}
use Rattle.convert_from_utf8.proofs.PlaceFound.{position-is, found-in, found-behind}
use Rattle.convert_from_utf8.proofs.pages.Table.place_of.Goals.{In-Some}
use Rattle.convert_from_utf8.proofs.pages.Table.place_of.Goals as goal

pub returns-then-self-low : goal.returns-then-self-low
returns-then-self-low c = found-in c.args.c c.args.self.now.numbers c.args.self.now.is_page (c.args.c % 256) (omega arith) c.if-self-low.true

pub returns-then-self-far : goal.returns-then-self-far
returns-then-self-far c =
    found-in c.args.c c.args.self.now.numbers c.args.self.now.is_page ((c.args.c % 256 + 0xA0) % 256) (omega arith) c.if-self-far.true

-- a high one
behind : (c : In-Some)
    → (0xA0 + c.in-Some.n < 256) × (Some (0xA0 + c.in-Some.n) ≡ place_in c.args.c c.args.self.now.numbers)
behind c =
    let table = c.args.self.now.numbers in
    let e = sym c.in-Some.is ∙ c.search.ensures ∙ position-is c.args.c _ in
    found-behind c.args.c table c.args.self.now.is_page 0xA0 c.in-Some.n (omega arith) (rw (take_all 96 (drop 0xA0 table) (omega (arith, length-drop 0xA0 table, c.args.self.now.is_page.long))) at e)

pub overflow_add-result : goal.overflow_add-result
overflow_add-result c = omega (arith, (behind c).0)

pub returns-in-Some : goal.returns-in-Some
returns-in-Some c = (behind c).1

pub returns : goal.returns
returns c = c.search-2.ensures ∙ position-is c.args.c c.args.self.now.numbers
