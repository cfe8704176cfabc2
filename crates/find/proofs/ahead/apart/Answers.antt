-- `apart` meets its contract: where the bytes were not apart, nothing differs.
use mathlib.Core.Path.{◌≡◌, ◌∙◌}
use Prim.Native.Nat.{◌<◌}
use lib.ListN.{length, take, length-append}
use lib.Seq.{get_or-take, length-take-le}
use native.Mathlib.Omega.{arith}
use borrow.Author.Count.{below_more}
use borrow.Author.Tests.{ltb-true}
use Rattle.std.specs.Slice.Iter.{iter_rest}
use Rattle.std.specs.Iterator.Adapters.{zip_first, zip_second}
use Rattle.std.proofs.lemmas.Slice.Zip.{zip_turn, zip_end}
use Rattle.find.specs.Inside.Compared.{at}
use Rattle.find.proofs.ahead.apart.Goals as goal

pub loop-x-preserved : goal.loop-x-preserved
loop-x-preserved c =
    let t = c.args in
    let xs = take t.size t.first.now in
    let ys = take t.size t.second.now in
    let first : iter_rest (zip_first c.into_iter-x-iterator.result) ≡ xs =
    rw (c.into_iter-x-iterator.ensures.into_iter_gives, c.zip-x-items.ensures.first) c.iter.ensures.rest in
    let second : iter_rest (zip_second c.into_iter-x-iterator.result) ≡ ys =
    rw c.into_iter-x-iterator.ensures.into_iter_gives c.zip-x-items.ensures.second.0 in
    let z = zip_turn xs ys c.loop-x.yielded c.into_iter-x-iterator.result c.loop-x.x-iterator c.next.new.self c.next.result first second c.loop-x.yielded_by (c.in-Some.x, c.in-Some.y) c.in-Some.is c.next.ensures.steps in
    let n = length c.loop-x.yielded in
    let in_size : n < t.size = omega (arith, z.0, length-take-le t.size t.first.now c.requires.0) in
    rw length-append
    (below_more (λ j. at t.first.now j ≡ t.a → at t.second.now j ≡ t.b → c.min-least.result ≡ 0) n
    (λ j h e f. omega (arith, c.loop-x.invariant j h e f, c.min-least.ensures))
    (λ e f.
    omega (
      arith,
      c.differ.ensures (z.2 0 ∙ get_or-take t.size t.first.now n 0 in_size ∙ e) (z.3 0 ∙ get_or-take t.size t.second.now n 0 in_size ∙ f),
      c.min-least.ensures,
    )))

pub returns : goal.returns
returns c =
    let t = c.args in
    let xs = take t.size t.first.now in
    let ys = take t.size t.second.now in
    let first : iter_rest (zip_first c.into_iter-x-iterator.result) ≡ xs =
    rw (c.into_iter-x-iterator.ensures.into_iter_gives, c.zip-x-items.ensures.first) c.iter.ensures.rest in
    let second : iter_rest (zip_second c.into_iter-x-iterator.result) ≡ ys =
    rw c.into_iter-x-iterator.ensures.into_iter_gives c.zip-x-items.ensures.second.0 in
    let all = zip_end xs ys c.loop-x.yielded c.into_iter-x-iterator.result c.loop-x.x-iterator c.next.new.self c.next.result first second c.loop-x.yielded_by c.in-None.is c.next.ensures.steps in
    let long = length-take-le t.size t.first.now c.requires.0 in
    let long' = length-take-le t.size t.second.now c.requires.1 in
    λ o k h e f. omega (arith, ltb-true 0 c.loop-x.least o, c.loop-x.invariant k (omega (arith, all, long, long')) e f)
