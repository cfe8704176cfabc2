-- `look_from` meets its contract: refusal 6, or plain lookup from the checkpoint on.
use mathlib.Core.Path.{◌≡◌, sym, ◌∙◌}
use Prim.Native.Nat.{◌≤◌}
use mathlib.Core.Bool.{true}
use lib.ListN.{length}
use Rattle.theory.specs.Index.{usable}
use Rattle.place.specs.Measures.{ruler, reader, longest}
use Rattle.place.specs.Walk.{number, measure, fair}
use Rattle.index_checkpoint.specs.Checkpoints.{spacing}
use Rattle.index_lookup.proofs.FromCheckpoint.{from-unusable, usable-in, from-usable, from-read}
use borrow.Author.Rules.{rules}
use Rattle.index_lookup.proofs.look_from.Goals.{Else-not-usable}
use Rattle.index_lookup.proofs.look_from.Goals as goal

pub returns-then-not-usable : goal.returns-then-not-usable
returns-then-not-usable c =
    let a = c.args in
    from-unusable (measure a.to) (number a.to) a.j c.checkpoint-q.result a.text.now
    (sym c.usable.ensures ∙ c.if-not-usable.true)
    ∙ from-read a.to a.j a.text.now a.row.now c.checkpoint-q.result c.checkpoint-q.ensures

-- the checkpoint is usable
passed : (c : Else-not-usable)
    → let a = c.args in
    usable reader ruler longest spacing fair (measure a.to) (number a.to) a.j c.checkpoint-q.result ≡ true
passed c = sym c.usable.ensures ∙ c.if-not-usable.false

inside : (c : Else-not-usable) → c.checkpoint-q.result.bytes ≤ length c.args.text.now
inside c =
    let a = c.args in
    usable-in (measure a.to) (number a.to) a.j c.checkpoint-q.result (passed c) a.text.now c.requires.reached

pub slice_bounds-resume-count : goal.slice_bounds-resume-count
slice_bounds-resume-count c = inside c

pub slice_bounds-resume-start : goal.slice_bounds-resume-start
slice_bounds-resume-start c = let i = inside c in search rules

pub returns : goal.returns
returns c =
    let a = c.args in
    c.resume.ensures
    ∙ from-usable (measure a.to) (number a.to) a.j c.checkpoint-q.result (passed (goal.at.returns c).Else-not-usable) a.text.now c.requires.within c.requires.reached
    ∙ from-read a.to a.j a.text.now a.row.now c.checkpoint-q.result c.checkpoint-q.ensures
