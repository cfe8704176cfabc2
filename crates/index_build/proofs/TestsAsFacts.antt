-- The tests of a state, as facts about its numbers.
use mathlib.Core.Path.{◌≡◌, sym, ◌∙◌}
use Prim.Native.Nat.{◌-◌, ◌≤◌}
use mathlib.Core.Bool.{true}
use lib.Dec.{leb}
use borrow.Author.Tests.{leb-true, le-leb}
use Rattle.theory.proofs.Cases.{both}
use Rattle.terms.specs.Limits.{limit}
use Rattle.utf8_pending.specs.Tail.{is_tail}
use Rattle.utf8_pending.proofs.HeldInPlaces.{Tail, tail-is, is-tail}
use Rattle.place.specs.Measures.{reader}
use Rattle.index_build.specs.State.{sound}
use Rattle.index_build.specs.declared.state.Builder.{Builder}

-- what the tests say of a state that passes them
pub record Sound (b : Builder) : Type 0 where
  pub tail : Tail reader b.held b.pending
  pub within : b.taken ≤ limit
  pub covers : b.pending ≤ b.taken
  pub lines : b.lines ≤ b.points
  pub points : b.points ≤ b.units
  pub units : b.units ≤ b.taken - b.pending

module _ (b : Builder) where
  pub sound_is : sound b ≡ true → Sound b
  sound_is e =
      let u = both _ (leb b.units (b.taken - b.pending)) e in
      let p = both _ (leb b.points b.units) u.0 in
      let l = both _ (leb b.lines b.points) p.0 in
      let c = both _ (leb b.pending b.taken) l.0 in
      let w = both (is_tail reader b.held b.pending) (leb b.taken limit) c.0 in
      record {
        tail = tail-is reader b.held b.pending w.0;
        within = leb-true _ _ w.1;
        covers = leb-true _ _ c.1;
        lines = leb-true _ _ l.1;
        points = leb-true _ _ p.1;
        units = leb-true _ _ u.1;
      }

  -- once the others hold, the units decide
  pub sound-units : is_tail reader b.held b.pending ≡ true → b.taken ≤ limit → b.pending ≤ b.taken → b.lines ≤ b.points
      → b.points ≤ b.units → leb b.units (b.taken - b.pending) ≡ sound b
  sound-units t w c l p =
      rw (
        t,
        le-leb b.taken limit w,
        le-leb b.pending b.taken c,
        le-leb b.lines b.points l,
        le-leb b.points b.units p,
      )

  pub is_sound : Sound b → sound b ≡ true
  is_sound s =
      sym (sound-units (is-tail reader b.held b.pending s.tail) s.within s.covers s.lines s.points)
      ∙ le-leb b.units (b.taken - b.pending) s.units
