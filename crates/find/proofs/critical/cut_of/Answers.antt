-- `cut_of` meets its contract: the later of the two greatest suffixes starts at a critical cut.
use mathlib.Core.Path.{sym, ap, ◌∙◌, subst₂}
use mathlib.Core.Bool.{true, false}
use mathlib.Core.Logic.{inl, inr}
use native.Mathlib.Omega.{arith}
use lib.ListN.{length}
use Rattle.find.specs.Inside.Compared.{at}
use Rattle.find.specs.Inside.Cuts.{Rep}
use Rattle.find.proofs.CriticalCut.{Critical, critical, cut-period, cut-wide}
use Rattle.find.proofs.critical.cut_of.Goals.{Joined-l-g, Joined-l-p, then-l-g, else-l-g, then-l-p+else-l-agree, else-l-p}
use Rattle.find.proofs.critical.cut_of.Goals as goal

-- the cut that was chosen
chosen : (c : Joined-l-g)
    → let a = c.args in
    Critical (at a.needle.now) (length a.needle.now) c.if-l-g.l c.if-l-g.p
chosen c =
    let s = c.args.needle.now in
    let f = c.greatest-f in
    let g = c.greatest-g in
    let bytes = c.type_inv.needle in
    elim c.if-l-g.branch [
      | then-l-g w ↦ subst₂ (Critical (at s) (length s)) (sym w.l-is) (sym w.p-is)
          (critical (at s) (length s) (λ i. omega (arith, bytes i)) true
          g.result.start g.result.period f.result.start f.result.period g.ensures f.ensures (omega arith))
      | else-l-g w ↦ subst₂ (Critical (at s) (length s)) (sym w.l-is) (sym w.p-is)
          (critical (at s) (length s) (λ i. omega (arith, bytes i)) false
          f.result.start f.result.period g.result.start g.result.period f.ensures g.ensures (omega arith))
    ]

pub agree-requires : goal.agree-requires
agree-requires c = let h = chosen (goal.at.agree-requires c).Joined-l-g in omega (arith, h.inside)

pub overflow_sub-result : goal.overflow_sub-result
overflow_sub-result c = let h = chosen (goal.at.overflow_sub-result c).Joined-l-g in omega (arith, h.inside)

pub returns-then-l-agree : goal.returns-then-l-agree
returns-then-l-agree c =
    let s = c.args.needle.now in
    cut-period (at s) (length s) c.if-l-g.l c.if-l-g.p (chosen (goal.at.returns-then-l-agree c).Joined-l-g) c.if-l-p.true (λ i h. c.agree.ensures.same i (omega arith) (omega (arith, c.if-l-agree.true)))

-- the left part does not end the right part's period
none : (c : Joined-l-p)
    → let s = c.args.needle.now in
    Critical (at s) (length s) c.if-l-g.l c.if-l-g.p
    → Rep (at s) (length s) c.if-l-g.l c.if-l-g.p → ⊥
none c h e =
    let s = c.args.needle.now in
    elim c.if-l-p.branch [
      | then-l-p+else-l-agree w ↦ w.agree.ensures.other (omega arith)
          (ap (at s) (omega arith) ∙ sym (e w.agree.result (omega arith) (omega arith) (omega (arith, h.inside))))
      | else-l-p w ↦ omega (arith, h.long c.if-l-g.p h.some e)
    ]

pub overflow_sub-m : goal.overflow_sub-m
overflow_sub-m c = let h = chosen (goal.at.overflow_sub-m c).Joined-l-g in omega (arith, h.inside)

pub returns-then-l-m : goal.returns-then-l-m
returns-then-l-m c =
    let s = c.args.needle.now in
    cut-wide (at s) (length s) c.if-l-g.l c.if-l-g.p (chosen (goal.at.returns-then-l-m c).Joined-l-g) (none (goal.at.returns-then-l-m c).Joined-l-p (chosen (goal.at.returns-then-l-m c).Joined-l-g)) _ (omega arith) (inr (omega arith))

pub overflow_add-result-2 : goal.overflow_add-result-2
overflow_add-result-2 c = let h = chosen (goal.at.overflow_add-result-2 c).Joined-l-g in omega (arith, h.inside)

pub returns : goal.returns
returns c =
    let s = c.args.needle.now in
    cut-wide (at s) (length s) c.if-l-g.l c.if-l-g.p (chosen (goal.at.returns c).Joined-l-g) (none (goal.at.returns c).Joined-l-p (chosen (goal.at.returns c).Joined-l-g)) _ (omega arith) (inl (omega arith))
