-- `greatest` meets its contract: each step of the walk keeps what it knows.
use native.Mathlib.Omega.{arith}
use lib.ListN.{length}
use Rattle.find.specs.Inside.Compared.{at}
use Rattle.find.specs.Inside.Cuts.{ranked}
use Rattle.find.proofs.GreatestGrows.{grown-start, grown-same, grown-copy, grown-less, grown-more, grown-end}
use Rattle.find.proofs.critical.greatest.Goals as goal

pub loop-j-init : goal.loop-j-init
loop-j-init c = grown-start _ _ c.requires

pub loop-j-preserved-then-a-b : goal.loop-j-preserved-then-a-b
loop-j-preserved-then-a-b c =
    let a = c.args in
    grown-less (ranked a.turned (at a.needle.now)) (length a.needle.now) c.loop-j.s c.loop-j.j c.loop-j.k c.loop-j.p c.loop-j.invariant c.loop-j-test.true
    (omega (arith, c.if-a-b.true, c.rank-a.ensures, c.rank-b.ensures))

pub loop-j-preserved-then-b-a : goal.loop-j-preserved-then-b-a
loop-j-preserved-then-b-a c =
    let a = c.args in
    grown-more (ranked a.turned (at a.needle.now)) (length a.needle.now) c.loop-j.s c.loop-j.j c.loop-j.k c.loop-j.p c.loop-j.invariant c.loop-j-test.true
    (omega (arith, c.if-b-a.true, c.rank-a.ensures, c.rank-b.ensures))

pub loop-j-preserved-then-k-p : goal.loop-j-preserved-then-k-p
loop-j-preserved-then-k-p c =
    let a = c.args in
    grown-copy (ranked a.turned (at a.needle.now)) (length a.needle.now) c.loop-j.s c.loop-j.j c.loop-j.k c.loop-j.p c.loop-j.invariant c.loop-j-test.true
    (omega (arith, c.if-a-b.false, c.if-b-a.false, c.rank-a.ensures, c.rank-b.ensures)) c.if-k-p.true

pub loop-j-preserved : goal.loop-j-preserved
loop-j-preserved c =
    let a = c.args in
    grown-same (ranked a.turned (at a.needle.now)) (length a.needle.now) c.loop-j.s c.loop-j.j c.loop-j.k c.loop-j.p c.loop-j.invariant c.loop-j-test.true
    (omega (arith, c.if-a-b.false, c.if-b-a.false, c.rank-a.ensures, c.rank-b.ensures)) c.if-k-p.false

pub returns : goal.returns
returns c = grown-end _ _ _ _ _ _ c.loop-j.invariant c.loop-j-test.false
