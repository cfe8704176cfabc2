-- `segment` meets its contract: whether the first number is a scalar value says all.
use mathlib.Core.Path.{sym, ◌∙◌}
use native.Mathlib.Omega.{arith}
use Rattle.terms.proofs.WalkBySegments.{says_nothing}
use Rattle.code_points.specs.Points.{points}
use Rattle.code_points.proofs.CodePointsDivide.{first-scalar, first-other}
use Rattle.code_points.proofs.segment.Goals as goal

pub returns-then-text-eq0 : goal.returns-then-text-eq0
returns-then-text-eq0 c = says_nothing points c.args.text.now c.if-text-eq0.true

pub returns-then-is_scalar : goal.returns-then-is_scalar
returns-then-is_scalar c =
    first-scalar c.args.text.now (omega arith) (sym c.is_scalar.ensures ∙ c.if-is_scalar.true)

pub returns : goal.returns
returns c =
    first-other c.args.text.now (omega arith) (sym c.is_scalar.ensures ∙ c.if-is_scalar.false)
