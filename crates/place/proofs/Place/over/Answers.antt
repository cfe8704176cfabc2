-- The limit is less than the sum, which is not computed.
use Rattle.std.proofs.Common.{◌≡◌, ℕ, ◌+◌, ◌-◌, ◌≤◌, ltb, arith, le-ltb, lt-ltb}
use Rattle.theory.proofs.Cases.{under}
use Rattle.terms.specs.Limits.{limit}
use Rattle.place.proofs.Place.over.Goals as goal

-- what is left to the limit is less than what comes
left-is-less : (n more : ℕ) → n ≤ limit → ltb (limit - n) more ≡ ltb limit (n + more)
left-is-less n more h =
    under limit (n + more)
    (λ l. rw (lt-ltb limit (n + more) l, lt-ltb (limit - n) more (omega arith)))
    (λ l. rw (le-ltb limit (n + more) l, le-ltb (limit - n) more (omega arith)))

pub returns-then-self-gt-LIMIT : goal.returns-then-self-gt-LIMIT
returns-then-self-gt-LIMIT c =
    let a = c.args in
    rw (lt-ltb limit a.self.bytes c.if-self-gt-LIMIT.true, lt-ltb limit (a.self.bytes + a.more) (omega arith))

pub returns-else-self-gt-LIMIT : goal.returns-else-self-gt-LIMIT
returns-else-self-gt-LIMIT c =
    let a = c.args in
    left-is-less a.self.bytes a.more c.if-self-gt-LIMIT.false
