-- The room that is enough: the most places that a feed of so many elements can need.
use Rattle.std.specs.Prelude.{ℕ, suc, ◌*◌, cond, length, ltb}
use Rattle.terms.specs.Form.{Form, replacement}
use Rattle.terms.specs.Limits.{limit}

-- U+FFFD for each element, and once for what is pending; a piece over the limit is refused, so no more than the limit counts
abbrev pub most_fed : Form → ℕ → ℕ
most_fed to n = length (to.write replacement) * suc (cond (ltb limit n) limit n)
