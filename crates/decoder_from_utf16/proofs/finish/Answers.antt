-- `finish` meets its contract: the checks, and then the text ends.
use mathlib.Core.Path.{sym, ap, ◌∙◌}
use Rattle.terms.specs.Told.{told_checked}
use Rattle.decoder_shared.proofs.FinishAnswers.{finish-refused}
use Rattle.decoder_from_utf16.specs.State.{unit_decoding}
use Rattle.decoder_from_utf16.proofs.finish.Goals as goal

pub end-requires : goal.end-requires
end-requires c = sym c.admit.ensures ∙ ap told_checked c.in-Ok.is

pub returns-in-Err : goal.returns-in-Err
returns-in-Err c =
    let a = c.args in
    finish-refused unit_decoding a.state a.out.now a.list.now c.in-Err.why (sym (ap told_checked c.in-Err.is) ∙ c.admit.ensures)
