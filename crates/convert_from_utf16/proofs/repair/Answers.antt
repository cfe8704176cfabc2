-- Repair is conversion into the same form.
use Rattle.terms.proofs.ConvertsBack.{repaired-converted}
use Rattle.utf16.proofs.FaithfulForm.{utf16-faithful}
use Rattle.convert_from_utf16.proofs.repair.Goals as goal

pub returns : goal.returns
returns c = rw (repaired-converted utf16-faithful.reads c.args.text.now) c.repair.ensures
