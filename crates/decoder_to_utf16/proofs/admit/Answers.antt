-- `admit` meets its contract: the checks of all decoders, of the tests of this state.
use Rattle.decoder_to_utf16.proofs.admit.Goals as goal

pub returns : goal.returns
returns c = rw c.is_sound.ensures at c.admit.ensures
