-- The checks that every decoder has, with this one's tests.
use Rattle.decoder_from_utf16.proofs.admit.Goals as goal

pub returns : goal.returns
returns c = rw (c.admit.ensures, c.is_sound.ensures)
