-- The decoder of bytes is lawful: so the cutting of a text does not matter, and the state always passes its tests.
use mathlib.Core.Path.{◌≡◌}
use Prim.Native.Nat.{ℕ, ◌≤◌}
use mathlib.Core.Bool.{true}
use mathlib.Core.List.{List}
use Rattle.theory.specs.Reader.{pending}
use Rattle.theory.specs.Stream.{join}
use Rattle.theory.proofs.Divisions.{parts-pending}
use Rattle.terms.specs.Limits.{most_room, most_damaged}
use Rattle.utf8.specs.Bytes.{bytes}
use Rattle.utf8.proofs.RowsOfBytes.{bytes_division, damage_short}
use Rattle.utf8_pending.proofs.SettledFirst.{bytes-short, left-kept, left-tail}
use Rattle.decoder_shared.specs.Decoding.{Standing}
use Rattle.decoder_shared.specs.Course.{Call}
use Rattle.decoder_shared.proofs.Lawful.{Balanced, Lawful}
use Rattle.decoder_shared.proofs.AnyCutting as any
use Rattle.decoder.specs.State.{sound, byte_decoding}
use Rattle.decoder.specs.Course.{fed_all, Holds, FedAsWhole}
use Rattle.decoder.proofs.TestsAsFacts.{is_sound}

-- the places of a state keep what is pending
bytes-kept : (s : Standing) → pending bytes s.left ≡ true → byte_decoding.stands (byte_decoding.state s) ≡ s
bytes-kept s p =
    let e = left-kept bytes-short s.left in
    rw (rw (parts-pending bytes s.left p) at e)

bytes-pass : (s : Standing) → Balanced bytes most_damaged s → sound (byte_decoding.state s) ≡ true
bytes-pass s b = is_sound (byte_decoding.state s) (record {
  tail = rw (parts-pending bytes s.left b.begins) at (left-tail bytes-short s.left);
  numbers = record { sum = b.sum; within = b.within; low = b.low; high = b.high; roomy = b.roomy };
})

pub bytes_lawful : Lawful byte_decoding
bytes_lawful = record { hold = most_damaged; division = bytes_division; short = damage_short; kept = bytes-kept; passes = bytes-pass }

-- AFTER EVERY CALL the state is the one of the joined text, and passes its tests
pub course_holds : (room : ℕ) (row : List ℕ) → room ≤ most_room → (calls : List Call)
    → let r = fed_all room row calls in Holds room row (join r.pieces) r.caller
course_holds = any.course_holds byte_decoding bytes_lawful

-- AND AT THE END there are the repaired form, the first entries and the totals of the joined text
pub fed_as_whole : FedAsWhole
fed_as_whole = any.fed_as_whole byte_decoding bytes_lawful
