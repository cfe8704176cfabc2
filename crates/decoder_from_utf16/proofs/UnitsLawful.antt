-- The decoder of units is lawful: its reader divides, a state keeps what it stands for, and what balances passes the tests.
use mathlib.Core.Path.{◌≡◌, refl, sym, ap, ◌∙◌}
use Prim.Native.Nat.{ℕ, ◌≤◌}
use mathlib.Core.Bool.{true, false, true≢false}
use mathlib.Core.List.{List, [], ◌∷◌, ◌++◌}
use lib.ListN.{length, take}
use borrow.Author.Tests.{not-true, le-leb}
use native.Mathlib.Omega.{arith}
use Rattle.theory.specs.Reader.{pending}
use Rattle.theory.specs.Table.{◌to◌, within}
use Rattle.theory.proofs.Cases.{split}
use Rattle.theory.proofs.Divisions.{pending-short}
use Rattle.terms.specs.Limits.{most_room}
use Rattle.utf16.specs.Units.{rows, units}
use Rattle.utf16.proofs.RowsOfUnits.{units_division, damage_one}
use Rattle.decoder_shared.specs.Decoding.{Standing}
use Rattle.decoder_shared.proofs.Lawful.{Balanced, Lawful}
use Rattle.decoder_from_utf16.specs.Tests.{is_half, is_tail}
use Rattle.decoder_from_utf16.specs.State.{unit_decoding}
use Rattle.decoder_from_utf16.specs.declared.UnitDecoder.{UnitDecoder}
use Rattle.decoder_from_utf16.proofs.TestsAsFacts.{balanced-room, sound-rest}
use Rattle.decoder_from_utf16.proofs.SettledUnits.{units-hold}

-- what is pending is one unit at most
short : (left : List ℕ) → pending units left ≡ true → length left ≤ 1
short = pending-short units_division 1 units-hold

-- and a first half: every other unit is settled by itself
half_of : (x : ℕ) → (units x []).sure ≡ false → is_half x ≡ true
unfolding units rows
half_of x e = split (is_half x)
    (λ h. h)
    (λ h. split (within (0 to 0xD7FF) x)
    (λ a. absurd (true≢false (rw a at e)))
    (λ a. split (within (0xE000 to 0xFFFF) x)
    (λ b. absurd (true≢false (rw (a, h, b) at e)))
    (λ b. absurd (true≢false (rw (a, h, b) at e)))))

tail_of : (left : List ℕ) → pending units left ≡ true → is_tail (take 1 (left ++ 0 ∷ [])) (length left) ≡ true
tail_of [] p = refl
tail_of (x ∷ []) p = half_of x (not-true (units x []).sure p)
tail_of (x ∷ y ∷ ys) p = absurd (omega (arith, short (x ∷ y ∷ ys) p))

left-kept : (left : List ℕ) → pending units left ≡ true → take (length left) (take 1 (left ++ 0 ∷ [])) ≡ left
left-kept [] p = refl
left-kept (x ∷ []) p = refl
left-kept (x ∷ y ∷ ys) p = absurd (omega (arith, short (x ∷ y ∷ ys) p))

passes : (s : Standing) → Balanced units 1 s → unit_decoding.sound (unit_decoding.state s) ≡ true
passes s b =
    let d : UnitDecoder = unit_decoding.state s in
    let ones : s.count ≡ s.damaged = omega (arith, b.low, b.high) in
    sym (sound-rest d (tail_of s.left b.begins))
    ∙ sym (balanced-room d b.sum b.within ones)
    ∙ le-leb s.room most_room b.roomy

pub units_lawful : Lawful unit_decoding
units_lawful = record {
  hold = 1;
  division = units_division;
  short = λ x xs e. omega (arith, damage_one x xs e);
  kept = λ s p. ap (λ (left : List ℕ). record {
    left = left;
    taken = s.taken;
    whole = s.whole;
    damaged = s.damaged;
    count = s.count;
    room = s.room;
  }) (left-kept s.left p);
  passes = passes;
}
