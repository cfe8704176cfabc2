-- The walk over a text of units: a run of units that stand alone, and the segment behind it that the reader told.
use mathlib.Core.Path.{◌≡◌, refl, sym, ap, ◌∙◌}
use Prim.Native.Nat.{ℕ, ◌+◌, ◌-◌, ◌≤◌, ◌<◌}
use native.Mathlib.Nat.{add-zero}
use mathlib.Core.Bool.{true}
use mathlib.Core.List.{List, [], ◌∷◌, map, append-nil}
use lib.ListN.{length, take, drop, length-drop}
use lib.Seq.{take-add, drop-drop}
use native.Mathlib.Omega.{arith}
use Rattle.theory.specs.Reader.{first, cut}
use Rattle.theory.specs.Table.{Kind, whole, damage, is_damage}
use Rattle.theory.specs.Tally.{total, size, Log}
use Rattle.theory.proofs.Divisions.{first-size, cut-nil}
use Rattle.theory.proofs.WholeRuns.{Undamaged}
use Rattle.terms.specs.Limits.{limit}
use Rattle.terms.specs.Told.{number_of, told_first, first_says}
use Rattle.terms.specs.declared.Cause.{Cause}
use Rattle.terms.specs.declared.First.{First}
use Rattle.terms.specs.declared.First.TheVariants.{Nothing, Whole, Damage, Begun}
use Rattle.terms.proofs.WalkBySegments.{part_is, Seen, seen}
use Rattle.utf16.specs.Units.{units}
use Rattle.utf16.specs.Alone.{all_alone}
use Rattle.utf16.proofs.RowsOfUnits.{units_division, whole-sure}
use Rattle.utf16.proofs.AloneDivides.{alone_append, single, cut-alone}
use Rattle.decoder_shared.specs.Inside.Steps.{Fits, Settles, passed, struck, tallied_as}
use Rattle.decoder_shared.proofs.TalliedWalk.{first_of, Walked, walked-run, run_fits, walked-told, walked_end, told-nothing, told-begun}

-- ---- units that stand alone

-- a block behind a run of them
pub alone_on : (text : List ℕ) (at n : ℕ) → all_alone (take at text) ≡ true → all_alone (take n (drop at text)) ≡ true → all_alone (take (at + n) text) ≡ true
alone_on text at n a b = rw (take-add at n text, alone_append, a, b)

-- a walk over blocks of them has a part left
pub record Alone (text part : List ℕ) : Type 0 where
  pub at : ℕ
  pub inside : at ≤ length text
  pub short : length part ≤ length text
  pub part-is : part ≡ drop at text
  pub alone : all_alone (take at text) ≡ true

pub alone_start : (text : List ℕ) → Alone text text
alone_start text = record { at = 0; inside = omega arith; short = omega arith; part-is = refl; alone = refl }

module _ (text part : List ℕ) (r : Alone text part) where
  long-is : length part ≡ length text - r.at
  long-is = ap length r.part-is ∙ length-drop r.at text

  -- a block more
  pub alone-next : (n : ℕ) → n ≤ length part → all_alone (take n part) ≡ true → Alone text (drop n part)
  alone-next n h a = record {
    at = r.at + n;
    inside = omega (arith, r.inside, h, long-is);
    short = omega (arith, r.short, length-drop n part);
    part-is = ap (drop n) r.part-is ∙ drop-drop n r.at text;
    alone = alone_on text r.at n r.alone (rw r.part-is at a);
  }

  -- so many stand alone in front of it
  pub alone-found : (length text - length part ≤ length text) × (all_alone (take (length text - length part) text) ≡ true)
  alone-found =
      let e : r.at ≡ length text - length part = omega (arith, r.inside, long-is) in
      (omega arith, rw e at r.alone)

singles_undamaged : (xs : List ℕ) → Undamaged is_damage (map single xs)
singles_undamaged [] = tt
singles_undamaged (x ∷ xs) = (refl, singles_undamaged xs)

-- they divide into whole segments
pub alone_undamaged : (xs : List ℕ) → all_alone xs ≡ true → Undamaged is_damage (cut units xs)
alone_undamaged xs e =
    let c : cut units xs ≡ map single xs
    = ap (cut units) (sym (append-nil xs)) ∙ cut-alone xs [] e ∙ rw (cut-nil units) (append-nil (map single xs)) in
    rw c (singles_undamaged xs)

-- ---- a turn of the walk

module _ (room : ℕ) (text : List ℕ) (l₀ : Log) {at : ℕ} {l : Log} (w : Walked units_division room text l₀ at l) where
  -- a run, as it was found in `&text[at..]`
  module _ (n : ℕ) (h : n ≤ length (take (length text - at) (drop at text))) where
    inside : n ≤ length (drop at text)
    inside = rw (part_is text at) at h

    pub run_room : (at + n ≤ length text) × (l.whole + n ≤ limit)
    run_room = (omega (arith, inside, w.inside, length-drop at text), run_fits units_division room text l₀ w n inside)

    pub run-next : all_alone (take n (take (length text - at) (drop at text))) ≡ true → (m : Log) → m ≡ passed n l
        → Walked units_division room text l₀ (at + n) m
    run-next a = walked-run units_division room text l₀ w whole-sure n inside (alone_undamaged (take n (drop at text)) (rw (part_is text at) at a))

  -- a settled segment, as the reader told it of `&text[at..]`
  pub record Next (n : ℕ) (did : Log) : Type 0 where
    pub some : 0 < n
    pub inside_is : at + n ≤ length text
    pub fits : Fits room n l
    pub walks : (m : Log) → m ≡ did → Walked units_division room text l₀ (at + n) m

  module _ (r : First) (told : told_first r ≡ first_says units (take (length text - at) (drop at text))) where
    told-as : (q : First) → r ≡ q → told_first q ≡ first_says units (drop at text)
    told-as q e = ap told_first (sym e) ∙ rw (part_is text at) at told

    next_of : (q : First) (n : ℕ) (kind : Kind) → told_first q ≡ first_says units (drop at text) → Seen units (drop at text) n kind true
        → Next n (tallied_as room q l)
    next_of q n kind e s =
        let x = s.head in
        let xs = s.tail in
        let f : first_of units (drop at text) ≡ first units x xs ∷ [] = rw (s.text-is, s.sure-is) in
        let z : total size (first_of units (drop at text)) ≡ n
        = ap (total size) f ∙ add-zero (size (first units x xs)) ∙ first-size units_division x xs ∙ sym s.long-is in
        let k : n ≤ length (drop at text) = rw s.text-is (omega (arith, s.long-is, units_division.fits x xs)) in
        record {
          some = omega (arith, s.long-is);
          inside_is = omega (arith, k, w.inside, length-drop at text);
          fits = record { row = w.fits.row; sums = omega (arith, k, w.fits.sums); counts = w.fits.counts };
          walks = λ m t. rw z at (walked-told units_division room text l₀ w q e m t);
        }

    pub next-whole : (n : ℕ) → r ≡ Whole n → Next n (passed n l)
    next-whole n e = let t = told-as (Whole n) e in next_of (Whole n) n whole t (seen units (drop at text) n whole true t)

    pub next-damage : (n : ℕ) (c : Cause) → r ≡ Damage n c → Next n (struck room n (number_of c) l)
    next-damage n c e =
        let t = told-as (Damage n c) e in
        next_of (Damage n c) n (damage (number_of c)) t (seen units (drop at text) n (damage (number_of c)) true t)

    -- the walk ends where nothing more is settled
    pub end-nothing : r ≡ Nothing → Settles units room text l₀ l at
    end-nothing e = walked_end units_division room text l₀ w (told-nothing units_division (drop at text) (told-as Nothing e))

    pub end-begun : (n : ℕ) → r ≡ Begun n → Settles units room text l₀ l at
    end-begun n e = walked_end units_division room text l₀ w (told-begun units_division (drop at text) n (told-as (Begun n) e))
