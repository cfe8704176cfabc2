-- The walk in which all that is settled of a byte text is tallied: the segment that the reader told of what is left, and a run behind it.
use mathlib.Core.Path.{◌≡◌, refl, sym, ap, subst, ◌∙◌}
use Prim.Native.Nat.{ℕ, ◌+◌, ◌-◌, ◌≤◌}
use mathlib.Core.List.{List, [], ◌∷◌}
use lib.ListN.{length, drop, length-drop}
use lib.Seq.{drop-drop}
use native.Mathlib.Omega.{arith}
use Rattle.theory.specs.Tally.{Log}
use Rattle.theory.proofs.Divisions.{parts-nil}
use Rattle.terms.specs.Limits.{limit}
use Rattle.terms.specs.Told.{told_first, first_says, size_of}
use Rattle.terms.specs.declared.First.{First}
use Rattle.utf8.specs.Bytes.{bytes}
use Rattle.utf8.proofs.RowsOfBytes.{bytes_division, whole-sure}
use Rattle.utf8_check.proofs.RunDivides.{Run, run-whole}
use Rattle.utf8_pending.specs.Tail.{settled_size}
use Rattle.decoder_shared.specs.Inside.Steps.{Fits, Settles, passed, tallied_as}
use Rattle.decoder_shared.proofs.TalliedWalk.{Walked, walked_start, walked-run, run_fits, walked-told, walked_end}
use Rattle.decoder_to_utf16.proofs.FirstSettled.{first-size, first-none, told-inside}

-- nothing is settled of the empty text
pub empty_settled : (room : ℕ) (text : List ℕ) → length text ≡ 0 → (l : Log) → Settles bytes room text l l 0
empty_settled room [] e l = record { same = rw (parts-nil bytes); size_is = rw (parts-nil bytes) }
empty_settled room (x ∷ xs) e l = absurd (omega arith)

module _ (room : ℕ) (text : List ℕ) (l₀ : Log) where
  -- what is left of the text, where so much of it is tallied
  pub record Left (rest : List ℕ) (l : Log) : Type 0 where
    pub at : ℕ
    pub rest-is : rest ≡ drop at text
    pub walked : Walked bytes_division room text l₀ at l

  pub left-start : Fits room (length text) l₀ → l₀.out ≡ [] → Left text l₀
  left-start f e = record { at = 0; rest-is = refl; walked = walked_start bytes_division room text l₀ f e }

  module _ {rest : List ℕ} {l : Log} (w : Left rest l) where
    long-is : length text ≡ w.at + length rest
    long-is = omega (arith, w.walked.inside, ap length w.rest-is, length-drop w.at text)

    pub left-inside : length rest ≤ length text
    left-inside = omega (arith, long-is)

    -- what is left has room, and what it gives is what the text gives
    pub left-fits : Fits room (length rest) l
    left-fits = rw w.rest-is w.walked.fits

    pub left-settles : (n : ℕ) → length text ≡ n + length rest → (m : Log) (k : ℕ) → Settles bytes room rest l m k → Settles bytes room text l₀ m (n + k)
    left-settles n e m k s =
        let v : Settles bytes room (drop w.at text) l m k = rw w.rest-is at s in
        let same : w.at + k ≡ n + k = omega (arith, long-is) in
        subst (Settles bytes room text l₀ m) same (record {
          same = v.same ∙ sym w.walked.same;
          size_is = omega (arith, v.size_is, w.walked.size_is);
        })

    -- the segment that the reader told of it
    module _ (r : First) (e : told_first r ≡ first_says bytes rest) where
      told_at : told_first r ≡ first_says bytes (drop w.at text)
      told_at = e ∙ ap (first_says bytes) w.rest-is

      pub told-fits : Fits room (size_of r) l
      told-fits = record { row = left-fits.row; sums = omega (arith, left-fits.sums, told-inside r rest e); counts = left-fits.counts }

      pub told-next : (m : Log) → m ≡ tallied_as room r l → Left (drop (settled_size r) rest) m
      told-next m q = record {
        at = w.at + settled_size r;
        rest-is = ap (drop (settled_size r)) w.rest-is ∙ drop-drop (settled_size r) w.at text;
        walked = rw (first-size r (drop w.at text) told_at) (walked-told bytes_division room text l₀ w.walked r told_at m q);
      }

      -- nothing more is settled
      pub told-end : settled_size r ≡ 0 → Settles bytes room text l₀ l (length text - length rest)
      told-end z =
          let k : w.at ≡ length text - length rest = omega (arith, long-is) in
          subst (Settles bytes room text l₀ l) k (walked_end bytes_division room text l₀ w.walked (first-none r (drop w.at text) told_at z))

    -- a run of whole segments
    module _ (n : ℕ) (there : Run rest n) where
      run_at : Run (drop w.at text) n
      run_at = subst (λ (xs : List ℕ). Run xs n) w.rest-is there

      pub run_room : l.whole + n ≤ limit
      run_room = run_fits bytes_division room text l₀ w.walked n run_at.inside

      pub run-next : (m : Log) → m ≡ passed n l → Left (drop n rest) m
      run-next m q = record {
        at = w.at + n;
        rest-is = ap (drop n) w.rest-is ∙ drop-drop n w.at text;
        walked = walked-run bytes_division room text l₀ w.walked whole-sure n run_at.inside (run-whole (drop w.at text) n run_at) m q;
      }
