-- The settled run that a text begins with: all before the first damage, but for a 0D that ends the text.
use mathlib.Core.Path.{◌≡◌, refl, sym, ap, subst, ◌∙◌}
use Prim.Native.Nat.{ℕ, suc, ◌+◌, ◌-◌, ◌≤◌, ◌<◌}
use mathlib.Core.Bool.{true, false, cond}
use mathlib.Core.List.{List, [], ◌∷◌, ◌++◌}
use lib.ListN.{length, take, drop, length-drop, take-append-drop}
use lib.Seq.{take_all, length-take-le}
use lib.Dec.{eqb}
use borrow.Author.Tests.{eqb-true, eqb-false}
use native.Mathlib.Omega.{arith}
use Rattle.theory.specs.Reader.{Segment, cut}
use Rattle.theory.specs.Table.{Kind}
use Rattle.theory.proofs.Cases.{split}
use Rattle.theory.proofs.BeginsAnywhere.{InFront, begins_anywhere}
use Rattle.terms.proofs.ConvertsBack.{AllWhole, whole-none}
use Rattle.utf8.specs.Bytes.{next, rows, lone_byte, bytes}
use Rattle.utf8_check.specs.Run.{whole_run}
use Rattle.utf8_check.proofs.RunDivides.{Run, run-size}
use Rattle.utf8_check.proofs.StandingIsWhole.{run_at}
use Rattle.place.specs.Lines.{waits_behind}
use Rattle.index_build.specs.Inside.Runs.{Settled, settled_run}
use Rattle.index_build.proofs.LoneReturn.{waits_one}

-- a 0D that ends the text is its last byte
waits-last : (text : List ℕ) (k : ℕ) → waits_behind (drop k text) [] ≡ true → k + 1 ≡ length text
waits-last text k w = let e = ap length (waits_one (drop k text) w) in omega (arith, e, length-drop k text)

free_before : (text : List ℕ) (n : ℕ) → waits_behind (drop n text) [] ≡ false → (k : ℕ) → k < suc n → suc n ≤ length text
    → waits_behind (drop k text) [] ≡ false
free_before text n f k h l = split (waits_behind (drop k text) [])
    (λ w.
    let e = waits-last text k w in
    let i : k ≡ n = omega arith in
    rw i f)
    (λ w. w)

settled-none : (text : List ℕ) → Settled text 0
settled-none text = record { front = []; behind = cut bytes text; divided = refl; sized = refl; whole = refl; free = λ k h. absurd (omega arith) }

module _ (text : List ℕ) (run : ℕ) (r : Run text run) (some : run ≡ 0 → ⊥) where
  last-is : suc (run - 1) ≡ run
  last-is = omega (arith, some)

  -- it does not end the text with a 0D
  settled-all : waits_behind (drop (run - 1) text) [] ≡ false → Settled text run
  settled-all f = record {
    front = cut bytes (take run text);
    behind = cut bytes (drop run text);
    divided = r.cuts;
    sized = run-size text run r;
    whole = whole-none 0 (cut bytes (take run text)) r.all;
    free = λ k h. free_before text (run - 1) f k (omega (arith, last-is)) (omega (arith, last-is, r.inside));
  }

  -- it does: the text divides in front of that
  module _ (w : waits_behind (drop (run - 1) text) [] ≡ true) where
    abbrev others : List ℕ
    others = take (run - 1) text

    ends_with : others ++ 0x0D ∷ [] ≡ text
    ends_with = rw (← waits_one (drop (run - 1) text) w) (take-append-drop (run - 1) text)

    in_front : InFront bytes text (0x0D ∷ []) (length others)
    unfolding bytes rows
    in_front = subst (λ (t : List ℕ). InFront bytes t (0x0D ∷ []) (length others)) ends_with (begins_anywhere next rows refl lone_byte 0x0D refl others [])

    all-front : (fs gs : List (Segment Kind)) → AllWhole (fs ++ gs) → AllWhole fs
    all-front [] gs a = tt
    all-front (f ∷ fs) gs a = (a.0, all-front fs gs a.1)

    settled-others : Settled text (run - 1)
    settled-others =
        let e = waits-last text (run - 1) w in
        let t : take run text ≡ text = take_all run text (omega (arith, last-is)) in
        let a : AllWhole (in_front.front ++ cut bytes (0x0D ∷ [])) = rw (t, in_front.divided) at r.all in
        record {
          front = in_front.front;
          behind = cut bytes (0x0D ∷ []);
          divided = in_front.divided;
          sized = in_front.sized ∙ length-take-le (run - 1) text (omega arith);
          whole = whole-none 0 in_front.front (all-front in_front.front (cut bytes (0x0D ∷ [])) a);
          free = λ k h. split (waits_behind (drop k text) []) (λ v. absurd (omega (arith, waits-last text k v))) (λ v. v);
        }

-- THE SETTLED RUN of a text is one
pub run_settled : (text : List ℕ) (n : ℕ) → n ≡ settled_run text → Settled text n
run_settled text n e = subst (Settled text) (sym e) (go (whole_run text) (run_at text (whole_run text) refl))
  where
    go : (run : ℕ) → Run text run → Settled text (cond (eqb run 0) run (cond (waits_behind (drop (run - 1) text) []) (run - 1) run))
    go run r = split (eqb run 0)
        (λ z. rw (z, eqb-true run 0 z) (settled-none text))
        (λ z. split (waits_behind (drop (run - 1) text) [])
        (λ w. rw (z, w) (settled-others text run r (eqb-false run 0 z) w))
        (λ w. rw (z, w) (settled-all text run r (eqb-false run 0 z) w)))
