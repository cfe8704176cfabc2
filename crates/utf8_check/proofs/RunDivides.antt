-- A run of whole segments at the start of a byte text: the text divides into its segments and those of the rest, and they are settled.
use mathlib.Core.Path.{◌≡◌, refl, sym, ap, ◌∙◌, subst}
use Prim.Native.Nat.{ℕ, suc, ◌+◌, ◌-◌, ◌≤◌, ◌<◌}
use mathlib.Core.Bool.{true, true≢false}
use mathlib.Core.List.{List, [], ◌∷◌, ◌++◌}
use lib.ListN.{length, take, drop, length-append, length-drop, take-append-drop}
use lib.Seq.{take-append-add, drop-append-add, take-append_seam, drop-append_seam, length-take-le}
use native.Mathlib.Omega.{arith}
use Rattle.theory.specs.Reader.{Look, Segment, cut, parts}
use Rattle.std.proofs.lemmas.Option.{none-some}
use Rattle.std.specs.Prelude.{Option, None, Some}
use Rattle.theory.specs.Table.{ended, Kind, whole, damage, is_damage}
use Rattle.theory.specs.Tally.{total, size, entries}
use Rattle.theory.proofs.Cases.{All}
use Rattle.theory.proofs.Divisions.{before, cut-nil, cut-cons, cut-size}
use Rattle.theory.proofs.WholeRuns.{Undamaged, run-parts}
use Rattle.terms.specs.Told.{told_first, size_of, caused, cause_told, first_says}
use Rattle.terms.specs.declared.First.{First}
use Rattle.terms.specs.declared.First.TheVariants.{Nothing, Whole, Damage, Begun}
use Rattle.terms.proofs.WalkBySegments.{part_is, seen, Turn, turn-damage, turn-begun, turn_end, Clean}
use Rattle.utf8.specs.Bytes.{bytes}
use Rattle.utf8_check.specs.Run.{start_or, whole_run}
use Rattle.utf8.proofs.RowsOfBytes.{bytes_division, whole-sure}

-- its first n bytes are whole segments by themselves, and the others divide by themselves
pub record Run (text : List ℕ) (n : ℕ) : Type 0 where
  pub inside : n ≤ length text
  pub all : All (λ s. s.tag ≡ whole) (cut bytes (take n text))
  pub cuts : cut bytes text ≡ cut bytes (take n text) ++ cut bytes (drop n text)

-- a text is empty, or begins with damage
abbrev pub Stops : List ℕ → Type 0
Stops [] = Unit {0}
Stops (x ∷ xs) = is_damage (bytes x xs).tag ≡ true

-- the look at a whole segment
abbrev pub whole_look : ℕ → Look Kind
whole_look more = record { more = more; tag = whole; sure = true }

-- ---- no segment, and one more in front

pub run_none : (text : List ℕ) → Run text 0
run_none text = record { inside = omega arith; all = rw cut-nil tt; cuts = rw cut-nil }

module _ (x : ℕ) (hs : List ℕ) (w : (ys : List ℕ) → bytes x (hs ++ ys) ≡ whole_look (length hs)) where
  cut-more : (ys : List ℕ) → cut bytes (x ∷ (hs ++ ys)) ≡ record { head = x; tail = hs; tag = whole } ∷ cut bytes ys
  cut-more ys = cut-cons bytes x (hs ++ ys) ∙ rw (w ys, take-append_seam hs ys, drop-append_seam hs ys)

  pub run_more : (ys : List ℕ) (n m : ℕ) → m ≡ suc (length hs) + n → Run ys n → Run (x ∷ (hs ++ ys)) m
  run_more ys n m e r =
      let t : take m (x ∷ (hs ++ ys)) ≡ x ∷ (hs ++ take n ys) = rw e (take-append-add (x ∷ hs) ys n) in
      let d : drop m (x ∷ (hs ++ ys)) ≡ drop n ys = rw e (drop-append-add (x ∷ hs) ys n) in
      record {
        inside = omega (arith, e, r.inside, length-append hs ys);
        all = rw (t, cut-more (take n ys)) (refl, r.all);
        cuts = cut-more ys ∙ rw (t, d, cut-more (take n ys), r.cuts);
      }

-- ---- all of it is settled, whatever follows, and then what is settled of the rest

pub whole_tags : (ss : List (Segment Kind)) → All (λ s. s.tag ≡ whole) ss → Undamaged is_damage ss
whole_tags [] a = tt
whole_tags (s ∷ ss) a = (rw a.0, whole_tags ss a.1)

module _ (text : List ℕ) (n : ℕ) (r : Run text n) where
  pub run_long : length (take n text) ≡ n
  run_long = length-take-le n text r.inside

  pub run-size : total size (cut bytes (take n text)) ≡ n
  run-size = cut-size bytes (take n text) ∙ run_long

  pub run-whole : Undamaged is_damage (cut bytes (take n text))
  run-whole = whole_tags (cut bytes (take n text)) r.all

  pub run-settles : parts bytes text ≡ before (cut bytes (take n text)) (parts bytes (drop n text))
  run-settles =
      ap (parts bytes) (sym (take-append-drop n text)) ∙ run-parts is_damage bytes whole-sure bytes_division (take n text) (drop n text) run-whole

-- ---- the run and the first damage

entries-whole : (at : ℕ) (ss rest : List (Segment Kind)) → All (λ s. s.tag ≡ whole) ss
    → entries is_damage at (ss ++ rest) ≡ entries is_damage (at + total size ss) rest
entries-whole at [] rest a = ap (λ (k : ℕ). entries is_damage k rest) (omega arith)
entries-whole at (s ∷ ss) rest a =
    rw a.0 (entries-whole (at + size s) ss rest a.1 ∙ ap (λ (k : ℕ). entries is_damage k rest) (omega arith))

module _ (text : List ℕ) (n : ℕ) (r : Run text n) where
  pub run-clean : Clean bytes text n
  run-clean =
      let e : total size (cut bytes (take n text)) ≡ n = run-size text n r in
      record {
        inside = r.inside;
        same = rw r.cuts (entries-whole 0 (cut bytes (take n text)) (cut bytes (drop n text)) r.all ∙ ap (λ (k : ℕ). entries is_damage k (cut bytes (drop n text))) (omega arith));
      }

  pub run_is : Stops (drop n text) → n ≡ whole_run text
  run_is s = rw run-clean.same (go (drop n text) refl s)
    where
      go : (rest : List ℕ) → drop n text ≡ rest → Stops rest → n ≡ start_or (entries is_damage n (cut bytes rest)) (length text)
      go [] e s = let z : length (drop n text) ≡ 0 = ap length e in rw cut-nil (omega (arith, length-drop n text, r.inside))
      go (x ∷ xs) e s = rw (cut-cons bytes x xs, s)

-- what the segment reader tells behind the run, where there is text left: the first damage
pub stop-turn : (text : List ℕ) (n : ℕ) → Stops (drop n text) → n < length text → (q : First)
    → told_first q ≡ first_says bytes (take (length text - n) (drop n text)) → Turn bytes text n (size_of q) (damage (cause_told q))
stop-turn text n s l Nothing told =
    let z : length (drop n text) ≡ 0 = ap length (turn_end bytes_division text n (omega arith) Nothing told refl) in
    absurd (omega (arith, length-drop n text))
stop-turn text n s l (Whole k) told =
    let v = seen bytes (drop n text) k whole true (rw part_is at told) in
    let t : is_damage (bytes v.head v.tail).tag ≡ true = subst Stops v.text-is s in
    absurd (true≢false (sym t ∙ ap is_damage v.kind-is))
stop-turn text n s l (Damage k c) told = turn-damage bytes_division text n (omega arith) (Damage k c) told k c refl
stop-turn text n s l (Begun k) told = turn-begun bytes_division text n (omega arith) (Begun k) told k refl

-- so it has a cause
pub stop-caused : (text : List ℕ) (n : ℕ) → Stops (drop n text) → n < length text → (q : First)
    → told_first q ≡ first_says bytes (take (length text - n) (drop n text)) → caused q ≡ None → ⊥
stop-caused text n s l Nothing told e =
    let z : length (drop n text) ≡ 0 = ap length (turn_end bytes_division text n (omega arith) Nothing told refl) in
    omega (arith, length-drop n text)
stop-caused text n s l (Whole k) told e =
    let v = seen bytes (drop n text) k whole true (rw part_is at told) in
    let t : is_damage (bytes v.head v.tail).tag ≡ true = subst Stops v.text-is s in
    true≢false (sym t ∙ ap is_damage v.kind-is)
stop-caused text n s l (Damage k c) told e = none-some c (sym e)
stop-caused text n s l (Begun k) told e = none-some (record { 0 = ended }) (sym e)
