-- The walks over the settled segments of a text, by runs of whole segments and one segment behind each: the one that counts, and the
-- one in which each acts.
use mathlib.Core.Path.{◌≡◌, sym, ap, subst, ◌∙◌}
use Prim.Native.Nat.{ℕ, ◌+◌, ◌-◌, ◌*◌, ◌≤◌}
use mathlib.Core.List.{List, [], ◌∷◌, ◌++◌, foldl}
use lib.ListN.{length, take, drop, length-drop}
use native.Mathlib.Omega.{arith}
use Rattle.theory.specs.Reader.{Segment, Parts, cut, parts}
use Rattle.theory.specs.Table.{Kind, is_damage}
use Rattle.theory.specs.Tally.{total, size, Log}
use Rattle.theory.proofs.Divisions.{total_append, cut-size, parts-nil}
use Rattle.theory.proofs.WholeRuns.{run-logged}
use Rattle.terms.specs.Form.{mend}
use Rattle.terms.specs.Limits.{limit, entry_width}
use Rattle.terms.specs.declared.First.{First}
use Rattle.utf8.specs.Bytes.{bytes}
use Rattle.utf8.specs.Scalar.{utf8}
use Rattle.utf8_check.proofs.RunDivides.{Run, run_long, run-size, run-whole, run-settles}
use Rattle.utf8_check.proofs.RunsPassed.{run-repaired}
use Rattle.utf8_pending.specs.Tail.{first_settled, settled_size}
use Rattle.utf8_pending.proofs.SettledFirst.{bytes-short, settled-parts, settled-inside, settled-none}
use Rattle.decoder_shared.specs.Decoding.{numbers}
use Rattle.decoder.specs.State.{act}
use Rattle.decoder.specs.Inside.Acting.{need, places, Work, log_of, reached, Fits, Ready, acted, passed, Settles}
use Rattle.decoder.proofs.SettledPlaces.{need_append, parts_small}
use Rattle.decoder.proofs.SegmentsAct.{acted-append, acted-none, ready-front, ready-behind}
use Rattle.decoder.proofs.SettledByReader.{Told}

abbrev done : List ℕ → List (Segment Kind)
done text = (parts bytes text).done

-- ---- A TURN of a walk: in the text that it has come to, these settled segments stand next, of so many bytes and places

pub record Turn (text : List ℕ) (n places : ℕ) (next : List (Segment Kind)) : Type 0 where
  pub inside : n ≤ length text
  pub done-are : done text ≡ next ++ done (drop n text)
  pub size_is : n ≡ total size next
  pub need-is : places ≡ need next

-- the segment that the reader told of the text
module _ (text : List ℕ) {r : First} (d : Told r text) where
  pub told-turn : Turn text (settled_size r) (places r) (first_settled bytes text)
  told-turn = record {
    inside = omega (arith, d.size_is, settled-inside bytes-short text);
    done-are = ap (λ (p : Parts Kind). p.done) (settled-parts bytes-short text) ∙ rw d.size_is;
    size_is = d.size_is;
    need-is = d.places_is;
  }

  told_none : settled_size r ≡ 0 → done text ≡ []
  told_none z = ap (λ (p : Parts Kind). p.done) (settled-none bytes-short text (sym d.size_is ∙ z)).1

-- nothing is settled of the empty text
empty_none : (text : List ℕ) → length text ≡ 0 → done text ≡ []
empty_none [] e = ap (λ (p : Parts Kind). p.done) (parts-nil bytes)
empty_none (x ∷ xs) e = absurd (omega arith)

-- the segments of a run of n bytes
abbrev pub run : List ℕ → ℕ → List (Segment Kind)
run text n = cut bytes (take n text)

-- the run that was found at the start of the text
module _ (text : List ℕ) (n : ℕ) (there : Run text n) where
  pub run-turn : Turn text n n (run text n)
  run-turn = record {
    inside = there.inside;
    done-are = ap (λ (p : Parts Kind). p.done) (run-settles text n there);
    size_is = sym (run-size text n there);
    need-is = sym (ap length (run-repaired text n there) ∙ run_long text n there);
  }

  -- it is written as it is
  run-passed : (room : ℕ) (l : Log) → passed (take n text) l ≡ foldl (act room) l (run text n)
  run-passed room l =
      sym (run-logged is_damage (mend utf8) numbers entry_width room l (run text n) (run-whole text n there)
      ∙ rw (cut-size bytes (take n text), run-repaired text n there))

  -- its bytes have room where the turn has, and do what its segments do
  module _ (room : ℕ) (w : Work) where
    pub run_fits : Fits room n n w → (w.written + length (take n text) ≤ length w.out) × (w.tally.whole + length (take n text) ≤ limit)
    run_fits f = rw (run_long text n there) (f.enough, omega (arith, f.sums))

    pub run-acted : (v : Work) → v ≡ reached w.out (passed (take n text) (log_of w)) → v ≡ acted room (run text n) w
    run-acted v q = q ∙ ap (reached w.out) (run-passed room (log_of w))

-- ---- so much is counted, and the rest adds what is left

module _ (text : List ℕ) where
  pub record Counted (rest : List ℕ) (n : ℕ) : Type 0 where
    pub same : n + need (done rest) ≡ need (done text)

  pub counted_start : Counted text 0
  counted_start = record { same = omega arith }

  module _ {rest : List ℕ} {n : ℕ} (c : Counted rest n) where
    -- no more is counted than three places for each byte
    pub counted-small : n ≤ 3 * length text
    counted-small = omega (arith, c.same, parts_small text)

    pub counted_next : {k places : ℕ} {next : List (Segment Kind)} → Turn rest k places next → Counted (drop k rest) (n + places)
    counted_next {k} {places} {next} t =
        let l : need (done rest) ≡ need next + need (done (drop k rest)) = ap need t.done-are ∙ need_append next (done (drop k rest)) in
        record { same = omega (arith, c.same, l, t.need-is) }

    none_left : done rest ≡ [] → n ≡ need (done text)
    none_left e = omega (arith, c.same, ap need e)

    pub counted-end : {r : First} → Told r rest → settled_size r ≡ 0 → n ≡ need (done text)
    counted-end d z = none_left (told_none rest d z)

    pub counted-all : length rest ≡ 0 → n ≡ need (done text)
    counted-all e = none_left (empty_none rest e)

-- ---- some segments of a text act, and then those of the rest

module _ (room : ℕ) (text : List ℕ) (w : Work) (ready : Ready room (done text) w) where
  module _ {n places : ℕ} {next : List (Segment Kind)} (t : Turn text n places next) where
    abbrev rest : List (Segment Kind)
    rest = done (drop n text)

    -- what is enough for all is enough for them, and then for the rest
    ready-both : Ready room (next ++ rest) w
    ready-both = subst (λ (ss : List (Segment Kind)). Ready room ss w) t.done-are ready

    pub turn-ready : Fits room places n w
    turn-ready = rw (t.size_is, t.need-is) (ready-front room next rest w ready-both)

    module _ (v : Work) (e : v ≡ acted room next w) where
      pub rest-ready : Ready room rest v
      rest-ready = rw e (ready-behind room next rest w ready-both)

      pub rest-settles : (u : Work) (k : ℕ) → Settles room (drop n text) v u k → Settles room text w u (n + k)
      rest-settles u k s = record {
        same = s.same ∙ rw e (acted-append room next rest w) ∙ ap (λ (ss : List (Segment Kind)). acted room ss w) (sym t.done-are);
        bytes-are = omega (arith, s.bytes-are, t.size_is, ap (total size) t.done-are, total_append size next rest);
      }

  -- nothing is settled, and nothing is done
  none-settled : done text ≡ [] → Settles room text w w 0
  none-settled e = record {
    same = acted-none room w (omega (arith, ready.enough)) ∙ ap (λ (ss : List (Segment Kind)). acted room ss w) (sym e);
    bytes-are = ap (total size) (sym e);
  }

  pub empty_settled : length text ≡ 0 → Settles room text w w 0
  empty_settled e = none-settled (empty_none text e)

  told-settled : {r : First} → Told r text → settled_size r ≡ 0 → Settles room text w w 0
  told-settled d z = none-settled (told_none text d z)

-- ---- A WALK: so many bytes of a text have acted, and what the rest does is what is left to do

module _ (room : ℕ) (text : List ℕ) (w₀ : Work) where
  pub record Walked (rest : List ℕ) (w : Work) : Type 0 where
    pub past : ℕ
    pub long-is : length text ≡ past + length rest
    pub ready : Ready room (done rest) w
    pub goes_on : (v : Work) (k : ℕ) → Settles room rest w v k → Settles room text w₀ v (past + k)

  pub walked_start : Ready room (done text) w₀ → Walked text w₀
  walked_start ready = record { past = 0; long-is = omega arith; ready = ready; goes_on = λ v k s. subst (Settles room text w₀ v) (omega arith) s }

  module _ {rest : List ℕ} {w : Work} (a : Walked rest w) where
    pub walked_next : {n places : ℕ} {next : List (Segment Kind)} → Turn rest n places next → (v : Work) → v ≡ acted room next w → Walked (drop n rest) v
    walked_next {n} t v e = record {
      past = a.past + n;
      long-is = omega (arith, a.long-is, t.inside, length-drop n rest);
      ready = rest-ready room rest w a.ready t v e;
      goes_on = λ u k s.
          subst (Settles room text w₀ u) (omega arith) (a.goes_on u (n + k) (rest-settles room rest w a.ready t v e u k s));
    }

    pub walked_end : {r : First} → Told r rest → settled_size r ≡ 0 → Settles room text w₀ w (length text - length rest)
    walked_end d z =
        let e : a.past + 0 ≡ length text - length rest = omega (arith, a.long-is) in
        subst (Settles room text w₀ w) e (a.goes_on w 0 (told-settled room rest w a.ready d z))
