-- A text of one segment or none, and what is settled of a text behind it, over any decoder: there is room for their tally, they are
-- converted as two texts, and what a feed then answers.
use mathlib.Core.Path.{◌≡◌, refl, sym, ap, subst, ◌∙◌}
use Prim.Native.Nat.{ℕ, ◌+◌, ◌-◌, ◌≤◌}
use mathlib.Core.List.{List, [], ◌∷◌, ◌++◌}
use lib.ListN.{length, take, drop}
use lib.Seq.{drop_at}
use native.Mathlib.Omega.{arith}
use Rattle.theory.specs.Reader.{Reader, Segment, body, cut, parts}
use Rattle.theory.specs.Table.{Kind}
use Rattle.theory.specs.Tally.{written, total, size, Log}
use Rattle.theory.proofs.Divisions.{Division, written-append, length-written, parts-text, parts-size}
use Rattle.terms.specs.Told.{told_refusal, size_of}
use Rattle.terms.specs.Writing.{roomed, Writes}
use Rattle.terms.specs.declared.First.{First}
use Rattle.terms.specs.declared.Refusal.{Refusal}
use Rattle.std.specs.Prelude.{Result, Ok, Err}
use Rattle.terms.proofs.WalkBySegments.{part_is}
use Rattle.decoder_shared.specs.Decoding.{Decoding}
use Rattle.decoder_shared.specs.Inside.Steps.{counted, tallied, told_of, tallied_as, Fits, Settles, Rests, behind, Answers}
use Rattle.decoder_shared.proofs.TalliedWalk.{tallied-fits}
use Rattle.decoder_shared.proofs.FeedAnswers.{rests-fits, rests-dry, dry-list, answers-refused, answers-granted}
use Rattle.decoder_shared.proofs.SettledIsCut.{Cuttable, Causeless, settled-cut}

-- ---- so many elements of a text are settled

module _ (look : Reader Kind) (text : List ℕ) where
  pub settled-inside : total size (parts look text).done ≤ length text
  settled-inside = omega (arith, parts-size look text)

  -- what is left stands behind them
  pub settled-left : drop (total size (parts look text).done) text ≡ (parts look text).left
  settled-left =
      let done = (parts look text).done in
      ap (drop (total size done)) (sym (parts-text look text))
      ∙ drop_at (written body done) (parts look text).left (total size done) (length-written body done)

module _ {S : Type 0} (D : Decoding S) (divides : Division D.look) (cuttable : Cuttable D.look) (causeless : Causeless D.write)
    (d : S) (seg : First) (head rest list : List ℕ) (p : Rests D d seg head rest list) where
  abbrev room : ℕ
  room = (D.stands d).room

  abbrev begun : List ℕ → Log
  begun row = counted (D.stands d).whole (D.stands d).damaged (D.stands d).count row

  abbrev settled : List (Segment Kind)
  settled = (parts D.look rest).done

  -- ---- both have room, in the list or without it

  both-fit : (n : ℕ) → Fits n (size_of seg + length rest) (begun list)
      → Fits n (size_of seg) (begun list) × Fits n (length rest) (tallied_as n seg (begun list))
  both-fit n f =
      let k : total size (told_of seg head) ≡ size_of seg = p.all_told ∙ sym p.size_is in
      let g : Fits n (total size (told_of seg head) + length rest) (begun list) = rw k f in (
        record { row = f.row; sums = omega (arith, f.sums); counts = f.counts },
        rw (p.tells n (begun list) refl) (tallied-fits n (begun list) (told_of seg head) (length rest) g),
      )

  pub dry-fit : Fits 0 (size_of seg) (begun list) × Fits 0 (length rest) (tallied_as 0 seg (begun list))
  dry-fit = both-fit 0 (rests-dry D d seg head rest list p)

  -- ---- they have been tallied without room

  module _ (m : Log) (n : ℕ) (s : Settles D.look 0 rest (tallied_as 0 seg (begun list)) m n) where
    -- the list is as it was
    same-list : m.list ≡ list
    same-list = ap (λ (l : Log). l.list) s.same ∙ dry-list D d seg head rest list p

    -- and now they may be entered
    abbrev Enterable : List ℕ → Type 0
    Enterable row =
        Fits room (size_of seg) (begun row)
        × Fits room (length rest) (tallied_as room seg (begun row))
        × (m.count ≡ (tallied 0 (tallied_as 0 seg (begun row)) settled).count)

    pub enterable : Enterable m.list
    enterable =
        let f = both-fit room (rests-fits D d seg head rest list p) in
        subst Enterable (sym same-list) (f.0, f.1, ap (λ (l : Log). l.count) s.same)

    -- what both are written as, each a text of its own
    abbrev form : List ℕ
    form = written D.write (cut D.look head) ++ written D.write (cut D.look (take n rest))

    form-is : form ≡ written D.write (told_of seg head ++ settled)
    form-is =
        rw (s.size_is, settled-cut divides cuttable D.write causeless rest, p.writes)
        (sym (written-append D.write (told_of seg head) settled))

    module _ (taken : ℕ) (out out' : List ℕ) (r : Result ℕ Refusal) (w : Writes (roomed (length out) form) form out out' r) where
      abbrev Answered : List ℕ → List ℕ → S → Type 0
      Answered = Answers D d taken (behind D d (told_of seg head ++ settled) (parts D.look rest).left list) out list out'

      -- there was no room
      pub both-refused : (why : Refusal) → r ≡ Err why → Answered m.list (told_refusal why) d
      both-refused why e = rw same-list (answers-refused D d seg head rest list p taken form out out' form-is why (rw e at w))

      -- they are written and entered, and what is left is kept
      pub both-granted : (k : ℕ) → r ≡ Ok k
          → (list'' : List ℕ) → list'' ≡ (tallied room (tallied_as room seg (begun m.list)) settled).list
          → (next : S) → next ≡ D.state (record {
            left = take (length rest - n) (drop n rest);
            taken = taken;
            whole = m.whole;
            damaged = m.damaged;
            count = m.count;
            room = room;
          })
          → Answered list'' (0 ∷ k ∷ []) next
      both-granted k e list'' f next g =
          let left_is : take (length rest - n) (drop n rest) ≡ (parts D.look rest).left
          = part_is rest n ∙ rw s.size_is (settled-left D.look rest) in
          answers-granted D d seg head rest list p taken form out out' form-is k (rw e at w) m s.same list'' (rw same-list at f) next (rw left_is at g)
