-- The feeds of a text's pieces, each tried in a few places first, go the course of such calls, cut by cut.
use mathlib.Core.Path.{◌≡◌, sym, ap, subst, ◌∙◌}
use Prim.Native.Nat.{ℕ, ◌+◌, ◌≤◌, ◌<◌}
use native.Mathlib.Numerals.{add-one}
use mathlib.Core.Bool.{true}
use mathlib.Core.List.{List, [], ◌∷◌, ◌++◌, append_assoc, append-nil, foldl}
use lib.ListN.{length, get_or, take}
use lib.Seq.{take-suc, take_all}
use native.Mathlib.Omega.{arith}
use Rattle.theory.specs.Course.{course}
use Rattle.theory.specs.Stream.{join}
use Rattle.theory.specs.Tally.{written}
use Rattle.theory.proofs.Divisions.{written-append}
use Rattle.terms.specs.Limits.{limit, most_room}
use Rattle.decoder_shared.specs.Decoding.{Decoding}
use Rattle.decoder_shared.proofs.Lawful.{Lawful}
use Rattle.demand_feeding.specs.Feeds.{Held, Call, call, feed_of, starting, Given, through, tries, pieces}
use Rattle.demand_feeding.specs.Pieces.{form_of}
use Rattle.demand_feeding.specs.Comparing.{enough}
use Rattle.demand_feeding.specs.Inside.Feeding.{fed_one, fed_tries}
use Rattle.demand_feeding.proofs.GrantedExactly.{granted-exactly}
use Rattle.demand_feeding.proofs.CuttingDoesNotMatter.{Bounded, Keeps, behind, behind-one, keeps, keeps-holds}

module _ {S : Type 0} (D : Decoding S) (room : ℕ) (row text out : List ℕ) where
  -- after any feeds all is within its bounds, and the state passes its tests
  module _ (calls : List Call) (h : Held S) (e : h ≡ behind D room row text out calls) where
    kept : Keeps D room row text out (join (course (feed_of D text) (starting D room out row) calls).pieces) h
    kept = subst (Keeps D room row text out _) (sym e) (keeps D room row text out calls)

    pub behind-bounded : Bounded text h
    behind-bounded = kept.bounded

    pub behind-sound : Lawful D → room ≤ most_room → D.sound h.state ≡ true
    behind-sound L roomy = (keeps-holds D room row text out L roomy _ h kept).tests

  -- more feeds, one after another
  behind_more : (calls more : List Call) → behind D room row text out (calls ++ more) ≡ foldl (fed_one D text) (behind D room row text out calls) more
  behind_more calls [] = ap (behind D room row text out) (append-nil calls)
  behind_more calls (c ∷ more) =
      ap (behind D room row text out) (sym (append_assoc calls (c ∷ []) more))
      ∙ behind_more (calls ++ c ∷ []) more
      ∙ ap (λ (h : Held S). foldl (fed_one D text) h more) (behind-one D room row text out calls c)

  module _ (few : List ℕ) where
    abbrev calls_of : List ℕ → List Call
    calls_of = written (tries few (length out))

    more-calls : (cs : List ℕ) (cut : ℕ) → calls_of (cs ++ cut ∷ []) ≡ calls_of cs ++ tries few (length out) cut
    more-calls cs cut =
        written-append (tries few (length out)) cs (cut ∷ [])
        ∙ ap (λ (calls : List Call). calls_of cs ++ calls) (append-nil (tries few (length out) cut))

    -- a piece more
    behind-piece : (cs : List ℕ) (cut : ℕ)
        → behind D room row text out (calls_of (cs ++ cut ∷ [])) ≡ fed_tries D text (behind D room row text out (calls_of cs)) cut few
    behind-piece cs cut =
        let h : Held S = behind D room row text out (calls_of cs) in
        ap (behind D room row text out) (more-calls cs cut)
        ∙ behind_more (calls_of cs) (tries few (length out) cut)
        ∙ ap (λ (n : ℕ). foldl (fed_one D text) h (tries few n cut)) (sym (keeps D room row text out (calls_of cs)).long)

    module _ (cuts : List ℕ) where
      -- the pieces before cut i are fed
      pub record Cutting (h : Held S) (i : ℕ) : Type 0 where
        pub within : i ≤ length cuts
        pub goes : h ≡ behind D room row text out (calls_of (take i cuts))

      pub cutting-start : (h : Held S) → h ≡ starting D room out row → Cutting h 0
      cutting-start h e = record { within = omega arith; goes = e }

      module _ (h : Held S) (i : ℕ) (c : Cutting h i) where
        pub cutting-bounded : Bounded text h
        cutting-bounded = behind-bounded (calls_of (take i cuts)) h c.goes

        pub cutting-sound : Lawful D → room ≤ most_room → D.sound h.state ≡ true
        cutting-sound = behind-sound (calls_of (take i cuts)) h c.goes

        on : (cut : ℕ) (more : Held S) → more ≡ fed_tries D text h cut few → more ≡ behind D room row text out (calls_of (take i cuts ++ cut ∷ []))
        on cut more e = e ∙ ap (λ (x : Held S). fed_tries D text x cut few) c.goes ∙ sym (behind-piece (take i cuts) cut)

        pub cutting-next : i < length cuts → (more : Held S) → more ≡ fed_tries D text h (get_or cuts i 0) few → Cutting more (i + 1)
        cutting-next k more e =
            let t : take (i + 1) cuts ≡ take i cuts ++ get_or cuts i 0 ∷ [] = rw (add-one i) (take-suc cuts i 0 k) in
            record {
              within = omega arith;
              goes = on (get_or cuts i 0) more e ∙ ap (λ (cs : List ℕ). behind D room row text out (calls_of cs)) (sym t);
            }

        -- and then the rest of the text
        pub cutting-end : length cuts ≤ i → (more : Held S) → more ≡ fed_tries D text h (length text) few
            → more ≡ behind D room row text out (pieces text cuts few out)
        cutting-end k more e =
            on (length text) more e ∙ ap (λ (cs : List ℕ). behind D room row text out (calls_of (cs ++ length text ∷ []))) (take_all i cuts k)

-- the last of them is one of the whole rest into all the output, so it is exactly known where they are granted
module _ {S : Type 0} (D : Decoding S) (L : Lawful D) (room : ℕ) (row text out few cuts : List ℕ) (within : length text ≤ limit) where
  abbrev before_last : List Call
  before_last = calls_of D room row text out few cuts ++ written (λ (n : ℕ). call (length text) n ∷ []) few

  last-is : pieces text cuts few out ≡ before_last ++ call (length text) (length out) ∷ []
  last-is =
      more-calls D room row text out few cuts (length text)
      ∙ ap (λ (calls : List Call). calls_of D room row text out few cuts ++ calls) (written-append (λ (n : ℕ). call (length text) n ∷ []) few (length out ∷ []))
      ∙ sym (append_assoc (calls_of D room row text out few cuts) (written (λ (n : ℕ). call (length text) n ∷ []) few) (call (length text) (length out) ∷ []))

  pub pieces-granted : (v : Given) → v ≡ through D room text (pieces text cuts few out) out row
      → v.found.granted ≡ enough room (length row) (length (form_of D text)) (length out)
  pieces-granted v e =
      granted-exactly D L room row text out within before_last v (e ∙ ap (λ (calls : List Call). through D room text calls out row) last-is)
