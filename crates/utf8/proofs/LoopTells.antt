-- The reader's loop over the bytes that a first byte wants: what it tells is what was passed and what the rest says.
use mathlib.Core.Path.{◌≡◌, ap, sym, ◌∙◌}
use Prim.Native.Nat.{ℕ, suc, ◌+◌, ◌-◌, ◌≤◌, ◌<◌}
use native.Mathlib.Nat.{add-zero}
use mathlib.Core.Bool.{true, false}
use mathlib.Core.List.{List, [], ◌∷◌, map}
use lib.ListN.{length, drop, get_or, drop_of_length-le}
use lib.Seq.{drop-cons}
use native.Mathlib.Numerals.{add-one}
use native.Mathlib.Omega.{arith}
use Rattle.theory.specs.Reader.{Look}
use Rattle.theory.specs.Table.{stopped, within, Kind, is_damage, cause_of, want, wanted_behind}
use Rattle.terms.specs.Told.{told_first, bit, look_says, first_says}
use Rattle.terms.specs.Told.{number_of}
use Rattle.terms.specs.declared.Cause.{Cause}
use Rattle.terms.specs.declared.First.TheVariants.{Whole, Damage, Begun}
use Rattle.terms.proofs.WalkBySegments.{says-look}
use Rattle.utf8.specs.Classes.{class_in, rows_of_classes, lone_class, by_classes}
use Rattle.utf8.specs.Inside.Lead.{wanted_next, laters, wanted, cause_in}
use Rattle.utf8.specs.declared.classes.Lead.{Lead}
use Rattle.utf8.specs.declared.classes.Lead.TheVariants.{Alone, Begins}

-- what a look tells of a segment n of whose bytes were passed before
abbrev says : ℕ → Look Kind → List ℕ
says n l = bit (is_damage l.tag) ∷ (n + l.more) ∷ bit l.sure ∷ cause_of l.tag ∷ []

module _ (table text : List ℕ) where
  abbrev class : ℕ → ℕ
  class = class_in table

  -- what is wanted of the bytes from n on
  abbrev left : ℕ → ℕ → ℕ → Look Kind
  left k lead n = want (laters k lead) (map class (drop n text))

  -- what the reader tells, from what its first byte begins
  module _ (some-there : 0 < length text) (r : Lead)
      (b : (wanted_behind rows_of_classes (class (get_or text 0 0)) ≡ wanted (class (get_or text 0 0)) r)
      × (lone_class (class (get_or text 0 0)) ≡ cause_in (class (get_or text 0 0)) r)) where
    pub class-alone : (cause : Cause) → r ≡ Alone cause → told_first (Damage 1 cause) ≡ first_says (by_classes table) text
    unfolding by_classes
    class-alone cause e =
        let d : lone_class (class (get_or text 0 0)) ≡ number_of cause = b.1 ∙ ap (cause_in (class (get_or text 0 0))) e in
        sym (says-look (by_classes table) text some-there ∙ rw (b.0, e, d))

    pub class-begun : (more : ℕ) → r ≡ Begins more → first_says (by_classes table) text ≡ look_says (left more (class (get_or text 0 0)) 1)
    unfolding by_classes
    class-begun more e = says-look (by_classes table) text some-there ∙ rw (b.0, e)

  module _ (first more : ℕ) where
    -- the bytes before n are as wanted; the one at n is wanted behind a byte of class lead
    pub record Followed (lead n : ℕ) : Type 0 where
      pub wanted : n ≤ suc more
      pub same : look_says (left more first 1) ≡ says n (left (suc more - n) lead n)

    pub follow-start : Followed first 1
    follow-start =
        let l : Look Kind = left more first 1 in
        let e : suc more - 1 ≡ more = omega arith in
        record { wanted = omega arith; same = rw e (ap (λ (k : ℕ). bit (is_damage l.tag) ∷ k ∷ bit l.sure ∷ cause_of l.tag ∷ []) (omega arith)) }

    module _ (lead n : ℕ) (f : Followed lead n) where
      -- all that was wanted is there
      pub follow-whole : more < n → told_first (Whole n) ≡ look_says (left more first 1)
      follow-whole h = let z : suc more - n ≡ 0 = omega arith in rw (f.same, z, add-zero)

      module _ (h : n ≤ more) where
        same_here : look_says (left more first 1) ≡ says n (left (suc (more - n)) lead n)
        same_here = let e : suc more - n ≡ suc (more - n) = omega arith in rw e at f.same

        -- the text ends
        pub follow-ended : length text ≤ n → told_first (Begun n) ≡ look_says (left more first 1)
        follow-ended k = rw (same_here, drop_of_length-le text k, add-zero)

        -- another byte stops it
        pub follow-stopped : n < length text → within (wanted_next lead) (class (get_or text n 0)) ≡ false
            → told_first (Damage n (record { 0 = stopped })) ≡ look_says (left more first 1)
        follow-stopped k e = rw (same_here, drop-cons text n 0 k, e, add-zero)

        -- the byte is as wanted
        pub follow-next : n < length text → within (wanted_next lead) (class (get_or text n 0)) ≡ true → Followed 5 (n + 1)
        follow-next k b =
            let l : Look Kind = left (more - n) 5 (suc n) in
            let e : suc more - (n + 1) ≡ more - n = omega arith in
            record {
              wanted = omega arith;
              same =
                  same_here
                  ∙ rw (drop-cons text n 0 k, b, e, add-one n)
                  (ap (λ (i : ℕ). bit (is_damage l.tag) ∷ i ∷ bit l.sure ∷ cause_of l.tag ∷ []) (omega arith));
            }
