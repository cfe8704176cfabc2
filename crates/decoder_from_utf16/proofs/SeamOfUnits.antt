-- A piece behind what is pending: a first half and the unit behind it are one segment, or the half is damage; then goes the rest of the piece.
use mathlib.Core.Path.{◌≡◌, refl, sym, ap, subst, ◌∙◌}
use Prim.Native.Nat.{ℕ, zero, suc, ◌+◌, ◌-◌, ◌≤◌}
use native.Mathlib.Nat.{add-zero}
use mathlib.Core.Bool.{true}
use mathlib.Core.List.{List, [], ◌∷◌, ◌++◌, append-nil}
use lib.ListN.{length, get_or, take, drop, length-drop}
use lib.Seq.{length-take-le, take-append-le}
use native.Mathlib.Omega.{arith}
use Rattle.theory.specs.Reader.{Look, Segment, Parts, first, cut, parts}
use Rattle.theory.specs.Stream.{State}
use Rattle.theory.specs.Table.{Kind}
use Rattle.theory.specs.Tally.{written, total, size, Log}
use Rattle.theory.proofs.Cases.{under}
use Rattle.theory.proofs.Divisions.{before, first-size, cut-nil, parts-sure, parts-pending}
use Rattle.terms.specs.Told.{told_first, size_of, look_says, first_says}
use Rattle.terms.specs.declared.First.{First}
use Rattle.terms.specs.declared.First.TheVariants.{Nothing, Whole, Damage, Begun}
use Rattle.terms.proofs.WalkBySegments.{part_is}
use Rattle.utf8.specs.Scalar.{utf8}
use Rattle.utf16.specs.Scalar.{utf16}
use Rattle.utf16.specs.Units.{units}
use Rattle.utf16.proofs.RowsOfUnits.{units_division, FirstHalf, first-stopped, pair-whole}
use Rattle.decoder_shared.specs.Decoding.{fed}
use Rattle.decoder_shared.specs.Inside.Steps.{tallied, told_of, tallied_as, Rests, behind, Answers}
use Rattle.decoder_shared.proofs.ChecksInOrder.{Admits}
use Rattle.decoder_shared.proofs.TalliedWalk.{first_of, told-short, segment-told, told}
use Rattle.decoder_shared.proofs.FeedAnswers.{answers-still}
use Rattle.decoder_shared.proofs.SettledIsCut.{point_causeless, first-cut}
use Rattle.decoder_from_utf16.specs.State.{unit_decoding}
use Rattle.decoder_from_utf16.specs.declared.UnitDecoder.{UnitDecoder}
use Rattle.decoder_from_utf16.proofs.TestsAsFacts.{Sound}
use Rattle.decoder_from_utf16.proofs.HalfPending.{Half, half_is, left-begins, stands_same}
use Rattle.decoder_from_utf16.proofs.SettledUnits.{units-cut}

-- ---- a first half and the unit behind it

-- what is told of a look tells its size
told-size : (r : First) (k : Look Kind) → told_first r ≡ look_says k → size_of r ≡ suc k.more
told-size Nothing k e = let z : ◌≡◌ {A = ℕ} 0 1 = cc in absurd (omega arith)
told-size (Whole n) k e = cc
told-size (Damage n c) k e = cc
told-size (Begun n) k e = cc

module _ (x y : ℕ) (h : FirstHalf x) where
  -- that unit decides
  seam-sure : (units x (y ∷ [])).sure ≡ true
  seam-sure = under y 0xDC00
      (λ k. rw (first-stopped x y [] h (λ s. omega (arith, s.0, k))))
      (λ k. under 0xDFFF y
      (λ m. rw (first-stopped x y [] h (λ s. omega (arith, s.1, m))))
      (λ m. rw (pair-whole x (y ∷ []) (h, (k, m)))))

  -- as the reader told of both
  module _ (seg : First) (says : told_first seg ≡ first_says units (x ∷ y ∷ [])) (n : ℕ) (long : n ≡ size_of seg) where
    abbrev more : ℕ
    more = (units x (y ∷ [])).more

    size_is : n ≡ suc more
    size_is = long ∙ told-size seg (units x (y ∷ [])) says

    -- one or two units
    pub seam-few : (1 ≤ n) × (n ≤ 2)
    seam-few = (omega (arith, size_is), omega (arith, size_is, units_division.fits x (y ∷ [])))

    abbrev head : List ℕ
    head = take n (x ∷ y ∷ [])

    pub head-long : length head ≡ n
    head-long = length-take-le n (x ∷ y ∷ []) seam-few.1

    -- it is the segment that was told
    head_first : told_of seg head ≡ first_of units (x ∷ y ∷ [])
    head_first =
        ap (λ (k : ℕ). told_of seg (take k (x ∷ y ∷ []))) long ∙ told-short seg (x ∷ y ∷ []) ∙ segment-told units seg (x ∷ y ∷ []) says

    head-told : told_of seg head ≡ first units x (y ∷ []) ∷ []
    head-told = head_first ∙ rw seam-sure

    pub head-all : total size (told_of seg head) ≡ length head
    head-all = rw head-told (add-zero (size (first units x (y ∷ []))) ∙ first-size units_division x (y ∷ []) ∙ sym (head-long ∙ size_is))

    -- it is tallied so, and written alike as a text of its own
    pub head-tells : (room : ℕ) (l : Log) → l.out ≡ [] → tallied_as room seg l ≡ tallied room l (told_of seg head)
    head-tells room l o = (told units_division (x ∷ y ∷ []) seg says).tallies room l o ∙ ap (tallied room l) (sym head_first)

    pub head-writes : written unit_decoding.write (cut units head) ≡ written unit_decoding.write (told_of seg head)
    head-writes =
        rw (head-told, size_is ∙ sym (first-size units_division x (y ∷ [])))
        (first-cut units_division units-cut unit_decoding.write (point_causeless utf16 utf8) x (y ∷ []))

    -- and then goes the rest of the piece
    pub head-parts : (ys : List ℕ) → parts units (x ∷ y ∷ ys) ≡ before (told_of seg head) (parts units (drop (n - 1) (y ∷ ys)))
    head-parts ys =
        let same : units x (y ∷ ys) ≡ units x (y ∷ []) = units_division.stable x (y ∷ []) ys seam-sure in
        let m : n - 1 ≡ more = omega (arith, size_is) in
        let t : take more (y ∷ ys) ≡ take more (y ∷ []) = take-append-le more (y ∷ []) ys (units_division.fits x (y ∷ [])) in
        parts-sure units x (y ∷ ys) (rw same seam-sure) ∙ rw (head-told, m, same, t)

-- ---- a state takes a piece

module _ (d : UnitDecoder) (piece list : List ℕ) where
  -- what is settled of what is pending and the piece
  fed-is : (ss : List (Segment Kind)) (left : List ℕ) → parts units ((unit_decoding.stands d).left ++ piece) ≡ record { done = ss; left = left }
      → behind unit_decoding d ss left list ≡ fed unit_decoding d piece list
  fed-is ss left e = ap (λ (p : Parts Kind). behind unit_decoding d p.done p.left list) (sym e)

  module _ (s : Sound d) (a : Admits unit_decoding d (length piece) (length list)) where
    -- nothing is pending
    pub none-rests : Rests unit_decoding d Nothing [] piece list
    none-rests = record {
      tells = λ room l o. refl;
      writes = rw (cut-nil units);
      size_is = refl;
      all_told = refl;
      sums = omega (arith, s.numbers.sum, a.within);
      counts = omega (arith, s.numbers.ones);
      row = a.list;
    }

    pub none-fed : d.pending ≡ 0 → behind unit_decoding d (parts units piece).done (parts units piece).left list ≡ fed unit_decoding d piece list
    none-fed e = fed-is (parts units piece).done (parts units piece).left (rw e)

    -- a half is pending, and there is a unit behind it
    module _ (f : d.pending ≡ 0 → ⊥) (some : length piece ≡ 0 → ⊥) (seg : First)
        (says : told_first seg ≡ first_says units (get_or d.held 0 0 ∷ get_or piece 0 0 ∷ [])) (n : ℕ) (long : n ≡ size_of seg) where
      abbrev x : ℕ
      x = get_or d.held 0 0

      abbrev y : ℕ
      y = get_or piece 0 0

      abbrev rest : List ℕ
      rest = take (length piece - (n - 1)) (drop (n - 1) piece)

      p : Half d
      p = half_is d s f

      pub both-few : (1 ≤ n) × (n ≤ 2)
      both-few = seam-few x y p.half seg says n long

      pub both_long : length (take n (x ∷ y ∷ [])) ≡ n
      both_long = head-long x y p.half seg says n long

      -- the piece has what goes to the pair
      pub piece-has : n - 1 ≤ length piece
      piece-has = let k : 1 ≤ length piece = some-there (length piece) some in omega (arith, both-few.1)
        where
          some-there : (m : ℕ) → (m ≡ 0 → ⊥) → 1 ≤ m
          some-there zero g = absurd (g refl)
          some-there (suc m) g = omega arith

      pub both-rests : Rests unit_decoding d seg (take n (x ∷ y ∷ [])) rest list
      both-rests = record {
        tells = head-tells x y p.half seg says n long;
        writes = head-writes x y p.half seg says n long;
        size_is = sym long ∙ sym both_long;
        all_told = head-all x y p.half seg says n long;
        sums = omega (arith, s.numbers.sum, p.one, a.within, both_long, both-few.0, piece-has, ap length (part_is piece (n - 1)), length-drop (n - 1) piece);
        counts = omega (arith, s.numbers.ones);
        row = a.list;
      }

      both-parts : parts units ((unit_decoding.stands d).left ++ piece) ≡ before (told_of seg (take n (x ∷ y ∷ []))) (parts units rest)
      both-parts = rw (p.left_is, part_is piece (n - 1)) (go piece refl some)
        where
          go : (q : List ℕ) → piece ≡ q → (length q ≡ 0 → ⊥) → parts units (x ∷ q) ≡ before (told_of seg (take n (x ∷ y ∷ []))) (parts units (drop (n - 1) q))
          go [] e g = absurd (g refl)
          go (z ∷ zs) e g =
              let i : y ≡ z = ap (λ (l : List ℕ). get_or l 0 0) e in
              rw (← i) (head-parts x y p.half seg says n long zs)

      pub both-fed : behind unit_decoding d (told_of seg (take n (x ∷ y ∷ [])) ++ (parts units rest).done) (parts units rest).left list ≡ fed unit_decoding d piece list
      both-fed = fed-is (told_of seg (take n (x ∷ y ∷ [])) ++ (parts units rest).done) (parts units rest).left both-parts

-- nothing comes, so nothing is settled and the state is the same
pub still : (d : UnitDecoder) → length d.held ≡ 1 → Sound d → (piece out list : List ℕ) → length piece ≡ 0
    → Answers unit_decoding d (d.taken + length piece) (fed unit_decoding d piece list) out list out list (0 ∷ 0 ∷ []) d
still d one s (x ∷ xs) out list e = absurd (omega arith)
still d one s [] out list e =
    let left : List ℕ = (unit_decoding.stands d).left in
    let q : parts units (left ++ []) ≡ record { done = []; left = left } = ap (parts units) (append-nil left) ∙ parts-pending units left (left-begins d s) in
    let k : d ≡ unit_decoding.state (record {
      left = left;
      taken = d.taken + 0;
      whole = d.whole;
      damaged = d.damaged;
      count = d.count;
      room = d.room;
    }) = stands_same d s one ∙ ap (λ (t : ℕ). unit_decoding.state (record {
      left = left;
      taken = t;
      whole = d.whole;
      damaged = d.damaged;
      count = d.count;
      room = d.room;
    })) (sym (add-zero d.taken)) in
    subst (λ (f : State Log). Answers unit_decoding d (d.taken + 0) f out list out list (0 ∷ 0 ∷ []) d) (fed-is d [] list [] left q)
    (answers-still unit_decoding d (d.taken + 0) left out list d k)
