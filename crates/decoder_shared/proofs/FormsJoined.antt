-- Two forms in one output, one behind the other: the second is written behind the places of the first, and then the first.
use mathlib.Core.Path.{◌≡◌, refl, sym, ap, subst, ◌∙◌}
use Prim.Native.Nat.{ℕ, ◌+◌, ◌≤◌, ◌<◌}
use mathlib.Core.Bool.{true≢false}
use mathlib.Core.List.{List, [], ◌∷◌, ◌++◌, append_assoc}
use lib.ListN.{length, get_or, take, drop, length-append, length-drop, take-append-drop}
use lib.Seq.{drop-drop, drop_at, length-take-le}
use lib.Dec.{ltb, eqb}
use borrow.Author.Tests.{le-ltb, ltb-true}
use native.Mathlib.Omega.{arith}
use Rattle.theory.proofs.Cases.{split}
use Rattle.terms.specs.Limits.{limit}
use Rattle.terms.specs.Told.{told_refusal}
use Rattle.terms.specs.Writing.{roomed, repair_says, Writes}
use Rattle.terms.specs.declared.Refusal.{Refusal}
use Rattle.terms.specs.declared.Refusal.TheVariants.{NoRoom}
use Rattle.std.specs.Prelude.{Result, Ok, Err}
use Rattle.terms.proofs.AnswersWritten.{roomed-short, roomed-done, repair-count}
use Rattle.terms.proofs.ToldBack.{no_zero}
use Rattle.terms.proofs.WalkBySegments.{part_is}
use Rattle.terms.proofs.WalkWrites.{lent, back, back_is}

-- of a text within the limit only the room is refused, and the refusal tells the need
pub needed_is : (text form : List ℕ) (room : ℕ) → length text ≤ limit → (why : Refusal) → told_refusal why ≡ repair_says room text form
    → (get_or (told_refusal why) 1 0 ≡ length form) × (room < length form)
needed_is text form room h why e =
    let q : told_refusal why ≡ roomed room form = rw (le-ltb limit (length text) h) at e in
    split (ltb room (length form))
    (λ t. let s : told_refusal why ≡ 3 ∷ length form ∷ [] = rw t at q in (ap (λ (l : List ℕ). get_or l 1 0) s, ltb-true room (length form) t))
    (λ t.
    let s : told_refusal why ≡ 0 ∷ length form ∷ [] = rw t at q in
    absurd (true≢false (sym (ap (λ (l : List ℕ). eqb (get_or l 0 0) 0) s) ∙ no_zero why)))

module _ (first second out : List ℕ) where
  abbrev both : List ℕ
  both = first ++ second

  -- there is no first one
  pub both-alone : (text : List ℕ) → length text ≤ limit → first ≡ [] → (out' : List ℕ) (q : Result ℕ Refusal)
      → Writes (repair_says (length out) text second) second out out' q → Writes (roomed (length out) both) both out out' q
  both-alone text h e out' q w =
      let same : repair_says (length out) text second ≡ roomed (length out) second = rw (le-ltb limit (length text) h) in
      rw e (subst (λ (says : List ℕ). Writes says second out out' q) same w)

  module _ (n : ℕ) (e : n ≡ length first) where
    sum_is : (m : ℕ) → m ≡ length second → n + m ≡ length both
    sum_is m k = omega (arith, e, k, length-append first second)

    -- there is no room for the first one
    pub both-short : length out < n → (m : ℕ) → m ≡ length second → Writes (roomed (length out) both) both out out (Err (NoRoom (n + m)))
    both-short h m k = roomed-short both out (n + m) (sum_is m k) (omega (arith, h))

    -- or there is, and the second one is written behind it
    module _ (h : n ≤ length out) (text ys : List ℕ) (small : length text ≤ limit) where
      lent-long : n + length (lent out n) ≡ length out
      lent-long = rw (part_is out n) (omega (arith, h, length-drop n out))

      abbrev Second : Result ℕ Refusal → Type 0
      Second = Writes (repair_says (length (lent out n)) text second) second (lent out n) ys

      pub both-refused : (why : Refusal) → Second (Err why) → (m : ℕ) → m ≡ get_or (told_refusal why) 1 0
          → Writes (roomed (length out) both) both out (back out n ys) (Err (NoRoom (n + m)))
      both-refused why w m k =
          let s = needed_is text second (length (lent out n)) small why w.answer in
          let y : ys ≡ lent out n = w.output ∙ rw (← w.answer, no_zero why) in
          let o : back out n ys ≡ out = back_is out n ys ∙ rw (y, part_is out n, take-append-drop n out) in
          rw o (roomed-short both out (n + m) (sum_is m (k ∙ s.0)) (omega (arith, s.1, k ∙ s.0, lent-long)))

      -- and then the first
      pub both-done : (k : ℕ) → Second (Ok k) → (head out' : List ℕ) → length head ≤ limit → (q : Result ℕ Refusal)
          → Writes (repair_says (length (back out n ys)) head first) first (back out n ys) out' q
          → Writes (roomed (length out) both) both out out' (Ok (n + k))
      both-done k w head out' few q v =
          let c = repair-count text second (lent out n) ys (Ok k) w k refl in
          let y : ys ≡ second ++ drop (length second) (lent out n) = w.output ∙ rw (← w.answer) in
          let placed : length (take n out) ≡ n = length-take-le n out h in
          let fits : length first ≤ length (back out n ys) = rw (back_is out n ys, length-append) (omega (arith, e, placed)) in
          let says : repair_says (length (back out n ys)) head first ≡ 0 ∷ length first ∷ []
          = rw (le-ltb limit (length head) few, le-ltb (length (back out n ys)) (length first) fits) in
          let o : out' ≡ first ++ drop n (back out n ys) = v.output ∙ rw (says, ← e) in
          let rest : drop n (back out n ys) ≡ second ++ drop (n + length second) out
          = rw (back_is out n ys) (drop_at (take n out) ys n placed ∙ y ∙ rw (part_is out n, drop-drop (length second) n out)) in
          let all : out' ≡ both ++ drop (length both) out
          = o ∙ rw rest (sym (append_assoc first second (drop (n + length second) out)) ∙ rw (sum_is (length second) refl)) in
          roomed-done both out (n + k) (sum_is k c.0) (omega (arith, c.0, c.1, lent-long, e, length-append first second)) out' all
