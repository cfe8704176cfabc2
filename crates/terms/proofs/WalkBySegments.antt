-- A walk over a text's segments: what the segment reader told at a place, and the strict check's way, over any division.
use mathlib.Core.Path.{◌≡◌, refl, sym, ap, ◌∙◌}
use Prim.Native.Nat.{ℕ, suc, ◌+◌, ◌-◌, ◌≤◌, ◌<◌}
use mathlib.Core.Bool.{Bool, true, false}
use mathlib.Core.List.{List, [], ◌∷◌}
use lib.ListN.{length, get_or, take, drop, length-drop}
use lib.Seq.{take_all, drop-drop}
use lib.Dec.{ltb}
use borrow.Author.Tests.{lt-ltb, le-ltb, ltb-false}
use native.Mathlib.Omega.{arith}
use Rattle.theory.specs.Reader.{Reader, Segment, cut}
use Rattle.theory.specs.Reader as reader
use Rattle.theory.specs.Table.{ended, Kind, whole, damage, is_damage, cause_of}
use Rattle.theory.specs.Tally.{total, size, Entry, entries}
use Rattle.theory.proofs.Divisions.{Division, first-size, cut-nil, cut-cons, cut-size}
use Rattle.theory.proofs.Cases.{split}
use Rattle.terms.specs.Limits.{limit}
use Rattle.terms.specs.declared.Cause.{Cause}
use Rattle.terms.specs.Told.{number_of, told_first, size_of, bit, look_says, first_says}
use Rattle.terms.specs.Strict.{damages, strictly, damaged, limited, check_says}
use Rattle.terms.specs.declared.First.{First}
use Rattle.terms.specs.declared.First.TheVariants.{Nothing, Whole, Damage, Begun}

-- the text from a place on, as `&text[at..]` hands it over
pub part_is : (text : List ℕ) (at : ℕ) → take (length text - at) (drop at text) ≡ drop at text
part_is text at = take_all (length text - at) (drop at text) (omega (arith, length-drop at text))

-- and a part of it, as `&text[at..at + n]` does
pub part_to : (text : List ℕ) (at n : ℕ) → take (at + n - at) (drop at text) ≡ take n (drop at text)
part_to text at n = let k : at + n - at ≡ n = omega arith in rw k

-- what is told of the empty text, and of one that is not empty
pub says_nothing : (look : Reader Kind) (text : List ℕ) → length text ≡ 0 → [] ≡ first_says look text
says_nothing look [] e = refl
says_nothing look (x ∷ xs) e = absurd (omega arith)

pub says-look : (look : Reader Kind) (text : List ℕ) → 0 < length text → first_says look text ≡ look_says (look (get_or text 0 0) (drop 1 text))
says-look look [] e = absurd (omega arith)
says-look look (x ∷ xs) e = refl

-- nothing is told of the empty text alone
pub nothing_seen : (look : Reader Kind) (text : List ℕ) → [] ≡ first_says look text → text ≡ []
nothing_seen look [] e = refl
nothing_seen look (x ∷ xs) e = let z : ◌≡◌ {A = ℕ} 0 1 = cc in absurd (omega arith)

-- what was told of a text that is not empty, said of the look at it
pub record Seen (look : Reader Kind) (text : List ℕ) (n : ℕ) (kind : Kind) (sure : Bool) : Type 0 where
  pub head : ℕ
  pub tail : List ℕ
  pub text-is : text ≡ head ∷ tail
  pub long-is : n ≡ suc (look head tail).more
  pub kind-is : (look head tail).tag ≡ kind
  pub sure-is : (look head tail).sure ≡ sure

kind_of : (k j : Kind) → bit (is_damage k) ≡ bit (is_damage j) → cause_of k ≡ cause_of j → k ≡ j
kind_of whole whole e c = refl
kind_of (damage a) (damage b) e c = ap damage c
kind_of whole (damage b) e c = absurd (omega arith)
kind_of (damage a) whole e c = absurd (omega arith)

sure_of : (a b : Bool) → bit a ≡ bit b → a ≡ b
sure_of true true e = refl
sure_of false false e = refl
sure_of true false e = absurd (omega arith)
sure_of false true e = absurd (omega arith)

pub seen : (look : Reader Kind) (text : List ℕ) (n : ℕ) (kind : Kind) (sure : Bool)
    → bit (is_damage kind) ∷ n ∷ bit sure ∷ cause_of kind ∷ [] ≡ first_says look text → Seen look text n kind sure
seen look [] n kind sure e = let z : ◌≡◌ {A = ℕ} 0 1 = cc in absurd (omega arith)
seen look (x ∷ xs) n kind sure e = record {
  head = x;
  tail = xs;
  text-is = refl;
  long-is = cc;
  kind-is = kind_of (look x xs).tag kind (cc) (cc);
  sure-is = sure_of (look x xs).sure sure (cc);
}

-- A TURN OF A WALK that has come to a place: the segment there has n elements, and the walk goes on behind it
pub record Turn (look : Reader Kind) (text : List ℕ) (at n : ℕ) (kind : Kind) : Type 0 where
  pub segment : Segment Kind
  pub size_is : size segment ≡ n
  pub kind-is : segment.tag ≡ kind
  pub some : 0 < n
  pub inside : at + n ≤ length text
  pub cuts : cut look (drop at text) ≡ segment ∷ cut look (drop (at + n) text)

module _ {look : Reader Kind} (D : Division look) (text : List ℕ) (at : ℕ) where
  turn-of : (n : ℕ) (kind : Kind) (sure : Bool) → at ≤ length text → Seen look (drop at text) n kind sure → Turn look text at n kind
  turn-of n kind sure h s =
      let x = s.head in
      let xs = s.tail in
      let l : length (drop at text) ≡ suc (length xs) = ap length s.text-is in
      let f : (look x xs).more ≤ length xs = D.fits x xs in
      let e : n ≡ suc (look x xs).more = s.long-is in
      record {
        segment = reader.first look x xs;
        size_is = omega (arith, first-size D x xs);
        kind-is = s.kind-is;
        some = omega arith;
        inside = omega (arith, length-drop at text);
        cuts = rw (← drop-drop n at text, s.text-is, e) (cut-cons look x xs);
      }

  -- what the reader told of `&text[at..]`
  module _ (h : at ≤ length text) (r : First) (told : told_first r ≡ first_says look (take (length text - at) (drop at text))) where
    told-as : (q : First) → r ≡ q → told_first q ≡ first_says look (drop at text)
    told-as q e = ap told_first (sym e) ∙ rw part_is at told

    pub turn-whole : (n : ℕ) → r ≡ Whole n → Turn look text at n whole
    turn-whole n e = turn-of n whole true h (seen look (drop at text) n whole true (told-as (Whole n) e))

    pub turn-damage : (n : ℕ) (c : Cause) → r ≡ Damage n c → Turn look text at n (damage (number_of c))
    turn-damage n c e = turn-of n (damage (number_of c)) true h (seen look (drop at text) n (damage (number_of c)) true (told-as (Damage n c) e))

    pub turn-begun : (n : ℕ) → r ≡ Begun n → Turn look text at n (damage ended)
    turn-begun n e = turn-of n (damage ended) false h (seen look (drop at text) n (damage ended) false (told-as (Begun n) e))

    -- the walk has come to the end
    pub turn_end : r ≡ Nothing → drop at text ≡ []
    turn_end e = nothing_seen look (drop at text) (told-as Nothing e)

    -- where there is text left, something stands first, and the walk goes on behind it
    pub turn-size : at < length text → (0 < size_of r) × (at + size_of r ≤ length text)
    turn-size l = go r refl
      where
        go : (q : First) → r ≡ q → (0 < size_of q) × (at + size_of q ≤ length text)
        go Nothing e = let z : length (drop at text) ≡ 0 = ap length (turn_end e) in absurd (omega (arith, length-drop at text))
        go (Whole n) e = let t = turn-whole n e in (t.some, t.inside)
        go (Damage n c) e = let t = turn-damage n c e in (t.some, t.inside)
        go (Begun n) e = let t = turn-begun n e in (t.some, t.inside)

-- ---- the strict check: up to the place that the walk has come to there is no damage

pub record Clean (look : Reader Kind) (text : List ℕ) (at : ℕ) : Type 0 where
  pub inside : at ≤ length text
  pub same : damages look text ≡ entries is_damage at (cut look (drop at text))

pub clean-start : (look : Reader Kind) (text : List ℕ) → Clean look text 0
clean-start look text = record { inside = omega arith; same = refl }

module _ {look : Reader Kind} (text : List ℕ) (at : ℕ) (c : Clean look text at) where
  pub clean-whole : (n : ℕ) → Turn look text at n whole → Clean look text (at + n)
  clean-whole n t = record { inside = t.inside; same = c.same ∙ rw (t.cuts, t.kind-is, t.size_is) }

  -- what is told at the end, and at the first damage, whatever is granted and however damage is refused
  module _ (refuse : Entry Kind → List ℕ) (granted : List ℕ) (h : length text ≤ limit) where
    pub check-end : drop at text ≡ [] → granted ≡ limited text (strictly refuse (damages look text) granted)
    check-end e = let d : damages look text ≡ [] = c.same ∙ rw (e, cut-nil) in rw (le-ltb limit (length text) h, d)

    pub check-damage : (n cause : ℕ) → Turn look text at n (damage cause)
        → refuse (record { start = at; long = n; tag = damage cause }) ≡ limited text (strictly refuse (damages look text) granted)
    check-damage n cause t = rw (le-ltb limit (length text) h, c.same, t.cuts, t.kind-is, t.size_is)

-- refusal 2 goes before
pub check-over : (text granted : List ℕ) → limit < length text → 2 ∷ [] ≡ limited text granted
check-over text granted h = rw (lt-ltb limit (length text) h)

-- ---- what a strict check tells of damage lies within the text

entries-within : (at : ℕ) (ss : List (Segment Kind)) (e : Entry Kind) (es : List (Entry Kind)) → entries is_damage at ss ≡ e ∷ es
    → e.start + e.long ≤ at + total size ss
entries-within at [] e es q = let z : ◌≡◌ {A = ℕ} 0 1 = cc in absurd (omega arith)
entries-within at (s ∷ ss) e es q = split (is_damage s.tag)
    (λ d.
    let h : record { start = at; long = size s; tag = s.tag } ∷ entries is_damage (at + size s) ss ≡ e ∷ es = rw d at q in
    let a : e.start ≡ at = cc in
    let b : e.long ≡ size s = cc in
    omega arith)
    (λ d. omega (arith, entries-within (at + size s) ss e es (rw d at q)))

pub damage_within : (look : Reader Kind) (text : List ℕ) (start long cause : ℕ) → 1 ∷ start ∷ long ∷ cause ∷ [] ≡ check_says look text
    → (start + long ≤ length text) × (length text ≤ limit)
damage_within look text start long cause q = split (ltb limit (length text))
    (λ t. let z : ◌≡◌ {A = ℕ} 1 2 = cc in absurd (omega arith))
    (λ t. (go (damages look text) refl (rw t at q), ltb-false limit (length text) t))
  where
    go : (ds : List (Entry Kind)) → damages look text ≡ ds → 1 ∷ start ∷ long ∷ cause ∷ [] ≡ strictly damaged ds (0 ∷ []) → start + long ≤ length text
    go [] e p = let z : ◌≡◌ {A = ℕ} 1 0 = cc in absurd (omega arith)
    go (d ∷ ds) e p =
        let a : start ≡ d.start = cc in
        let b : long ≡ d.long = cc in
        omega (arith, entries-within 0 (cut look text) d ds e, cut-size look text)
