-- A READER OF LINES DIVIDES AS THE READER BELOW IT, for any rule that does not change its mind: the same segments, and little held back.
use mathlib.Core.Path.{◌≡◌, refl, sym, ap, ap₂, ◌∙◌}
use Prim.Native.Nat.{ℕ, suc, ◌+◌, ◌≤◌}
use mathlib.Core.Bool.{true, false, not, ◌&&◌}
use mathlib.Core.List.{List, [], ◌∷◌, ◌++◌, map, map-append}
use lib.ListN.{length, take, drop, length-drop}
use lib.Seq.{take-append-le, drop-append-le}
use borrow.Author.Tests.{not-true}
use native.Mathlib.Omega.{arith}
use Rattle.theory.specs.Reader.{Look, Reader, Segment, body, first, rest, cut}
use Rattle.theory.specs.Tally.{total, size}
use Rattle.theory.specs.Lines.{Lined, bare, Rule, lined}
use Rattle.theory.proofs.Cases.{split, both}
use Rattle.theory.proofs.Divisions.{Division, Holds, by-segments, cut-nil, cut-cons, first-size}

-- what does not wait stays as it is when the text goes on; what waits is short, and ends the text
pub record Firm (rule : Rule) (hold : ℕ) : Type 0 where
  pub stays : (s behind ys : List ℕ) → rule.waits s behind ≡ false
      → (rule.ends s (behind ++ ys) ≡ rule.ends s behind) × (rule.waits s (behind ++ ys) ≡ false)
  pub short : (s behind : List ℕ) → rule.waits s behind ≡ true → (length s ≤ hold) × (behind ≡ [])

module _ {K : Type 0} (look : Reader K) (rule : Rule) where
  -- THE SAME SEGMENTS
  pub lined-cut : (xs : List ℕ) → map bare (cut (lined look rule) xs) ≡ cut look xs
  lined-cut = by-segments look (λ (xs : List ℕ). map bare (cut (lined look rule) xs) ≡ cut look xs)
      (rw (cut-nil look, cut-nil (lined look rule)))
      (λ x xs ih. rw (cut-cons look x xs, cut-cons (lined look rule) x xs, ih))

-- some segments of so many elements in front, and others behind them
pub record Parted {K : Type 0} (look : Reader K) (text : List ℕ) (n : ℕ) : Type 0 where
  pub front : List (Segment K)
  pub behind : List (Segment K)
  pub divided : cut look text ≡ front ++ behind
  pub sized : total size front ≡ n

-- a list whose image is in two parts is in two parts
record Halves {A B : Type 0} (f : A → B) (l : List A) (xs : List B) : Type 0 where
  front : List A
  behind : List A
  joined : l ≡ front ++ behind
  image : map f front ≡ xs

halves : {A B : Type 0} (f : A → B) (l : List A) (xs ys : List B) → map f l ≡ xs ++ ys → Halves f l xs
halves f l [] ys e = record { front = []; behind = l; joined = refl; image = refl }
halves f [] (x ∷ xs) ys e = let z : ◌≡◌ {A = ℕ} 0 1 = cc in absurd (omega arith)
halves {A = A} f (a ∷ l) (x ∷ xs) ys e =
    let h = halves f l xs ys (cc) in
    let i : f a ≡ x = cc in
    record {
      front = a ∷ h.front;
      behind = h.behind;
      joined = ap (λ (r : List A). a ∷ r) h.joined;
      image = ap₂ ◌∷◌ i h.image;
    }

bare-size : {K : Type 0} (ss : List (Segment (Lined K))) → total size (map bare ss) ≡ total size ss
bare-size [] = refl
bare-size (s ∷ ss) = ap (λ (k : ℕ). size s + k) (bare-size ss)

module _ {K : Type 0} (look : Reader K) (rule : Rule) {text : List ℕ} {n : ℕ} where
  -- THE SAME BOUNDARIES, both ways
  pub lined-parted : Parted look text n → Parted (lined look rule) text n
  lined-parted p =
      let h = halves bare (cut (lined look rule) text) p.front p.behind (lined-cut look rule text ∙ p.divided) in
      record {
        front = h.front;
        behind = h.behind;
        divided = h.joined;
        sized = sym (bare-size h.front) ∙ ap (total size) h.image ∙ p.sized;
      }

  pub parted-bare : Parted (lined look rule) text n → Parted look text n
  parted-bare p = record {
    front = map bare p.front;
    behind = map bare p.behind;
    divided = sym (lined-cut look rule text) ∙ ap (map bare) p.divided ∙ map-append bare p.front p.behind;
    sized = bare-size p.front ∙ p.sized;
  }

module _ {K : Type 0} {look : Reader K} (D : Division look) {rule : Rule} {hold : ℕ} (F : Firm rule hold) where
  -- what is made of a look
  abbrev seen : ℕ → List ℕ → Look K → Look (Lined K)
  seen x xs l =
      let elements = x ∷ take l.more xs in
      let behind = drop l.more xs in
      record {
        more = l.more;
        tag = record { kind = l.tag; ends = rule.ends elements behind };
        sure = l.sure && not (rule.waits elements behind);
      }

  stable : (x : ℕ) (xs ys : List ℕ) → (lined look rule x xs).sure ≡ true → lined look rule x (xs ++ ys) ≡ lined look rule x xs
  stable x xs ys e =
      let s : List ℕ = body (first look x xs) in
      let b = both (look x xs).sure (not (rule.waits s (rest look x xs))) e in
      let w : rule.waits s (rest look x xs) ≡ false = not-true (rule.waits s (rest look x xs)) b.1 in
      let t = F.stays s (rest look x xs) ys w in
      ap (seen x (xs ++ ys)) (D.stable x xs ys b.0)
      ∙ rw (
        take-append-le (look x xs).more xs ys (D.fits x xs),
        drop-append-le (look x xs).more xs ys (D.fits x xs),
        t.0,
        t.1,
        w,
      )

  pub lined-division : Division (lined look rule)
  lined-division = record { fits = D.fits; stable = stable }

  -- not sure: because the reader is not, or because the segment waits at the end of the text
  open_by : {X : Type 0} (x : ℕ) (xs : List ℕ) → (lined look rule x xs).sure ≡ false → ((look x xs).sure ≡ false → X)
      → ((look x xs).sure ≡ true → suc (length xs) ≤ hold → (look x xs).more ≡ length xs → X) → X
  open_by x xs e unsure waiting = split (look x xs).sure
      (λ s.
      let w : rule.waits (body (first look x xs)) (rest look x xs) ≡ true = waits-is s in
      let h = F.short (body (first look x xs)) (rest look x xs) w in
      let n : (look x xs).more ≡ length xs = omega (arith, D.fits x xs, length-drop (look x xs).more xs, ap length h.1) in
      waiting s (omega (arith, h.0, first-size D x xs, n)) n)
      unsure
    where
      waits-is : (look x xs).sure ≡ true → rule.waits (body (first look x xs)) (rest look x xs) ≡ true
      waits-is s = split (rule.waits (body (first look x xs)) (rest look x xs)) (λ w. w) (λ w. cc (s, w, e))

  pub lined-holds : Holds look hold → Holds (lined look rule) hold
  lined-holds H = record {
    short = λ x xs e. open_by x xs e (H.short x xs) (λ s h n. h);
    grows = λ x xs ys e. open_by x xs e (H.grows x xs ys) (λ s h n. omega (arith, n, ap (λ (l : Look K). l.more) (D.stable x xs ys s)));
  }
