-- The bytes of units that stand alone, stored one unit behind another: of each unit's three places those that it takes, or those alone.
use mathlib.Core.Path.{◌≡◌, refl, sym, ap, ◌∙◌}
use Prim.Native.Nat.{ℕ, suc, ◌+◌, ◌-◌, ◌*◌, ◌≤◌, ◌<◌}
use native.Mathlib.Numerals.{add-one}
use mathlib.Core.List.{List, [], ◌∷◌, ◌++◌, append_assoc, append-nil}
use lib.ListN.{length, get_or, take, drop, set, length-append, length-set, length-drop}
use lib.Seq.{take-suc, take_at, take-append-add, drop_at, drop-drop, drop-set-lt, length-take-le, sets-eq}
use borrow.Author.Tests.{lt-ltb, le-ltb}
use native.Mathlib.Omega.{arith}
use Rattle.theory.proofs.Cases.{under}
use Rattle.theory.proofs.Divisions.{written-append}
use Rattle.terms.proofs.WalkBySegments.{part_is}
use Rattle.terms.proofs.WalkWrites.{lent, back, back_is}
use Rattle.utf8.specs.Scalar.{sequence, later, utf8}
use Rattle.convert_point.specs.Puts.{fitting, Puts}
use Rattle.convert_utf16_blocks.specs.Block.{bytes_of}
use Rattle.convert_utf16_blocks.specs.Inside.Places.{size_of, first_byte, second_byte, Squeezed}

-- ---- a unit

module _ (x : ℕ) (h : x < 0x10000) where
  -- its sequence is the beginning of its three bytes
  pub places_of : (vs rest : List ℕ) → vs ≡ first_byte x ∷ second_byte x ∷ later x ∷ [] → take (size_of x) (vs ++ rest) ≡ sequence x
  places_of vs rest e = rw e (go rest)
    where
      go : (rest : List ℕ) → take (size_of x) (first_byte x ∷ second_byte x ∷ later x ∷ rest) ≡ sequence x
      go rest = under x 0x80
          (λ l. rw (lt-ltb x 0x80 l))
          (λ m. under x 0x800 (λ l. rw (le-ltb x 0x80 m, lt-ltb x 0x800 l)) (λ n. rw (le-ltb x 0x80 m, le-ltb x 0x800 n, lt-ltb x 0x10000 h)))

  pub size_is : size_of x ≡ length (sequence x)
  size_is = under x 0x80
      (λ l. rw (lt-ltb x 0x80 l))
      (λ m. under x 0x800 (λ l. rw (le-ltb x 0x80 m, lt-ltb x 0x800 l)) (λ n. rw (le-ltb x 0x80 m, le-ltb x 0x800 n, lt-ltb x 0x10000 h)))

pub size-some : (x : ℕ) → (1 ≤ size_of x) × (size_of x ≤ 3)
size-some x = under x 0x80
    (λ l. rw (lt-ltb x 0x80 l) (omega arith, omega arith))
    (λ m. under x 0x800 (λ l. rw (le-ltb x 0x80 m, lt-ltb x 0x800 l) (omega arith, omega arith)) (λ n. rw (le-ltb x 0x80 m, le-ltb x 0x800 n) (omega arith, omega arith)))

-- its sequence has room in three places
fitted : (x room : ℕ) → x < 0x10000 → 3 ≤ room → fitting utf8 room x ≡ sequence x
fitted x room h r =
    let a : length (sequence x) ≤ room = omega (arith, size_is x h, size-some x) in
    let b : x ≤ 0x10FFFF = omega arith in
    rw (le-ltb room (length (sequence x)) a, le-ltb 0x10FFFF x b)

-- ---- one unit more

pub bytes_next : (units : List ℕ) (k : ℕ) → k < length units → bytes_of (take (k + 1) units) ≡ bytes_of (take k units) ++ sequence (get_or units k 0)
bytes_next units k h = rw (add-one, take-suc units k 0 h, written-append sequence (take k units) (get_or units k 0 ∷ []), append-nil)

drop_more : (xs ys : List ℕ) (a b : ℕ) → a ≤ b → drop a xs ≡ drop a ys → drop b xs ≡ drop b ys
drop_more xs ys a b h e =
    let s : a + (b - a) ≡ b = omega arith in
    rw (← s, ← drop-drop (b - a) a xs, ← drop-drop (b - a) a ys, e)

behind-three : (l : List ℕ) (o a b c i : ℕ) → o + 3 ≤ i → drop i (set (set (set l o a) (o + 1) b) (o + 2) c) ≡ drop i l
behind-three l o a b c i h =
    drop-set-lt i (set (set l o a) (o + 1) b) (o + 2) c (omega arith) ∙ drop-set-lt i (set l o a) (o + 1) b (omega arith) ∙ drop-set-lt i l o a (omega arith)

three-stored : (l vs : List ℕ) (o a b c : ℕ) → vs ≡ a ∷ b ∷ c ∷ [] → o + 3 ≤ length l
    → set (set (set l o a) (o + 1) b) (o + 2) c ≡ take o l ++ (vs ++ drop (o + 3) l)
three-stored l vs o a b c e h =
    let p : o + 1 ≡ suc o = omega arith in
    let q : o + 2 ≡ suc (suc o) = omega arith in
    rw (p, q, e) (sets-eq (a ∷ b ∷ c ∷ []) l o h ∙ append_assoc (take o l) (a ∷ b ∷ c ∷ []) (drop (o + 3) l))

pub squeezed_start : (units out : List ℕ) → Squeezed units 0 2 out out 0
squeezed_start units out = record { long = refl; count = refl; few = omega arith; form = refl; kept = refl }

module _ (units out out' : List ℕ) (n some o : ℕ) (s : Squeezed units n some out out' o) (room : o + 3 ≤ length out') (h : n < length units) (x : ℕ) (is : get_or units n 0 ≡ x) (l : x < 0x10000) where
  placed : length (take o out') ≡ o
  placed = length-take-le o out' (omega arith)

  count_next : o + size_of x ≡ length (bytes_of (take (n + 1) units))
  count_next = rw (bytes_next units n h, is, length-append, ← s.count, ← size_is x l)

  few-next : o + size_of x ≤ 3 * (n + 1)
  few-next = omega (arith, s.few, size-some x)

  form-next : bytes_of (take (n + 1) units) ≡ take o out' ++ sequence x
  form-next = rw (bytes_next units n h, is, s.form)

  -- with the places that it does not take
  pub squeezed-next : some ≡ 2 → Squeezed units (n + 1) 2 out (set (set (set out' o (first_byte x)) (o + 1) (second_byte x)) (o + 2) (later x)) (o + size_of x)
  squeezed-next e =
      let new : List ℕ = set (set (set out' o (first_byte x)) (o + 1) (second_byte x)) (o + 2) (later x) in
      let d : drop (o + size_of x + 2) new ≡ drop (o + size_of x + 2) out' =
      behind-three out' o (first_byte x) (second_byte x) (later x) (o + size_of x + 2) (omega (arith, size-some x)) in
      record {
        long = simp length-set s.long;
        count = count_next;
        few = few-next;
        form = front (first_byte x ∷ second_byte x ∷ later x ∷ []) refl ∙ sym form-next;
        kept = d ∙ drop_more out' out (o + some) (o + size_of x + 2) (omega (arith, size-some x)) s.kept;
      }
    where
      front : (vs : List ℕ) → vs ≡ first_byte x ∷ second_byte x ∷ later x ∷ []
          → take (o + size_of x) (set (set (set out' o (first_byte x)) (o + 1) (second_byte x)) (o + 2) (later x)) ≡ take o out' ++ sequence x
      front vs q =
          let g : o + size_of x ≡ length (take o out') + size_of x = omega (arith, placed) in
          rw (three-stored out' vs o (first_byte x) (second_byte x) (later x) q room, g, take-append-add (take o out') (vs ++ drop (o + 3) out') (size_of x))
          (ap (λ (r : List ℕ). take o out' ++ r) (places_of x l vs (drop (o + 3) out') q))

  -- and alone
  stored_next : (fewer : ℕ) → some ≡ fewer + 1 → (ys : List ℕ) → ys ≡ sequence x ++ drop (length (sequence x)) (lent out' o)
      → Squeezed units (n + 1) fewer out (back out' o ys) (o + length (sequence x))
  stored_next fewer e ys p =
      let v = sequence x in
      let m : ℕ = length v in
      let z : size_of x ≡ m = size_is x l in
      let t : back out' o ys ≡ (take o out' ++ v) ++ drop (o + m) out' =
      back_is out' o ys ∙ rw (p, part_is out' o, drop-drop m o out') (sym (append_assoc (take o out') v (drop (o + m) out'))) in
      let f : length (take o out' ++ v) ≡ o + m = length-append (take o out') v ∙ ap (λ (i : ℕ). i + m) placed in
      record {
        long = rw (t, length-append, f) (omega (arith, length-drop (o + m) out', s.long, size-some x));
        count = rw (← z) count_next;
        few = rw (← z) few-next;
        form = rw (t, take_at (take o out' ++ v) (drop (o + m) out') (o + m) f) (sym form-next);
        kept =
            sym (drop-drop fewer (o + m) (back out' o ys))
            ∙ ap (drop fewer) (ap (drop (o + m)) t ∙ drop_at (take o out' ++ v) (drop (o + m) out') (o + m) f)
            ∙ drop-drop fewer (o + m) out'
            ∙ drop_more out' out (o + some) (o + m + fewer) (omega (arith, size-some x)) s.kept;
      }

  pub put_next : (fewer : ℕ) → some ≡ fewer + 1 → (ys : List ℕ) (places : ℕ) → Puts (fitting utf8 (length (lent out' o)) x) (lent out' o) ys places
      → Squeezed units (n + 1) fewer out (back out' o ys) (o + places)
  put_next fewer e ys places p =
      let f = fitted x (length (lent out' o)) l (omega (arith, ap length (part_is out' o) ∙ length-drop o out')) in
      rw (p.count ∙ ap length f) (stored_next fewer e ys (rw f at p.output))
