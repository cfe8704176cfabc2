-- A 0D that nothing follows: by the reader of places it is pending, and nothing else is that the bytes' reader would settle.
use mathlib.Core.Path.{◌≡◌, refl, sym, ap, ◌∙◌}
use mathlib.Core.Logic.{◌↔◌, ◌⊎◌, inl, inr}
use Prim.Native.Nat.{ℕ, zero, suc}
use mathlib.Core.Bool.{Bool, true, false, cond, not, ◌&&◌, true≢false}
use mathlib.Core.List.{List, [], ◌∷◌}
use lib.ListN.{length, get_or, take, drop}
use lib.Seq.{length-take-le, get_or-take}
use lib.Dec.{eqb}
use borrow.Author.Tests.{eqb-true, eq-eqb, ne_eqb}
use native.Mathlib.Omega.{arith}
use Rattle.theory.specs.Reader.{pending}
use Rattle.theory.specs.Tally.{total, size}
use Rattle.theory.specs.Sequence.{Pending}
use Rattle.theory.proofs.Cases.{split, under}
use Rattle.theory.proofs.PendingBegins.{pending-exactly}
use Rattle.terms.specs.Limits.{most_pending}
use Rattle.terms.specs.Told.{told_first, first_says}
use Rattle.terms.specs.declared.First.{First}
use Rattle.utf8.specs.Bytes.{rows, lone_byte, bytes}
use Rattle.utf8.proofs.RowsOfBytes.{bytes-top, rows-sound}
use Rattle.utf8_pending.specs.Tail.{first_settled, is_tail}
use Rattle.utf8_pending.proofs.HeldInPlaces.{tail-long, tail-is, is-tail}
use Rattle.utf8_pending.proofs.SettledFirst.{Short, bytes-short, settled-sure, settled-open, settled-nil, one_size, told-size}
use Rattle.place.specs.Lines.{waits_behind}
use Rattle.place.specs.Measures.{reader}
use Rattle.place.proofs.ReaderDivides.{reader_division, reader-hold}
use Rattle.index_build.specs.Inside.Steps.{settled_by, is_left}

pub reader-short : Short reader
reader-short = record { division = reader_division; hold = reader-hold; top = bytes-top }

-- ---- a segment waits exactly if it is all of the text, and a 0D

waits_text : (x : ℕ) (xs : List ℕ) (n : ℕ) → waits_behind (x ∷ take n xs) (drop n xs) ≡ waits_behind (x ∷ xs) []
unfolding waits_behind
waits_text x [] zero = refl
waits_text x [] (suc n) = refl
waits_text x (y ∷ ys) zero = refl
waits_text x (y ∷ ys) (suc n) = refl

pub sure-both : (x : ℕ) (xs : List ℕ) → (reader x xs).sure ≡ ((bytes x xs).sure && not (waits_behind (x ∷ xs) []))
sure-both x xs = rw (waits_text x xs (bytes x xs).more)

pub waits_one : (text : List ℕ) → waits_behind text [] ≡ true → text ≡ 0x0D ∷ []
unfolding waits_behind
waits_one [] e = absurd (true≢false (sym e))
waits_one (x ∷ []) e = rw (eqb-true x 0x0D e)
waits_one (x ∷ y ∷ ys) e = absurd (true≢false (sym e))

pub waits-long : (text : List ℕ) → (length text ≡ 1 → ⊥) → waits_behind text [] ≡ false
waits-long text h = split (waits_behind text []) (λ w. absurd (h (ap length (waits_one text w)))) (λ w. w)

pub waits-head : (text : List ℕ) → length text ≡ 1 → waits_behind text [] ≡ eqb (get_or text 0 0) 0x0D
unfolding waits_behind
waits-head [] e = absurd (omega arith)
waits-head (x ∷ []) e = refl
waits-head (x ∷ y ∷ ys) e = absurd (omega arith)

waits-lone : waits_behind (0x0D ∷ []) [] ≡ true
unfolding waits_behind
waits-lone = refl

waits-none : waits_behind [] [] ≡ false
unfolding waits_behind
waits-none = refl

-- ---- what is settled first

settled-size : (text : List ℕ) → total size (first_settled reader text) ≡ cond (waits_behind text []) 0 (total size (first_settled bytes text))
settled-size [] = rw (settled-nil reader, settled-nil bytes, waits-none)
settled-size (x ∷ xs) = split (waits_behind (x ∷ xs) [])
    (λ w.
    let s : (reader x xs).sure ≡ false = sure-both x xs ∙ rw w (and_none (bytes x xs).sure) in
    rw (settled-open reader x xs s, w))
    (λ w. split (bytes x xs).sure
    (λ b.
    let s : (reader x xs).sure ≡ true = sure-both x xs ∙ rw (w, b) in
    rw (settled-sure reader x xs s, settled-sure bytes x xs b, w) (one_size reader-short x xs ∙ sym (one_size bytes-short x xs)))
    (λ b.
    let s : (reader x xs).sure ≡ false = sure-both x xs ∙ rw b in
    rw (settled-open reader x xs s, settled-open bytes x xs b, w)))
  where
    and_none : (b : Bool) → b && false ≡ false
    and_none true = refl
    and_none false = refl

one-settled : total size (first_settled bytes (0x0D ∷ [])) ≡ 1
unfolding first_settled bytes rows
one-settled = refl

pub told-settled : (seg : First) (text : List ℕ) → told_first seg ≡ first_says bytes text → settled_by text seg ≡ total size (first_settled reader text)
told-settled seg text e =
    let n : ℕ = total size (first_settled bytes text) in
    rw (told-size seg text e, settled-size text)
    (split (waits_behind text [])
    (λ w.
    let o : n ≡ 1 = ap (λ (t : List ℕ). total size (first_settled bytes t)) (waits_one text w) ∙ one-settled in
    rw (w, eq-eqb n 1 o))
    (λ w. split (eqb n 1) (λ i. rw (w, i)) (λ i. rw (w, i))))

pub left-none : (text : List ℕ) → is_left text ≡ true → total size (first_settled reader text) ≡ 0
left-none [] e = rw (settled-nil reader)
left-none (x ∷ xs) e = settled-size (x ∷ xs) ∙ rw e

-- ---- WHAT MAY BE PENDING: nothing, a proper beginning of a well-formed sequence, or a lone 0D

pending-bytes : (xs : List ℕ) → waits_behind xs [] ≡ false → pending reader xs ≡ pending bytes xs
pending-bytes [] w = refl
pending-bytes (x ∷ xs) w = split (bytes x xs).sure (λ b. rw (sure-both x xs, b, w)) (λ b. rw (sure-both x xs, b))

pending-lone : (xs : List ℕ) → waits_behind xs [] ≡ true → pending reader xs ≡ true
pending-lone [] w = refl
pending-lone (x ∷ xs) w = split (bytes x xs).sure (λ b. rw (sure-both x xs, b, w)) (λ b. rw (sure-both x xs, b))

pending_is : (xs : List ℕ) → (pending bytes xs ≡ true) ↔ Pending rows xs
unfolding bytes
pending_is = pending-exactly rows lone_byte rows-sound

pub kept-exactly : (xs : List ℕ) → (pending reader xs ≡ true) ↔ (Pending rows xs ⊎ (xs ≡ 0x0D ∷ []))
kept-exactly xs = (to, from)
  where
    to : pending reader xs ≡ true → Pending rows xs ⊎ (xs ≡ 0x0D ∷ [])
    to p = split (waits_behind xs [])
        (λ w. inr (waits_one xs w))
        (λ w. inl ((pending_is xs).0 (sym (pending-bytes xs w) ∙ p)))

    from : Pending rows xs ⊎ (xs ≡ 0x0D ∷ []) → pending reader xs ≡ true
    from (inl p) = split (waits_behind xs []) (pending-lone xs) (λ w. pending-bytes xs w ∙ (pending_is xs).1 p)
    from (inr e) = pending-lone xs (rw e waits-lone)

-- ---- the test of a state's pending bytes: that of the bytes' reader, and a lone 0D

module _ (held : List ℕ) (n : ℕ) where
  pub tail-kept : is_tail bytes held n ≡ true → is_tail reader held n ≡ true
  tail-kept e =
      let t = tail-is bytes held n e in
      let p : pending reader (take n held) ≡ true = (kept-exactly (take n held)).1 (inl ((pending_is (take n held)).0 t.begins)) in
      is-tail reader held n (record { few = t.few; begins = p; unused = t.unused })

  tail-not : is_tail bytes held n ≡ false → waits_behind (take n held) [] ≡ false → false ≡ is_tail reader held n
  tail-not e w = sym (rw (pending-bytes (take n held) w) e)

pub tail_other : (held : List ℕ) (n : ℕ) → length held ≡ most_pending → is_tail bytes held n ≡ false → (n ≡ 1 → ⊥) → false ≡ is_tail reader held n
tail_other held n three e o = under most_pending n
    (λ h. tail-long reader held n h)
    (λ h. tail-not held n e (waits-long (take n held) (λ l. o (sym (length-take-le n held (omega arith)) ∙ l))))

-- one byte is pending: another one than 0D
pub tail_head : (held : List ℕ) (n : ℕ) → length held ≡ most_pending → is_tail bytes held n ≡ false → n ≡ 1 → (get_or held 0 0 ≡ 0x0D → ⊥)
    → false ≡ is_tail reader held n
tail_head held n three e o x =
    let l : length (take n held) ≡ 1 = length-take-le n held (omega arith) ∙ o in
    let g : get_or (take n held) 0 0 ≡ get_or held 0 0 = get_or-take n held 0 0 (omega arith) in
    tail-not held n e (waits-head (take n held) l ∙ ne_eqb (get_or (take n held) 0 0) 0x0D (λ i. x (sym g ∙ i)))

-- or a 0D, and two bytes are not used
pub tail_return : (held : List ℕ) (n : ℕ) → length held ≡ most_pending → n ≡ 1 → get_or held 0 0 ≡ 0x0D
    → is_tail reader held n ≡ (eqb (get_or held 1 0) 0 && eqb (get_or held 2 0) 0)
tail_return held n three o x = rw o (go held three x)
  where
    and-true : (b : Bool) → b && true ≡ b
    and-true true = refl
    and-true false = refl

    go : (held : List ℕ) → length held ≡ most_pending → get_or held 0 0 ≡ 0x0D → is_tail reader held 1 ≡ (eqb (get_or held 1 0) 0 && eqb (get_or held 2 0) 0)
    go [] three x = absurd (omega arith)
    go (a ∷ []) three x = absurd (omega arith)
    go (a ∷ b ∷ []) three x = absurd (omega arith)
    go (a ∷ b ∷ c ∷ []) three x = rw (x, pending-lone (0x0D ∷ []) waits-lone, and-true (eqb c 0))
    go (a ∷ b ∷ c ∷ d ∷ ds) three x = absurd (omega arith)
