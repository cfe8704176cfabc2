-- What makes a form faithful: what is encoded is read as itself and decoded to the same number, and the other way round.
use mathlib.Core.Path.{◌≡◌, refl, subst}
use mathlib.Core.Logic.{◌⊎◌, inl, inr, ⊎_elim}
use Prim.Native.Nat.{ℕ, zero, ◌<◌}
use mathlib.Core.Bool.{Bool, true, false, ◌||◌}
use mathlib.Core.List.{List, [], ◌∷◌, ◌++◌}
use lib.Dec.{ltb}
use borrow.Author.Tests.{ltb-true, lt-ltb}
use native.Mathlib.Omega.{arith}
use Rattle.theory.specs.Reader.{Reader, Segment, body, first, cut}
use Rattle.theory.specs.Table.{Row, Kind, whole, read}
use Rattle.theory.specs.Sequence.{Sequence}
use Rattle.theory.proofs.Cases.{split, both}
use Rattle.theory.proofs.Divisions.{Division}
use Rattle.theory.proofs.TableDivides.{table-division}
use Rattle.theory.proofs.OneDivision.{Sound, no_empty}
use Rattle.theory.proofs.SequencesAreWhole.{InRow, of_row, cut-sequence, whole-sequence}
use Rattle.terms.specs.Form.{is_scalar, Form}

-- ---- scalar values

pub is_scalar_lem : (c : ℕ) → (c < 0xD800) ⊎ ((0xDFFF < c) × (c < 0x110000)) → is_scalar c ≡ true
is_scalar_lem c (inl h) = rw (lt-ltb c 0xD800 h)
is_scalar_lem c (inr h) = rw (lt-ltb 0xDFFF c h.0, lt-ltb c 0x110000 h.1) (or-true (ltb c 0xD800))
  where
    or-true : (a : Bool) → a || true ≡ true
    or-true true = refl
    or-true false = refl

pub of_scalar : (c : ℕ) → is_scalar c ≡ true → (c < 0xD800) ⊎ ((0xDFFF < c) × (c < 0x110000))
of_scalar c s = split (ltb c 0xD800)
    (λ e. inl (ltb-true _ _ e))
    (λ e. let b = both (ltb 0xDFFF c) (ltb c 0x110000) (rw e at s) in inr (ltb-true _ _ b.0, ltb-true _ _ b.1))

pub scalar_top : (c : ℕ) → is_scalar c ≡ true → c < 0x110000
scalar_top c s = ⊎_elim (λ h. omega arith) (λ h. h.1) (of_scalar c s)

-- ---- faithful forms

-- elements, one at least, as a whole segment
abbrev pub as_whole : List ℕ → Segment Kind
as_whole [] = record { head = 0; tail = []; tag = whole }
as_whole (x ∷ xs) = record { head = x; tail = xs; tag = whole }

-- what reading needs: a whole segment stands for a scalar value, and encoding what was decoded gives the segment back
pub record Reads (F : Form) : Type 0 where
  pub division : Division F.look
  pub scalar : (x : ℕ) (xs : List ℕ) → (F.look x xs).tag ≡ whole → is_scalar (F.value (body (first F.look x xs))) ≡ true
  pub again : (x : ℕ) (xs : List ℕ) → (F.look x xs).tag ≡ whole → F.write (F.value (body (first F.look x xs))) ≡ body (first F.look x xs)

-- what writing needs, of the numbers that a form has: decoding what was encoded gives the number back, and it is read as one whole
-- segment, whatever follows
pub record Spells (has : ℕ → Bool) (F : Form) : Type 0 where
  pub back : (c : ℕ) → has c ≡ true → F.value (F.write c) ≡ c
  pub firm : (c : ℕ) → has c ≡ true → (ys : List ℕ) → cut F.look (F.write c ++ ys) ≡ as_whole (F.write c) ∷ cut F.look ys

-- a faithful form has every scalar value
pub record Faithful (F : Form) : Type 0 where
  pub reads : Reads F
  pub spells : Spells is_scalar F

-- ---- a form that is read by a table: it is enough to show it of the rows' sequences

-- a sequence stands for a scalar value, which is encoded as the sequence
pub record Kept (F : Form) (xs : List ℕ) : Type 0 where
  pub scalar : is_scalar (F.value xs) ≡ true
  pub again : F.write (F.value xs) ≡ xs

module _ (F : Form) (rows : List Row) (cause : ℕ → ℕ) where
  -- a number is encoded as a sequence, which stands for the number
  pub record Encoded (c : ℕ) : Type 0 where
    pub back : F.value (F.write c) ≡ c
    pub sequence : Sequence rows (F.write c)

  -- it is so if row k has the sequence
  pub by_row : (c k : ℕ) (xs : List ℕ) → F.write c ≡ xs → F.value xs ≡ c → InRow rows k xs → Encoded c
  by_row c k xs e v i = record { back = rw e v; sequence = rw e (of_row rows k xs i) }

  pub table-faithful : read rows cause ≡ F.look → Sound zero rows → ((xs : List ℕ) → Sequence rows xs → Kept F xs)
      → ((c : ℕ) → is_scalar c ≡ true → Encoded c) → Faithful F
  table-faithful e s kept encoded = subst (λ (look : Reader Kind). Faithful (record { look = look; value = F.value; write = F.write })) e (record {
    reads = record {
      division = table-division rows cause;
      scalar = λ x xs t. (kept (body (first (read rows cause) x xs)) (whole-sequence rows cause s x xs t)).scalar;
      again = λ x xs t. (kept (body (first (read rows cause) x xs)) (whole-sequence rows cause s x xs t)).again;
    };
    spells = record { back = λ c h. (encoded c h).back; firm = λ c h ys. one (F.write c) ys (encoded c h).sequence };
  })
    where
      one : (zs ys : List ℕ) → Sequence rows zs → cut (read rows cause) (zs ++ ys) ≡ as_whole zs ∷ cut (read rows cause) ys
      one [] ys m = absurd (no_empty rows m)
      one (x ∷ xs) ys m = cut-sequence rows cause s x xs ys m
