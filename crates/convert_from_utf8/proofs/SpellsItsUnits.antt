-- THE LAW OF SPELLING: where all segments of a byte text are whole, it spells its own units.
use mathlib.Core.Path.{◌≡◌, sym, ap, ◌∙◌}
use Prim.Native.Nat.{ℕ, ◌+◌, ◌-◌, ◌/◌, ◌%◌, ◌≤◌}
use mathlib.Core.List.{List, [], ◌∷◌, ◌++◌}
use lib.ListN.{get_or, take, take-append-drop}
use native.Mathlib.Omega.{arith}
use Rattle.theory.specs.Reader.{first, rest, cut}
use Rattle.theory.specs.Table.{◌to◌, whole}
use Rattle.theory.specs.Sequence.{Sequence}
use Rattle.theory.proofs.Divisions.{cut-nil, cut-cons, by-segments}
use Rattle.theory.proofs.SequencesAreWhole.{Bounds, by_rows, whole-sequence}
use Rattle.terms.specs.Form.{converted}
use Rattle.terms.specs.Strict.{damages}
use Rattle.terms.proofs.ConvertsBack.{AllWhole, none-whole}
use Rattle.utf8.specs.Bytes.{next, rows, lone_byte, bytes}
use Rattle.utf8.specs.Scalar.{number, utf8}
use Rattle.utf8.proofs.RowsOfBytes.{rows-sound}
use Rattle.utf16.specs.Scalar.{pair, utf16}
use Rattle.utf16.proofs.FaithfulForm.{is_one, is-two}
use Rattle.convert_from_utf8.specs.Inside.Spell.{three, first_half, second_half, spelled}
use Rattle.convert_from_utf8.proofs.SpelledByKind.{spelled_nil, spelled_cons, one-is, two_is, three-is, four_is}

-- ---- a well-formed sequence spells its units, and the text behind it goes on

abbrev Spells : List ℕ → Type 0
Spells xs = (zs : List ℕ) → spelled (xs ++ zs) ≡ pair (number xs) ++ spelled zs

spells_one : (x : ℕ) → Bounds (0x00 to 0x7F ∷ []) (x ∷ []) → Spells (x ∷ [])
spells_one x b zs =
    let k = one-is x (get_or zs 0 0) (get_or zs 1 0) (get_or zs 2 0) (omega arith) in
    let n : number (x ∷ []) ≡ x = omega arith in
    spelled_cons x zs (rw k.0 (omega arith)) ∙ rw (k.0, k.1, is_one (number (x ∷ [])) (omega arith), n)

spells-two : (x y : ℕ) → Bounds (0xC2 to 0xDF ∷ next ∷ []) (x ∷ y ∷ []) → Spells (x ∷ y ∷ [])
spells-two x y b zs =
    let k = two_is x y (get_or zs 0 0) (get_or zs 1 0) (omega arith) (omega arith) in
    spelled_cons x (y ∷ zs) (rw k.0 (omega arith)) ∙ rw (k.0, k.1, is_one (number (x ∷ y ∷ [])) (omega arith))

spells-three : (x y z : ℕ) → Bounds (0xE0 to 0xEF ∷ next ∷ next ∷ []) (x ∷ y ∷ z ∷ []) → Spells (x ∷ y ∷ z ∷ [])
spells-three x y z b zs =
    let k = three-is x y z (get_or zs 0 0) (omega arith) (omega arith) in
    let n : number (x ∷ y ∷ z ∷ []) ≡ three x y z = omega arith in
    spelled_cons x (y ∷ z ∷ zs) (rw k.0 (omega arith)) ∙ rw (k.0, k.1, is_one (number (x ∷ y ∷ z ∷ [])) (omega arith), n)

spells-four : (x y z t : ℕ) → Bounds (0xF0 to 0xF4 ∷ next ∷ next ∷ next ∷ []) (x ∷ y ∷ z ∷ t ∷ [])
    → 0x10000 ≤ number (x ∷ y ∷ z ∷ t ∷ []) → Spells (x ∷ y ∷ z ∷ t ∷ [])
spells-four x y z t b low zs =
    let k = four_is x y z t (omega arith) in
    let n : ℕ = number (x ∷ y ∷ z ∷ t ∷ []) in
    let i : 0xD800 + (n - 0x10000) / 0x400 ≡ first_half x y z = omega arith in
    let j : 0xDC00 + (n - 0x10000) % 0x400 ≡ second_half z t = omega arith in
    spelled_cons x (y ∷ z ∷ t ∷ zs) (rw k.0 (omega arith)) ∙ rw (k.0, k.1, is-two (number (x ∷ y ∷ z ∷ t ∷ [])) low, i, j)

-- row by row
spells : (xs : List ℕ) → Sequence rows xs → Spells xs
unfolding rows
spells = by_rows rows Spells
    (λ x a. spells_one x (omega arith))
    (λ x a y b. spells-two x y (omega arith))
    (λ x a y b z d. spells-three x y z (omega arith))
    (λ x a y b z d. spells-three x y z (omega arith))
    (λ x a y b z d. spells-three x y z (omega arith))
    (λ x a y b z d. spells-three x y z (omega arith))
    (λ x a y b z d t e. spells-four x y z t (omega arith) (omega arith))
    (λ x a y b z d t e. spells-four x y z t (omega arith) (omega arith))
    (λ x a y b z d t e. spells-four x y z t (omega arith) (omega arith))

-- ---- and so does a text of them

whole-spells : (x : ℕ) (xs : List ℕ) → (bytes x xs).tag ≡ whole → Spells (x ∷ take (bytes x xs).more xs)
unfolding bytes
whole-spells x xs w = spells (x ∷ take (bytes x xs).more xs) (whole-sequence rows lone_byte rows-sound x xs w)

pub spelled-whole : (xs : List ℕ) → AllWhole (cut bytes xs) → spelled xs ≡ converted utf8 utf16 xs
spelled-whole = by-segments bytes (λ (xs : List ℕ). AllWhole (cut bytes xs) → spelled xs ≡ converted utf8 utf16 xs)
    (λ w. rw (spelled_nil, cut-nil bytes))
    (λ x xs ih w.
    let v : AllWhole (first bytes x xs ∷ cut bytes (rest bytes x xs)) = rw (cut-cons bytes x xs) at w in
    ap (λ (ys : List ℕ). spelled (x ∷ ys)) (sym (take-append-drop (bytes x xs).more xs))
    ∙ whole-spells x xs v.0 (rest bytes x xs)
    ∙ rw (cut-cons bytes x xs, v.0, ih v.1))

pub spelled_undamaged : (text : List ℕ) → damages bytes text ≡ [] → spelled text ≡ converted utf8 utf16 text
spelled_undamaged text none = spelled-whole text (none-whole 0 (cut bytes text) none)
