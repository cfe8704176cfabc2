-- The reader by which places are counted divides a text as the bytes' reader does, holds little back, and its segments are short.
use Rattle.std.proofs.Common.{◌≡◌, ℕ, ◌<◌, ◌≤◌, true, false, List, [], ◌∷◌, ◌++◌, map, length, refl, true≢false, arith}
use Rattle.theory.specs.Reader.{cut}
use Rattle.theory.specs.Lines.{bare}
use Rattle.theory.proofs.Divisions.{Division, Holds}
use Rattle.theory.proofs.LinesDivide.{Firm, Parted, lined-cut, lined-parted, parted-bare, lined-division, lined-holds}
use Rattle.terms.specs.Limits.{most_pending}
use Rattle.utf8.specs.Bytes.{bytes}
use Rattle.utf8.proofs.RowsOfBytes.{bytes_division, bytes-hold, bytes-top}
use Rattle.place.specs.Lines.{ends_line, waits_behind, line_rule}
use Rattle.place.specs.Measures.{reader, longest}

-- ---- the rule of lines does not change its mind: only a 0D that ends the text waits

stays : (s behind ys : List ℕ) → waits_behind s behind ≡ false → (ends_line s (behind ++ ys) ≡ ends_line s behind) × (waits_behind s (behind ++ ys) ≡ false)
unfolding ends_line waits_behind
stays [] behind ys w = (refl, refl)
stays (x ∷ []) [] [] w = (refl, w)
stays (x ∷ []) [] (y ∷ ys) w = (rw w, refl)
stays (x ∷ []) (b ∷ behind) ys w = (refl, refl)
stays (x ∷ y ∷ []) behind ys w = (refl, refl)
stays (x ∷ y ∷ z ∷ []) behind ys w = (refl, refl)
stays (x ∷ y ∷ z ∷ t ∷ ts) behind ys w = (refl, refl)

short : (s behind : List ℕ) → waits_behind s behind ≡ true → (length s ≤ most_pending) × (behind ≡ [])
unfolding waits_behind
short [] behind w = absurd (true≢false (cc))
short (x ∷ []) [] w = (omega arith, refl)
short (x ∷ []) (y ∷ behind) w = absurd (true≢false (cc))
short (x ∷ y ∷ ys) behind w = absurd (true≢false (cc))

line_firm : Firm line_rule most_pending
line_firm = record { stays = stays; short = short }

-- ---- THE SAME SEGMENTS, and so the same boundaries

pub reader-cut : (text : List ℕ) → map bare (cut reader text) ≡ cut bytes text
reader-cut = lined-cut bytes line_rule

pub reader_parted : {text : List ℕ} {n : ℕ} → Parted bytes text n → Parted reader text n
reader_parted = lined-parted bytes line_rule

pub parted_bytes : {text : List ℕ} {n : ℕ} → Parted reader text n → Parted bytes text n
parted_bytes = parted-bare bytes line_rule

-- ---- and its laws

pub reader_division : Division reader
reader_division = lined-division bytes_division line_firm

pub reader-hold : Holds reader most_pending
reader-hold = lined-holds bytes_division line_firm bytes-hold

pub reader-top : (x : ℕ) (xs : List ℕ) → (reader x xs).more < longest
reader-top x xs = omega (arith, bytes-top x xs)
