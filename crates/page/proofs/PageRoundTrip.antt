-- THE ROUND TRIPS, over any page: from a page text and back, and from a byte text whose code points the page has.
use mathlib.Core.Path.{◌≡◌, refl, ap, ◌∙◌}
use Prim.Native.Nat.{ℕ, suc, ◌≤◌, ◌<◌}
use mathlib.Core.Bool.{true}
use mathlib.Core.List.{List, [], ◌∷◌, map}
use lib.ListN.{length, get_or, take, drop, length-append, take-append-drop}
use borrow.Author.Tests.{le-ltb, lt-ltb}
use native.Mathlib.Omega.{arith}
use Rattle.theory.specs.Reader.{Segment, cut}
use Rattle.theory.specs.Table.{Kind}
use Rattle.theory.proofs.Cases.{All}
use Rattle.theory.proofs.Divisions.{cut-nil, cut-cons, by-segments}
use Rattle.terms.specs.Form.{is_scalar, point_of, converted}
use Rattle.terms.specs.Limits.{limit}
use Rattle.terms.specs.Strict.{damages, strictly, damaged}
use Rattle.terms.specs.Writing.{roomed, repair_says}
use Rattle.terms.proofs.FaithfulForms.{as_whole}
use Rattle.terms.proofs.ConvertsBack.{Had, point-back, had-cut, had-whole, had-back, all_had, limited-granted, strictly-granted, roomed-granted}
use Rattle.utf8.specs.Bytes.{bytes}
use Rattle.utf8.specs.Scalar.{utf8}
use Rattle.utf8.proofs.FaithfulForm.{utf8-faithful}
use Rattle.page.specs.Paged.{has, single, paged, IsPage}
use Rattle.page.specs.Lacking.{lacking, held_by, to_page_says}
use Rattle.page.proofs.NoneLacking.{none-had, had-none}
use Rattle.page.proofs.PlaceInTable.{stands-has}
use Rattle.page.proofs.PageForm.{page-reads, page-spells, page_whole}

-- ---- what a call that grants has passed

held_by-granted : (offsets granted : List ℕ) {ns : List ℕ} → held_by offsets granted ≡ 0 ∷ ns → (offsets ≡ []) × (granted ≡ 0 ∷ ns)
held_by-granted [] granted e = (refl, e)
held_by-granted (o ∷ os) granted e = let z : ◌≡◌ {A = ℕ} 10 0 = cc in absurd (omega arith)

pub record Granted (table : List ℕ) (room : ℕ) (text : List ℕ) : Type 0 where
  pub within : length text ≤ limit
  pub clean : damages bytes text ≡ []
  pub held : lacking table 0 (cut bytes text) ≡ []
  pub fits : length (converted utf8 (paged table) text) ≤ room

module _ (table : List ℕ) (room : ℕ) (text : List ℕ) where
  pub says-granted : {ns : List ℕ} → to_page_says table room text ≡ 0 ∷ ns → Granted table room text
  says-granted e =
      let form : List ℕ = converted utf8 (paged table) text in
      let l = limited-granted text (strictly damaged (damages bytes text) (held_by (lacking table 0 (cut bytes text)) (roomed room form))) e in
      let s = strictly-granted damaged (λ _. refl) (damages bytes text) (held_by (lacking table 0 (cut bytes text)) (roomed room form)) l.1 in
      let h = held_by-granted (lacking table 0 (cut bytes text)) (roomed room form) s.1 in
      record { within = l.0; clean = s.0; held = h.0; fits = roomed-granted room form h.1 }

  pub granted-says : Granted table room text → to_page_says table room text ≡ 0 ∷ length (converted utf8 (paged table) text) ∷ []
  granted-says g = rw (le-ltb limit (length text) g.within, g.clean, g.held, le-ltb room (length (converted utf8 (paged table) text)) g.fits)

-- a page text has a byte for each code point, and so no more than there are bytes
pub page_short : (table : List ℕ) (text : List ℕ) → length (converted utf8 (paged table) text) ≤ length text
page_short table = by-segments bytes (λ (text : List ℕ). length (converted utf8 (paged table) text) ≤ length text)
    (rw cut-nil (omega arith))
    (λ x xs ih.
    let m : ℕ = (bytes x xs).more in
    rw (cut-cons bytes x xs) (omega (arith, ih, ap length (take-append-drop m xs), length-append (take m xs) (drop m xs))))

module _ (table : List ℕ) (p : IsPage table) where
  -- ---- FROM A PAGE TEXT, and back

  -- a page has what its own bytes stand for
  own-had : (text : List ℕ) → ((i : ℕ) → get_or text i 0 < 256) → Had (has table) (paged table) text
  unfolding single
  own-had [] k = rw cut-nil tt
  own-had (x ∷ xs) k =
      let l : x < 256 = k 0 in
      rw (cut-cons single x xs) (rw (lt-ltb x 256 l) (stands-has (get_or table x 0) table x (omega (arith, p.long)) refl), own-had xs (λ i. k (suc i)))

  mapped : (ss : List (Segment Kind)) → All (λ s. is_scalar (point_of (paged table) s) ≡ true) ss → All (λ s. has table (point_of (paged table) s) ≡ true) ss
      → All (λ s. has table (point_of utf8 s) ≡ true) (map (λ s. as_whole (utf8.write (point_of (paged table) s))) ss)
  mapped [] a b = tt
  mapped (s ∷ ss) a b = (rw (point-back utf8-faithful.spells (point_of (paged table) s) a.0) b.0, mapped ss a.1 b.1)

  module _ (text : List ℕ) (small : (i : ℕ) → get_or text i 0 < 256) where
    abbrev as_bytes : List ℕ
    as_bytes = converted (paged table) utf8 text

    pub bytes_whole : damages bytes as_bytes ≡ []
    bytes_whole = had-whole (paged table) utf8-faithful.spells text (all_had (page-reads table p) text)

    pub bytes-had : Had (has table) utf8 as_bytes
    bytes-had =
        rw (had-cut (paged table) utf8-faithful.spells text (all_had (page-reads table p) text))
        (mapped (cut single text) (all_had (page-reads table p) text) (own-had text small))

    -- THE TEXT COMES BACK
    pub page-bytes-page : converted utf8 (paged table) as_bytes ≡ text
    page-bytes-page = had-back (page-reads table p) utf8-faithful.spells text (all_had (page-reads table p) text) (page_whole text small)

    pub page-comes-back : (room : ℕ) → length as_bytes ≤ limit → length text ≤ room → to_page_says table room as_bytes ≡ 0 ∷ length text ∷ []
    page-comes-back room l r =
        granted-says table room as_bytes
        (record { within = l; clean = bytes_whole; held = had-none table 0 (cut bytes as_bytes) bytes-had; fits = rw page-bytes-page r })
        ∙ rw page-bytes-page

  -- ---- FROM A BYTE TEXT that was not refused, and back

  module _ (text : List ℕ) (clean : damages bytes text ≡ []) (held : lacking table 0 (cut bytes text) ≡ []) where
    abbrev in_page : List ℕ
    in_page = converted utf8 (paged table) text

    -- THE TEXT COMES BACK
    pub bytes-page-bytes : converted (paged table) utf8 in_page ≡ text
    bytes-page-bytes = had-back utf8-faithful.reads (page-spells table p) text (none-had table 0 (cut bytes text) held) clean

  pub bytes-come-back : (room room' : ℕ) (text : List ℕ) {ns : List ℕ} → to_page_says table room text ≡ 0 ∷ ns → length text ≤ room'
      → (repair_says room' (converted utf8 (paged table) text) (converted (paged table) utf8 (converted utf8 (paged table) text)) ≡ 0 ∷ length text ∷ [])
      × (converted (paged table) utf8 (converted utf8 (paged table) text) ≡ text)
  bytes-come-back room room' text e r =
      let g = says-granted table room text e in
      let same = bytes-page-bytes text g.clean g.held in
      let l : length (converted utf8 (paged table) text) ≤ limit = omega (arith, g.within, page_short table text) in
      (rw (le-ltb limit (length (converted utf8 (paged table) text)) l, same, le-ltb room' (length text) r), same)
