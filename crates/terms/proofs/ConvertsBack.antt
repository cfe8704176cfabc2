-- The laws of conversion and repair, over any forms: what is written divides as it was meant, and comes back.
use mathlib.Core.Path.{◌≡◌, refl, sym, ap, ap₂, ◌∙◌}
use mathlib.Core.Logic.{◌↔◌}
use Prim.Native.Nat.{ℕ, ◌+◌, ◌≤◌}
use mathlib.Core.Bool.{Bool, true, false, true≢false}
use mathlib.Core.List.{List, [], ◌∷◌, ◌++◌, map, cons≢nil}
use lib.ListN.{length, get_or}
use lib.Dec.{ltb, eqb}
use borrow.Author.Tests.{ltb-false, le-ltb}
use native.Mathlib.Omega.{arith}
use Rattle.theory.specs.Reader.{Reader, Segment, body, first, rest, cut}
use Rattle.theory.specs.Table.{Kind, whole, damage, is_damage}
use Rattle.theory.specs.Tally.{size, written, Entry, entries}
use Rattle.theory.proofs.Cases.{split, All}
use Rattle.theory.proofs.Divisions.{cut-nil, cut-cons, by-segments, cut-text}
use Rattle.terms.specs.Limits.{limit}
use Rattle.terms.specs.Form.{is_scalar, Form, mend, repaired, point_of, converted}
use Rattle.terms.specs.Strict.{damages, strictly, damaged, limited, check_says}
use Rattle.terms.specs.Writing.{roomed, convert_says}
use Rattle.terms.proofs.FaithfulForms.{as_whole, Reads, Spells, Faithful}

-- ---- segments have no damage entries exactly if each of them is whole

abbrev pub AllWhole : List (Segment Kind) → Type 0
AllWhole ss = All (λ s. s.tag ≡ whole) ss

whole_is : (k : Kind) → is_damage k ≡ false → k ≡ whole
whole_is whole e = refl
whole_is (damage c) e = absurd (true≢false e)

pub none-whole : (at : ℕ) (ss : List (Segment Kind)) → entries is_damage at ss ≡ [] → AllWhole ss
none-whole at [] e = tt
none-whole at (s ∷ ss) e = split (is_damage s.tag)
    (λ d. absurd (cons≢nil (rw d at e)))
    (λ d. (whole_is s.tag d, none-whole (at + size s) ss (rw d at e)))

pub whole-none : (at : ℕ) (ss : List (Segment Kind)) → AllWhole ss → entries is_damage at ss ≡ []
whole-none at [] h = refl
whole-none at (s ∷ ss) h = rw h.0 (whole-none (at + size s) ss h.1)

-- ---- the code points of a faithful form

as_body : (xs : List ℕ) → (xs ≡ [] → ⊥) → body (as_whole xs) ≡ xs
as_body [] h = absurd (h refl)
as_body (x ∷ xs) h = refl

as_tag : (xs : List ℕ) → (as_whole xs).tag ≡ whole
as_tag [] = refl
as_tag (x ∷ xs) = refl

-- that of any segment is a scalar value
module _ {F : Form} (f : Reads F) where
  pub point-scalar : (x : ℕ) (xs : List ℕ) → is_scalar (point_of F (first F.look x xs)) ≡ true
  point-scalar x xs = split (is_damage (F.look x xs).tag) (λ d. rw d) (λ d. rw d (f.scalar x xs (whole_is _ d)))

  -- repair writes it again
  mend-is : (x : ℕ) (xs : List ℕ) → mend F (first F.look x xs) ≡ F.write (point_of F (first F.look x xs))
  mend-is x xs = split (is_damage (F.look x xs).tag) (λ d. rw d) (λ d. rw d (sym (f.again x xs (whole_is _ d))))

-- a number that a form has is written with some elements, and the segment of them has it for its code point
module _ {F : Form} {has : ℕ → Bool} (f : Spells has F) where
  write-some : (c : ℕ) → has c ≡ true → F.write c ≡ [] → ⊥
  write-some c h e = cons≢nil (sym (f.firm c h []) ∙ rw e (cut-nil F.look))

  pub point-back : (c : ℕ) → has c ≡ true → point_of F (as_whole (F.write c)) ≡ c
  point-back c h = rw (as_tag (F.write c), as_body (F.write c) (write-some c h)) (f.back c h)

-- ---- a text in another form, where that has each of its code points

abbrev pub Had : (ℕ → Bool) → Form → List ℕ → Type 0
Had has F text = All (λ s. has (point_of F s) ≡ true) (cut F.look text)

module _ (F : Form) {G : Form} {has : ℕ → Bool} (g : Spells has G) where
  -- it divides into the code points that were meant, each as one whole segment
  pub had-cut : (text : List ℕ) → Had has F text → cut G.look (converted F G text) ≡ map (λ s. as_whole (G.write (point_of F s))) (cut F.look text)
  had-cut = by-segments F.look
      (λ (xs : List ℕ). Had has F xs → cut G.look (converted F G xs) ≡ map (λ s. as_whole (G.write (point_of F s))) (cut F.look xs))
      (λ h. rw (cut-nil F.look) (cut-nil G.look))
      (λ x xs ih h.
      let k : All (λ s. has (point_of F s) ≡ true) (first F.look x xs ∷ cut F.look (rest F.look x xs)) = rw (cut-cons F.look x xs) at h in
      rw (cut-cons F.look x xs, g.firm (point_of F (first F.look x xs)) k.0 (converted F G (rest F.look x xs)), ih k.1))

  -- so it is well-formed
  pub had-whole : (text : List ℕ) → Had has F text → damages G.look (converted F G text) ≡ []
  had-whole text h = whole-none 0 (cut G.look (converted F G text)) (rw (had-cut text h) (all_whole (cut F.look text)))
    where
      all_whole : (ss : List (Segment Kind)) → AllWhole (map (λ s. as_whole (G.write (point_of F s))) ss)
      all_whole [] = tt
      all_whole (s ∷ ss) = (as_tag (G.write (point_of F s)), all_whole ss)

  -- and has the same code points: converted on, it gives what the text itself gives
  pub had-through : (H : Form) (text : List ℕ) → Had has F text → converted G H (converted F G text) ≡ converted F H text
  had-through H = by-segments F.look (λ (xs : List ℕ). Had has F xs → converted G H (converted F G xs) ≡ converted F H xs)
      (λ h. rw (cut-nil F.look, cut-nil G.look))
      (λ x xs ih h.
      let c : ℕ = point_of F (first F.look x xs) in
      let k : All (λ s. has (point_of F s) ≡ true) (first F.look x xs ∷ cut F.look (rest F.look x xs)) = rw (cut-cons F.look x xs) at h in
      rw (cut-cons F.look x xs, g.firm c k.0 (converted F G (rest F.look x xs)), point-back g c k.0, ih k.1))

-- a form that has every scalar value has them all
pub all_had : {F : Form} → Reads F → (text : List ℕ) → Had is_scalar F text
all_had {F} f = by-segments F.look (Had is_scalar F) (rw cut-nil tt) (λ x xs ih. rw (cut-cons F.look x xs) (point-scalar f x xs, ih))

pub converted-whole : {F G : Form} → Faithful F → Faithful G → (text : List ℕ) → damages G.look (converted F G text) ≡ []
converted-whole {F} f g text = had-whole F g.spells text (all_had f.reads text)

-- ---- repair

-- a well-formed text stays as it is, in any form
pub repaired-same : (F : Form) (text : List ℕ) → damages F.look text ≡ [] → repaired F text ≡ text
repaired-same F text d = same (cut F.look text) (none-whole 0 (cut F.look text) d) ∙ cut-text F.look text
  where
    same : (ss : List (Segment Kind)) → AllWhole ss → written (mend F) ss ≡ written body ss
    same [] h = refl
    same (s ∷ ss) h = rw h.0 (ap (λ (r : List ℕ). body s ++ r) (same ss h.1))

-- REPAIR IS CONVERSION into the same form
pub repaired-converted : {F : Form} → Reads F → (text : List ℕ) → repaired F text ≡ converted F F text
repaired-converted {F} f = by-segments F.look (λ (xs : List ℕ). repaired F xs ≡ converted F F xs)
    (rw (cut-nil F.look))
    (λ x xs ih. rw (cut-cons F.look x xs) (ap₂ ◌++◌ (mend-is f x xs) ih))

module _ {F : Form} (f : Faithful F) where
  -- so what is repaired is well-formed, and repaired again it is the same
  pub repaired-whole : (text : List ℕ) → damages F.look (repaired F text) ≡ []
  repaired-whole text = rw (repaired-converted f.reads text) (converted-whole f f text)

  pub repaired-twice : (text : List ℕ) → repaired F (repaired F text) ≡ repaired F text
  repaired-twice text = repaired-same F (repaired F text) (repaired-whole text)

-- ---- there and back

module _ {F G : Form} {has : ℕ → Bool} (f : Reads F) (g : Spells has G) where
  -- THERE AND BACK IS REPAIR
  pub there-and-repaired : (text : List ℕ) → Had has F text → converted G F (converted F G text) ≡ repaired F text
  there-and-repaired text h = had-through F g F text h ∙ sym (repaired-converted f text)

  -- and the identity on a well-formed text
  pub had-back : (text : List ℕ) → Had has F text → damages F.look text ≡ [] → converted G F (converted F G text) ≡ text
  had-back text h d = there-and-repaired text h ∙ repaired-same F text d

pub there_and_back : {F G : Form} → Faithful F → Faithful G → (text : List ℕ) → damages F.look text ≡ [] → converted G F (converted F G text) ≡ text
there_and_back f g text = had-back f.reads g.spells text (all_had f.reads text)

-- ---- the numbers of a strict conversion: what is granted has passed each check

pub limited-granted : (text granted : List ℕ) {ns : List ℕ} → limited text granted ≡ 0 ∷ ns → (length text ≤ limit) × (granted ≡ 0 ∷ ns)
limited-granted text granted e = split (ltb limit (length text))
    (λ t. let z : ◌≡◌ {A = ℕ} 2 0 = cc in absurd (omega arith))
    (λ t. (ltb-false limit (length text) t, rw t at e))

-- the number that damage is refused by is not 0
abbrev pub Refuses : (Entry Kind → List ℕ) → Type 0
Refuses refuse = (e : Entry Kind) → eqb (get_or (refuse e) 0 0) 0 ≡ false

pub strictly-granted : (refuse : Entry Kind → List ℕ) → Refuses refuse → (es : List (Entry Kind)) (granted : List ℕ) {ns : List ℕ}
    → strictly refuse es granted ≡ 0 ∷ ns → (es ≡ []) × (granted ≡ 0 ∷ ns)
strictly-granted refuse refuses [] granted e = (refl, e)
strictly-granted refuse refuses (x ∷ es) granted e = absurd (true≢false (rw e at (refuses x)))

-- THE CHECK ACCEPTS exactly the texts within the limit that are what texts with no damage are, of any reader
pub check_accepts : {Formed : List ℕ → Type 0} (look : Reader Kind) → ((text : List ℕ) → (damages look text ≡ []) ↔ Formed text)
    → (text : List ℕ) → (check_says look text ≡ 0 ∷ []) ↔ ((length text ≤ limit) × Formed text)
check_accepts look formed text = (
  (λ e.
      let l = limited-granted text (strictly damaged (damages look text) (0 ∷ [])) e in
      (l.0, (formed text).0 (strictly-granted damaged (λ _. refl) (damages look text) (0 ∷ []) l.1).0)),
  (λ h. rw (le-ltb limit (length text) h.0, (formed text).1 h.1)),
)

pub roomed-granted : (room : ℕ) (form : List ℕ) {ns : List ℕ} → roomed room form ≡ 0 ∷ ns → length form ≤ room
roomed-granted room form e = split (ltb room (length form))
    (λ t. let z : ◌≡◌ {A = ℕ} 3 0 = cc in absurd (omega arith))
    (λ t. ltb-false room (length form) t)

pub record Granted (F G : Form) (room : ℕ) (text : List ℕ) : Type 0 where
  pub within : length text ≤ limit
  pub clean : damages F.look text ≡ []
  pub fits : length (converted F G text) ≤ room

module _ (refuse : Entry Kind → List ℕ) (F G : Form) (room : ℕ) (text : List ℕ) where
  pub granted-says : Granted F G room text → convert_says refuse F G room text ≡ 0 ∷ length (converted F G text) ∷ []
  granted-says h = rw (le-ltb limit (length text) h.within, h.clean, le-ltb room (length (converted F G text)) h.fits)

  pub says-granted : Refuses refuse → {ns : List ℕ} → convert_says refuse F G room text ≡ 0 ∷ ns → Granted F G room text
  says-granted refuses e =
      let l = limited-granted text (strictly refuse (damages F.look text) (roomed room (converted F G text))) e in
      let s = strictly-granted refuse refuses (damages F.look text) (roomed room (converted F G text)) l.1 in
      record { within = l.0; clean = s.0; fits = roomed-granted room (converted F G text) s.1 }

-- THE ROUND TRIP, in the numbers of the calls: what a strict conversion granted comes back as it was, where the form between is
-- within the limit too and the output has a place for each element of the text
module _ {F G : Form} (f : Faithful F) (g : Faithful G) (refuse refuse' : Entry Kind → List ℕ) (refuses : Refuses refuse)
    (room room' : ℕ) (text : List ℕ) where
  pub round_trip : {ns : List ℕ} → convert_says refuse F G room text ≡ 0 ∷ ns → length (converted F G text) ≤ limit → length text ≤ room'
      → (convert_says refuse' G F room' (converted F G text) ≡ 0 ∷ length text ∷ []) × (converted G F (converted F G text) ≡ text)
  round_trip e l r =
      let same : converted G F (converted F G text) ≡ text = there_and_back f g text (says-granted refuse F G room text refuses e).clean in
      let h : Granted G F room' (converted F G text) = record { within = l; clean = converted-whole f g text; fits = rw same r } in
      (granted-says refuse' G F room' (converted F G text) h ∙ rw same, same)
