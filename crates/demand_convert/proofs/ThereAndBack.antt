-- THERE AND BACK: what a strict conversion granted comes back as it was, in all six directions; and what repair gives.
use mathlib.Core.Path.{◌≡◌, refl}
use Prim.Native.Nat.{ℕ, ◌≤◌}
use mathlib.Core.List.{List, [], ◌∷◌}
use lib.ListN.{length}
use Rattle.theory.specs.Table.{Kind}
use Rattle.theory.specs.Tally.{Entry}
use Rattle.terms.specs.Form.{Form, repaired, converted}
use Rattle.terms.specs.Limits.{limit}
use Rattle.terms.specs.Strict.{damages, damaged}
use Rattle.terms.specs.Writing.{convert_says}
use Rattle.terms.proofs.ConvertsBack.{Refuses, round_trip, repaired-whole, repaired-same, repaired-twice}
use Rattle.terms.proofs.FaithfulForms.{Faithful}
use Rattle.utf8.specs.Scalar.{utf8}
use Rattle.utf8.proofs.FaithfulForm.{utf8-faithful}
use Rattle.utf16.specs.Scalar.{utf16}
use Rattle.utf16.proofs.FaithfulForm.{utf16-faithful}
use Rattle.code_points.specs.Points.{code_points, no_scalar}
use Rattle.code_points.proofs.CodePointsDivide.{points-faithful}

-- a text of form F, converted to G where that is granted and the form between is within the limit, and converted back
abbrev pub Returns : (Entry Kind → List ℕ) → (Entry Kind → List ℕ) → Form → Form → Type 0
Returns refuse refuse' F G =
    (room room' : ℕ) (text ns : List ℕ) → convert_says refuse F G room text ≡ 0 ∷ ns → length (converted F G text) ≤ limit → length text ≤ room'
    → (convert_says refuse' G F room' (converted F G text) ≡ 0 ∷ length text ∷ []) × (converted G F (converted F G text) ≡ text)

comes_back : {F G : Form} → Faithful F → Faithful G → (refuse refuse' : Entry Kind → List ℕ) → Refuses refuse → Returns refuse refuse' F G
comes_back f g refuse refuse' n room room' text ns = round_trip f g refuse refuse' n room room' text

pub bytes-units : Returns damaged damaged utf8 utf16
bytes-units = comes_back utf8-faithful utf16-faithful damaged damaged (λ e. refl)

pub units-bytes : Returns damaged damaged utf16 utf8
units-bytes = comes_back utf16-faithful utf8-faithful damaged damaged (λ e. refl)

pub bytes-points : Returns damaged no_scalar utf8 code_points
bytes-points = comes_back utf8-faithful points-faithful damaged no_scalar (λ e. refl)

pub points-bytes : Returns no_scalar damaged code_points utf8
points-bytes = comes_back points-faithful utf8-faithful no_scalar damaged (λ e. refl)

pub units-points : Returns damaged no_scalar utf16 code_points
units-points = comes_back utf16-faithful points-faithful damaged no_scalar (λ e. refl)

pub points-units : Returns no_scalar damaged code_points utf16
points-units = comes_back points-faithful utf16-faithful no_scalar damaged (λ e. refl)

-- what is repaired is well-formed, a well-formed text stays as it is, and repairing twice is repairing once
pub record Repairs (F : Form) : Type 0 where
  pub whole : (text : List ℕ) → damages F.look (repaired F text) ≡ []
  pub same : (text : List ℕ) → damages F.look text ≡ [] → repaired F text ≡ text
  pub twice : (text : List ℕ) → repaired F (repaired F text) ≡ repaired F text

pub bytes-repair : Repairs utf8
bytes-repair = record { whole = repaired-whole utf8-faithful; same = repaired-same utf8; twice = repaired-twice utf8-faithful }

pub units-repair : Repairs utf16
units-repair = record { whole = repaired-whole utf16-faithful; same = repaired-same utf16; twice = repaired-twice utf16-faithful }
