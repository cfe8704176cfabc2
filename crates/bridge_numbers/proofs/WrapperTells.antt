-- A wrapper's promise, from what the wrapped call answered, what was said of it and the telling.
use mathlib.Core.Path.{◌≡◌, refl, ◌∙◌, subst}
use Prim.Native.Nat.{ℕ, ◌≤◌, ◌<◌}
use mathlib.Core.Bool.{Bool, true, false, ◌&&◌}
use mathlib.Core.List.{List}
use Rattle.std.specs.Prelude.{Result}
use lib.ListN.{length}
use borrow.Author.Tests.{le-leb, lt-leb}
use Rattle.terms.specs.Told.{told_written}
use Rattle.terms.specs.Writing as call
use Rattle.terms.specs.declared.Refusal.{Refusal}
use Rattle.bridge_numbers.specs.Telling.{saying, said_of, roomy, not_called, Tells}
use Rattle.bridge_numbers.specs.declared.telling.Said.{Said}
use Rattle.bridge_numbers.specs.Writing.{Writes}
use Rattle.bridge_numbers.proofs.AllSaid.{said_written}

-- what is said may be said in other words
pub as_said : {called : Bool} {a b says says' : List ℕ} {r : ℕ} → a ≡ b → Tells called a says says' r → Tells called b says says' r
as_said {called} {says = says} {says' = says'} {r = r} e t = subst (λ (l : List ℕ). Tells called l says says' r) e t

-- where nothing is called, nothing is told
pub untold : {called : Bool} {said says : List ℕ} → called ≡ false → Tells called said says says not_called
untold e = rw e (record { reply = refl; told = refl })

-- where there is room, what is said is told
pub roomed : {said says says' : List ℕ} {r : ℕ} → 8 ≤ length says → Tells (roomy says) said says says' r → Tells true said says says' r
roomed {says = says} h t = rw (le-leb 8 (length says) h) at t

-- one test more, which passed
pub also : {a b : Bool} {said says says' : List ℕ} {r : ℕ} → a ≡ true → Tells b said says says' r → Tells (a && b) said says says' r
also e t = rw e t

-- ---- a call that writes

pub unwritten : {said form out says : List ℕ} → length says < 8 → Writes (roomy says) said form out out says says not_called
unwritten {says = says} h = rw (lt-leb 8 (length says) h) (record { tells = record { reply = refl; told = refl }; output = refl })

pub wrote : {said form out out' says says' : List ℕ} {r : ℕ} {w : Result ℕ Refusal} {s : Said} → 8 ≤ length says
    → call.Writes said form out out' w → s ≡ said_of (told_written w) → Tells (roomy says) (saying s) says says' r
    → Writes (roomy says) said form out out' says says' r
wrote {says = says} {w = v} h w s t =
    rw (le-leb 8 (length says) h) (record { tells = as_said (said_written v s ∙ w.answer) (roomed h t); output = w.output })
