-- What each answer tells, in the paper's numbers: the refusal's number and its values, or 0 and the values of what was granted.
use Rattle.std.specs.Prelude.{ℕ, suc, Bool, cond, List, [], ◌∷◌, get_or, eqb, Option, None, Some, Result, Ok, Err}
use Rattle.theory.specs.Reader.{Look, Reader}
use Rattle.theory.specs.Table.{ended, Kind, is_damage, cause_of}
use Rattle.terms.specs.declared.Cause.{Cause}
use Rattle.terms.specs.declared.First.{First}
use Rattle.terms.specs.declared.First.TheVariants.{Nothing, Whole, Damage, Begun}
use Rattle.terms.specs.declared.Refusal.{Refusal}
use Rattle.terms.specs.declared.Refusal.TheVariants.{Damaged, OverLimit, NoRoom, PastEnd, Inside, Unusable, ListRoom, BadState, NoScalar, NotInPage}

-- the causes by their numbers, whatever number one is, and 0 for none
abbrev pub number_of : Cause → ℕ
number_of c = c.0

abbrev pub told_cause : Option Cause → ℕ
told_cause None = 0
told_cause (Some c) = number_of c

-- THE TABLE OF REFUSALS
abbrev pub told_refusal : Refusal → List ℕ
told_refusal (Damaged start length cause) = 1 ∷ start ∷ length ∷ number_of cause ∷ []
told_refusal OverLimit = 2 ∷ []
told_refusal (NoRoom needed) = 3 ∷ needed ∷ []
told_refusal PastEnd = 4 ∷ []
told_refusal Inside = 5 ∷ []
told_refusal (Unusable checkpoint) = 6 ∷ checkpoint ∷ []
told_refusal ListRoom = 7 ∷ []
told_refusal BadState = 8 ∷ []
told_refusal (NoScalar position) = 9 ∷ position ∷ []
told_refusal (NotInPage offset) = 10 ∷ offset ∷ []

-- what stands first: 0 for whole and 1 for damage, the number of elements, 1 if that is sure, whatever follows, and the cause
abbrev pub told_first : First → List ℕ
told_first Nothing = []
told_first (Whole n) = 0 ∷ n ∷ 1 ∷ 0 ∷ []
told_first (Damage n cause) = 1 ∷ n ∷ 1 ∷ number_of cause ∷ []
told_first (Begun n) = 1 ∷ n ∷ 0 ∷ ended ∷ []

-- how many elements it has
abbrev pub size_of : First → ℕ
size_of Nothing = 0
size_of (Whole n) = n
size_of (Damage n cause) = n
size_of (Begun n) = n

-- why it is damaged, 0 where it is not
abbrev pub cause_told : First → ℕ
cause_told Nothing = 0
cause_told (Whole n) = 0
cause_told (Damage n cause) = number_of cause
cause_told (Begun n) = ended

abbrev pub caused : First → Option Cause
caused Nothing = None
caused (Whole n) = None
caused (Damage n cause) = Some cause
caused (Begun n) = Some (record { 0 = ended })

-- AN ANSWER: 0 and the values of what was granted, or the refusal
abbrev pub told : {A : Type 0} → (A → List ℕ) → Result A Refusal → List ℕ
told values (Ok a) = 0 ∷ values a
told values (Err r) = told_refusal r

-- of a call that grants and tells no value more, as a strict check
abbrev pub told_checked : Result (Unit {0}) Refusal → List ℕ
told_checked = told (λ _. [])

-- of a call that writes: how many places were written from the start of the output
abbrev pub told_written : Result ℕ Refusal → List ℕ
told_written = told (λ n. n ∷ [])

-- a test as a number
abbrev pub bit : Bool → ℕ
bit b = cond b 1 0

-- WHAT THE SEGMENT READER TELLS of a look, and of a text
abbrev pub look_says : Look Kind → List ℕ
look_says l = bit (is_damage l.tag) ∷ suc l.more ∷ bit l.sure ∷ cause_of l.tag ∷ []

abbrev pub first_says : Reader Kind → List ℕ → List ℕ
first_says look [] = []
first_says look (x ∷ xs) = look_says (look x xs)

-- an answer in these numbers grants
abbrev pub is_granted : List ℕ → Bool
is_granted says = eqb (get_or says 0 0) 0

-- what stands where it does, and what stands where it refuses
abbrev pub if_granted : {A : Type 0} → List ℕ → A → A → A
if_granted says new old = cond (is_granted says) new old
