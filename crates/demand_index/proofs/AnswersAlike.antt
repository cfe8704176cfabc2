-- Two lookups that answer the same are told to be the same by `==`.
use Rattle.std.proofs.Common.{rules, ◌≡◌, Bool, true}
use Rattle.std.specs.Prelude.{Result}
use Rattle.std.specs.Result.{result_eq}
use Rattle.terms.specs.declared.Refusal.{Refusal}
use Rattle.terms.specs.contracts.RefusalPartialEq.TheImpl as of-refusal
use Rattle.place.specs.declared.Place.{Place}
use Rattle.place.specs.contracts.PlacePartialEq.TheImpl as of_place

pub same_answers : {r : Bool} (a b : Result Place Refusal) → r ≡ result_eq of_place.eq-value.it of-refusal.eq-value.it a b → a ≡ b → r ≡ true
same_answers a b e h = search rules
