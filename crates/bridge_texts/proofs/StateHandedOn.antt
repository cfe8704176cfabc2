-- The promise of a call that takes the state of a decoder from a slice and puts the next one there.
use mathlib.Core.Path.{◌≡◌, refl, ap, ◌∙◌}
use Prim.Native.Nat.{ℕ, ◌≤◌}
use mathlib.Core.Bool.{Bool, true, false}
use mathlib.Core.List.{List}
use lib.ListN.{length}
use Rattle.std.specs.Prelude.{Result}
use Rattle.terms.specs.Told.{told_checked, told_written}
use Rattle.terms.specs.declared.Decoder.{Decoder}
use Rattle.terms.specs.declared.Refusal.{Refusal}
use Rattle.decoder_shared.specs.Decoding.{Decoding}
use Rattle.decoder_shared.specs.Calls as call
use Rattle.decoder_shared.specs.Calls.{told_total}
use Rattle.decoder_shared.specs.declared.Totals.{Totals}
use Rattle.decoder_watch.specs.Watching.{watching}
use Rattle.decoder_watch.specs.declared.Watched.{Watched}
use Rattle.bridge_numbers.specs.Telling.{saying, said_of, put, not_called, Tells}
use Rattle.bridge_numbers.specs.States.{kept, decoder_numbers}
use Rattle.bridge_numbers.specs.declared.telling.Said.{Said}
use Rattle.bridge_numbers.proofs.HoldsState.{kept-long}
use Rattle.bridge_numbers.proofs.AllSaid.{said_checked, said_written, said_total}
use Rattle.bridge_numbers.proofs.WrapperTells.{as_said}
use Rattle.bridge_texts.specs.Keeping.{Starts, Feeds, Finishes, Watches}

-- ---- over any decoder, whose state is n numbers

module _ {S : Type 0} (D : Decoding S) (numbers : S → List ℕ) (n : ℕ) where
  -- the next state stands there
  put_is : (state : List ℕ) {state' : List ℕ} {d q : S} → n ≤ length state → state' ≡ kept n (numbers d) state → d ≡ q → state' ≡ put (numbers q) state
  put_is state {d = d} long k e = k ∙ kept-long n state (numbers d) long ∙ ap (λ (x : S). put (numbers x) state) e

  pub unstarted : {called : Bool} {room : ℕ} {state says : List ℕ} → called ≡ false → Starts D numbers called room state state says says not_called
  unstarted e = rw e (record { tells = record { reply = refl; told = refl }; next = refl })

  pub started : {called : Bool} {room : ℕ} {state state' says says' : List ℕ} {r : ℕ} {s : Said} → called ≡ true → (a : Result (Unit {0}) Refusal) (d : S)
      → call.Starts D room (told_checked a) d → n ≤ length state → state' ≡ kept n (numbers d) state → s ≡ said_of (told_checked a)
      → Tells true (saying s) says says' r → Starts D numbers called room state state' says says' r
  started {state = state} e a d f long k s t =
      rw e (record { tells = as_said (said_checked a s ∙ f.answer) t; next = put_is state long k f.state })

  pub unfed : {called : Bool} {d : S} {piece out list state says : List ℕ} → called ≡ false
      → Feeds D numbers called d piece out list out list state state says says not_called
  unfed e = rw e (record { tells = record { reply = refl; told = refl }; next = refl; output = refl; entries = refl })

  pub was-fed : {called : Bool} {d q : S} {piece out list out' list' state state' says says' : List ℕ} {r : ℕ} {s : Said}
      → called ≡ true → q ≡ d → (a : Result ℕ Refusal) (x : S) → call.Feeds D q piece out list out' list' (told_written a) x → n ≤ length state
      → state' ≡ kept n (numbers x) state → s ≡ said_of (told_written a) → Tells true (saying s) says says' r
      → Feeds D numbers called d piece out list out' list' state state' says says' r
  was-fed {state = state} e q a x f long k s t =
      rw (e, ← q)
      (record { tells = as_said (said_written a s ∙ f.answer) t; next = put_is state long k f.state; output = f.output; entries = f.entries })

  pub unfinished : {called : Bool} {d : S} {out list state says : List ℕ} → called ≡ false
      → Finishes D numbers called d out list out list state state says says not_called
  unfinished e = rw e (record { tells = record { reply = refl; told = refl }; next = refl; output = refl; entries = refl })

  pub was-finished : {called : Bool} {d q : S} {out list out' list' state state' says says' : List ℕ} {r : ℕ} {s : Said}
      → called ≡ true → q ≡ d → (a : Result Totals Refusal) (x : S) → call.Finishes D q out list out' list' (told_total a) x → n ≤ length state
      → state' ≡ kept n (numbers x) state → s ≡ said_of (told_total a) → Tells true (saying s) says says' r
      → Finishes D numbers called d out list out' list' state state' says says' r
  was-finished {state = state} e q a x f long k s t =
      rw (e, ← q)
      (record { tells = as_said (said_total a s ∙ f.answer) t; next = put_is state long k f.state; output = f.output; entries = f.entries })

-- ---- the watch

pub was_watched : {called : Bool} {d q : Decoder} {b : ℕ} {state state' : List ℕ} {w : Watched} → called ≡ true → q ≡ d
    → w ≡ watching q b → 9 ≤ length state → state' ≡ kept 9 (decoder_numbers w.state) state → Watches called d b state state' w.reply
was_watched {state = state} {w = v} e q w long k =
    rw (e, ← q)
    (record {
      reply = ap (λ (w : Watched). w.reply) w;
      next = k ∙ kept-long 9 state (decoder_numbers v.state) long ∙ ap (λ (w : Watched). put (decoder_numbers w.state) state) w;
    })
