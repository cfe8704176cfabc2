-- A run of whole segments, over any reader, written form and room: nothing of it is left while more text may follow, and the log
-- behind it has its elements more, its written form, and no entry.
use mathlib.Core.Path.{◌≡◌, ◌∙◌}
use Prim.Native.Nat.{ℕ, ◌+◌}
use native.Mathlib.Nat.{add-zero, add_assoc}
use mathlib.Core.Bool.{Bool, true, false}
use mathlib.Core.List.{List, [], ◌∷◌, ◌++◌, append_assoc, append-nil, foldl}
use Rattle.theory.specs.Reader.{Reader, Segment, first, rest, cut, parts}
use Rattle.theory.specs.Tally.{written, total, size, Entry, Log, log}
use Rattle.theory.proofs.Cases.{All}
use Rattle.theory.proofs.Divisions.{Division, before, by-segments, cut-nil, cut-cons, parts-nil, parts-sure, parts-append}

module _ {K : Type 0} (bad : K → Bool) where
  -- none of them is damage
  abbrev pub Undamaged : List (Segment K) → Type 0
  Undamaged = All (λ s. bad s.tag ≡ false)

  -- ---- how a text divides behind a run, where what is whole is sure

  module _ (look : Reader K) (sure : (x : ℕ) (xs : List ℕ) → bad (look x xs).tag ≡ false → (look x xs).sure ≡ true) where
    pub run_settled : (run : List ℕ) → Undamaged (cut look run) → parts look run ≡ record { done = cut look run; left = [] }
    run_settled = by-segments look (λ (run : List ℕ). Undamaged (cut look run) → parts look run ≡ record { done = cut look run; left = [] })
        (λ w. parts-nil look ∙ rw (cut-nil look))
        (λ x xs ih w.
        let v : Undamaged (first look x xs ∷ cut look (rest look x xs)) = rw (cut-cons look x xs) at w in
        parts-sure look x xs (sure x xs v.0) ∙ rw (ih v.1, cut-cons look x xs))

    -- its segments are settled, and then those of the rest
    pub run-parts : Division look → (run text : List ℕ) → Undamaged (cut look run) → parts look (run ++ text) ≡ before (cut look run) (parts look text)
    run-parts D run text w = parts-append D run text ∙ rw (run_settled run w)

  -- ---- what a run does to a log, whatever each segment is written as

  module _ (w : Segment K → List ℕ) (enc : Entry K → List ℕ) (width room : ℕ) where
    pub run-logged : (l : Log) (ss : List (Segment K)) → Undamaged ss
        → foldl (log bad w enc width room) l ss
        ≡ record { whole = l.whole + total size ss; damaged = l.damaged; count = l.count; out = l.out ++ written w ss; list = l.list }
    run-logged l [] a = simp (add-zero, append-nil)
    run-logged l (s ∷ ss) a = run-logged (log bad w enc width room l s) ss a.1 ∙ rw a.0 (simp (add-zero, add_assoc, append_assoc))
