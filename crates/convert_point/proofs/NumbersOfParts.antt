-- The numbers of a part that is lent, and of what comes back, are that part of the numbers.
use mathlib.Core.Path.{◌≡◌, sym, ap, subst, ◌∙◌}
use Prim.Native.Nat.{ℕ, ◌-◌}
use mathlib.Core.List.{List, ◌++◌}
use lib.ListN.{length, take, drop}
use Rattle.terms.specs.Form.{Form}
use Rattle.terms.proofs.WalkWrites.{lent, back}
use Rattle.convert_point.specs.Puts.{fitting, Puts}
use Rattle.convert_point.specs.Numbers.{Numbers}

module _ {A : Type 0} {numbers : List A → List ℕ} (laws : Numbers numbers) where
  -- they lose nothing
  pub told-numbers : (a b : List A) → numbers a ≡ numbers b → a ≡ b
  told-numbers = laws.same

  pub numbers-lent : (xs : List A) (n : ℕ) → numbers (take (length xs - n) (drop n xs)) ≡ lent (numbers xs) n
  numbers-lent xs n =
      laws.taken (length xs - n) (drop n xs)
      ∙ ap (take (length xs - n)) (laws.dropped n xs)
      ∙ ap (λ (k : ℕ). take (k - n) (drop n (numbers xs))) (sym (laws.long xs))

  pub numbers-back : (xs : List A) (n : ℕ) (ys : List A) → numbers (take n xs ++ (ys ++ drop (length xs - n) (drop n xs))) ≡ back (numbers xs) n (numbers ys)
  numbers-back xs n ys =
      laws.joined (take n xs) (ys ++ drop (length xs - n) (drop n xs))
      ∙ ap (λ (zs : List ℕ). zs ++ numbers (ys ++ drop (length xs - n) (drop n xs))) (laws.taken n xs)
      ∙ ap (λ (zs : List ℕ). take n (numbers xs) ++ zs) (
      laws.joined ys (drop (length xs - n) (drop n xs))
      ∙ ap (λ (zs : List ℕ). numbers ys ++ zs) (
      laws.dropped (length xs - n) (drop n xs)
      ∙ ap (drop (length xs - n)) (laws.dropped n xs)
      ∙ ap (λ (k : ℕ). drop (k - n) (drop n (numbers xs))) (sym (laws.long xs))))

  -- a code point that was put into a part that is lent, in the numbers
  pub puts-lent : (G : Form) (c : ℕ) (xs : List A) (n : ℕ) (ys : List ℕ) (put : ℕ)
      → Puts (fitting G (length (take (length xs - n) (drop n xs))) c) (numbers (take (length xs - n) (drop n xs))) ys put
      → Puts (fitting G (length (lent (numbers xs) n)) c) (lent (numbers xs) n) ys put
  puts-lent G c xs n ys put h =
      let part : List A = take (length xs - n) (drop n xs) in
      subst (λ (p : List ℕ). Puts (fitting G (length p) c) p ys put) (numbers-lent xs n)
      (subst (λ (k : ℕ). Puts (fitting G k c) (numbers part) ys put) (sym (laws.long part)) h)
