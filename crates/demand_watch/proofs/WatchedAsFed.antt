-- The watch of a text byte by byte: its loop, and that it comes to the state and the count of one feed of the whole.
use mathlib.Core.Path.{◌≡◌, refl, sym, ap, ◌∙◌}
use Prim.Native.Nat.{ℕ, ◌+◌, ◌≤◌, ◌<◌}
use native.Mathlib.Numerals.{add-one}
use mathlib.Core.Bool.{Bool, true, cond}
use mathlib.Core.List.{List, [], ◌∷◌, ◌++◌, foldl-append}
use lib.ListN.{length, get_or, drop, length-append}
use lib.Seq.{drop-cons}
use native.Mathlib.Omega.{arith}
use Rattle.terms.specs.Limits.{limit, most_pending, fresh_of}
use Rattle.terms.specs.Told.{told_written, is_granted}
use Rattle.terms.specs.declared.Decoder.{Decoder}
use Rattle.std.specs.Prelude.{Ok}
use Rattle.decoder_shared.proofs.AnyCutting.{feed-grants}
use Rattle.decoder.specs.State.{sound, byte_decoding, fed, closed}
use Rattle.decoder.specs.Feeding.{feed_says, Feeds}
use Rattle.decoder_shared.specs.declared.Fed.{Fed}
use Rattle.decoder_watch.specs.Watching.{counting, watching, watched_all}
use Rattle.decoder_watch.specs.declared.Watched.{Watched}
use Rattle.decoder_watch.proofs.WatchIsFeed.{watched-all, watched-count}
use Rattle.demand_watch.specs.Watching.{watches}

-- one byte more
pub watches-next : (text : List ℕ) (w w' : Watched) (i : ℕ) → i < length text → w' ≡ watching w.state (get_or text i 0)
    → watches w (drop i text) ≡ watches w' (drop (i + 1) text)
watches-next text w w' i h e = ap (watches w) (drop-cons text i 0 h) ∙ rw (add-one i, e)

-- the last state
watches-state : (w : Watched) (bs : List ℕ) → (watches w bs).state ≡ watched_all w.state bs
watches-state w [] = refl
watches-state w (b ∷ bs) = watches-state (watching w.state b) bs

-- a list is empty, or has a last element
by_last : (P : List ℕ → Type 0) → P [] → ((xs : List ℕ) (x : ℕ) → P (xs ++ x ∷ [])) → (xs : List ℕ) → P xs
by_last P none last [] = none
by_last P none last (x ∷ xs) = by_last (λ (l : List ℕ). P (x ∷ l)) (last [] x) (λ ys y. last (x ∷ ys) y) xs

module _ (d : Decoder) (list : List ℕ) (three : length d.held ≡ most_pending) (s : sound d ≡ true) where
  -- the last reply
  reply-is : (text : List ℕ) → d.taken + length text ≤ limit → (watches (counting d) text).reply ≡ (fed d text list).kept.count
  reply-is = by_last
      (λ (text : List ℕ). d.taken + length text ≤ limit → (watches (counting d) text).reply ≡ (fed d text list).kept.count)
      (λ h. ap (λ (e : Decoder). e.count) (watched-all d [] list three s h))
      (λ xs x h.
      ap (λ (w : Watched). w.reply) (foldl-append (λ (w : Watched) (b : ℕ). watching w.state b) (counting d) xs (x ∷ []))
      ∙ ap (λ (e : Decoder). (watching e x).reply) (watches-state (counting d) xs)
      ∙ watched-count d xs list three s x (omega (arith, h, length-append xs (x ∷ []))))

-- BOTH ARE THOSE OF THE FEED
pub record Same (w : Watched) (q : Fed Decoder) : Type 0 where
  pub reply : w.reply ≡ q.state.count
  pub state : w.state ≡ q.state

pub same_as_fed : (room : ℕ) (text out list : List ℕ) {out' list' : List ℕ} (w : Watched) (q : Fed Decoder) → w ≡ watches (counting (fresh_of room)) text
    → Feeds (fresh_of room) text out list out' list' q → (n : ℕ) → q.answer ≡ Ok n → Same w q
same_as_fed room text out list w q e f n a =
    let d = fresh_of room in
    let g : is_granted (feed_says d text out list) ≡ true = ap is_granted (sym f.answer ∙ ap told_written a) in
    let ok = (feed-grants byte_decoding d text out list g).admits in
    let state : q.state ≡ closed d (d.taken + length text) (fed d text list)
    = f.state ∙ ap (λ (t : Bool). cond t (closed d (d.taken + length text) (fed d text list)) d) g in
    record {
      reply =
          ap (λ (v : Watched). v.reply) e ∙ reply-is d list refl ok.tests text ok.within ∙ ap (λ (k : Decoder). k.count) (sym state);
      state =
          ap (λ (v : Watched). v.state) e
          ∙ watches-state (counting d) text
          ∙ watched-all d text list refl ok.tests ok.within
          ∙ sym state;
    }
