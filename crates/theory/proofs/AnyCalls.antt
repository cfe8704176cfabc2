-- THE LAW OF CALLS: what every granted call keeps holds after any calls, with refused ones between them; and calls that feed a
-- stream leave the one of the joined text.
use mathlib.Core.Path.{◌≡◌, ap, ◌∙◌}
use Prim.Native.Nat.{ℕ}
use mathlib.Core.Bool.{true}
use mathlib.Core.List.{List, [], ◌∷◌, ◌++◌, append_assoc, append-nil, foldl, foldl-append}
use Rattle.theory.specs.Reader.{Reader, Segment, cut}
use Rattle.theory.specs.Stream.{join, State, fresh, after, feed, finish}
use Rattle.theory.specs.Course.{Calls, Course, uncalled, called, course}
use Rattle.theory.proofs.Cases.{split}
use Rattle.theory.proofs.Divisions.{Division, cut_parts}
use Rattle.theory.proofs.PieceMore.{feed-after, after-nil}

pub join_more : (ps : List (List ℕ)) (p : List ℕ) → join (ps ++ p ∷ []) ≡ join ps ++ p
join_more [] p = append-nil p
join_more (q ∷ ps) p = rw (join_more ps p, append_assoc)

module _ {H C : Type 0} (calls : Calls H C) (Keeps : List ℕ → H → Type 0) where
  -- a granted call keeps what holds of the text so far and of what the caller has
  abbrev pub Kept : Type 0
  Kept = (text : List ℕ) (h : H) (c : C) → calls.grants h c ≡ true → Keeps text h → Keeps (text ++ calls.piece h c) (calls.goes h c)

  module _ (kept : Kept) where
    called-keeps : (r : Course H) (c : C) → Keeps (join r.pieces) r.caller
        → Keeps (join (called calls r c).pieces) (called calls r c).caller
    called-keeps r c k = split (calls.grants r.caller c)
        (λ e. rw (e, join_more r.pieces (calls.piece r.caller c)) (kept (join r.pieces) r.caller c e k))
        (λ e. rw e k)

    keeps_on : (r : Course H) (cs : List C) → Keeps (join r.pieces) r.caller
        → Keeps (join (foldl (called calls) r cs).pieces) (foldl (called calls) r cs).caller
    keeps_on r [] k = k
    keeps_on r (c ∷ cs) k = keeps_on (called calls r c) cs (called-keeps r c k)

    pub course-keeps : (h : H) → Keeps [] h → (cs : List C) → Keeps (join (course calls h cs).pieces) (course calls h cs).caller
    course-keeps h k cs = keeps_on (uncalled h) cs k

-- ---- calls that feed a stream, of which what the caller has is the state

module _ {K M H : Type 0} {look : Reader K} (D : Division look) (act : M → Segment K → M) (start : M) (reads : H → State M) where
  -- it is that of a text
  abbrev pub Follows : List ℕ → H → Type 0
  Follows text h = reads h ≡ after look act start text

  pub follows-start : (h : H) → reads h ≡ fresh start → Follows [] h
  follows-start h e = rw (after-nil D act start) e

  -- a call that feeds a piece follows the longer text
  pub follows_next : (text piece : List ℕ) (h h' : H) → Follows text h → reads h' ≡ feed look act (reads h) piece → Follows (text ++ piece) h'
  follows_next text piece h h' f e = e ∙ ap (λ (s : State M). feed look act s piece) f ∙ feed-after D act start text piece

  -- and at the end there is what the segments of the text do
  pub follows-end : (text : List ℕ) (h : H) → Follows text h → finish look act (reads h) ≡ foldl act start (cut look text)
  follows-end text h f = ap (finish look act) f ∙ rw (cut_parts look text, foldl-append)
