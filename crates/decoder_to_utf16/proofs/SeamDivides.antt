-- What is pending and a piece behind it, where something is settled: the text divides into the segment at their seam, which is written
-- alike as a text of its own, and what the piece has behind it.
use mathlib.Core.Path.{◌≡◌, sym, ap, ◌∙◌}
use Prim.Native.Nat.{ℕ, ◌-◌, ◌≤◌}
use mathlib.Core.Bool.{true, false}
use mathlib.Core.List.{List, [], ◌∷◌, ◌++◌}
use lib.ListN.{length, take, drop}
use lib.Seq.{length-take-le}
use native.Mathlib.Omega.{arith}
use Rattle.theory.specs.Reader.{Segment, cut, parts, pending}
use Rattle.theory.specs.Table.{ended, Kind, damage}
use Rattle.theory.specs.Tally.{written, total, size, Log}
use Rattle.theory.proofs.Divisions.{before}
use Rattle.terms.specs.Told.{told_first, first_says, size_of}
use Rattle.terms.specs.declared.First.{First}
use Rattle.terms.specs.declared.First.TheVariants.{Nothing, Whole, Damage, Begun}
use Rattle.terms.proofs.WalkBySegments.{seen}
use Rattle.utf8.specs.Bytes.{bytes, rows, lone_byte}
use Rattle.utf8.proofs.RowsOfBytes.{bytes_division}
use Rattle.utf8_pending.specs.Tail.{first_settled, seamed}
use Rattle.utf8_pending.proofs.SettledFirst.{bytes-short, settled-inside, told-size}
use Rattle.utf8_pending.proofs.SeamIsFirst.{seamed_empty, read_behind}
use Rattle.decoder_shared.specs.Inside.Steps.{tallied, told_of, tallied_as}
use Rattle.decoder_shared.proofs.SettledIsCut.{Cuttable, Causeless, table-cut, first-of-cut}
use Rattle.decoder_shared.proofs.TalliedWalk.{told-short, told}
use Rattle.decoder.proofs.SettledByReader.{first_is, settled_is}

-- bytes are read alike where the text is cut off behind a segment
pub bytes_cut : Cuttable bytes
unfolding bytes
bytes_cut = table-cut rows lone_byte

-- what is written for the settled segment of a text is written for it as a text of its own
head-written : (write : Segment Kind → List ℕ) → Causeless write → (text : List ℕ)
    → written write (cut bytes (take (total size (first_settled bytes text)) text)) ≡ written write (first_settled bytes text)
head-written write causeless text = rw (first_is text) (first-of-cut bytes_division bytes_cut write causeless text)

-- a segment that was told is settled, unless nothing is settled of a text that is not empty
settled-told : (seg : First) (text : List ℕ) → told_first seg ≡ first_says bytes text → (total size (first_settled bytes text) ≡ 0 → text ≡ [])
    → size_of seg ≡ total size (first_settled bytes text)
settled-told Nothing text e f = told-size Nothing text e
settled-told (Whole n) text e f = told-size (Whole n) text e
settled-told (Damage n c) text e f = told-size (Damage n c) text e
settled-told (Begun n) text e f =
    let s = seen bytes text n (damage ended) false e in
    let z : 0 ≡ length (s.head ∷ s.tail) = ap length (sym (f (sym (told-size (Begun n) text e))) ∙ s.text-is) in
    absurd (omega arith)

-- n pending bytes, and the seam as it is read
module _ (tail piece seam : List ℕ) (n : ℕ) (begins : pending bytes tail ≡ true) (long : length tail ≡ n) (seam-is : seam ≡ seamed tail piece) where
  abbrev taken : ℕ
  taken = total size (first_settled bytes seam)

  abbrev head : List ℕ
  head = take taken seam

  pub head-long : length head ≡ taken
  head-long = length-take-le taken seam (settled-inside bytes-short seam)

  -- the segment at the seam is settled, and the piece goes on behind it
  module _ (h : n ≤ taken) (seg : First) (e : told_first seg ≡ first_says bytes seam) where
    -- it has all that the reader told of
    told-all : size_of seg ≡ taken
    told-all = settled-told seg seam e (λ z. seam-is ∙ seamed_empty tail piece (long ∙ omega arith))

    pub seam-size : size_of seg ≡ length head
    seam-size = told-all ∙ sym head-long

    head-told : told_of seg head ≡ first_settled bytes seam
    head-told = ap (λ (k : ℕ). told_of seg (take k seam)) (sym told-all) ∙ told-short seg seam ∙ settled_is seg seam e

    pub seam-all : total size (told_of seg head) ≡ length head
    seam-all = rw head-told (sym head-long)

    pub seam-divides : parts bytes (tail ++ piece) ≡ before (told_of seg head) (parts bytes (drop (taken - n) piece))
    seam-divides = rw head-told (read_behind bytes-short tail piece seam n begins long seam-is h)

    pub seam-tells : (room : ℕ) (l : Log) → l.out ≡ [] → tallied_as room seg l ≡ tallied room l (told_of seg head)
    seam-tells room l o = rw (head-told, first_is seam) ((told bytes_division seam seg e).tallies room l o)

    pub seam-writes : (write : Segment Kind → List ℕ) → Causeless write → written write (cut bytes head) ≡ written write (told_of seg head)
    seam-writes write causeless = rw head-told (head-written write causeless seam)
