-- All that an answer tells is said of it: no answer tells more numbers than there are places.
use mathlib.Core.Path.{◌≡◌, ap}
use Prim.Native.Nat.{ℕ}
use Rattle.std.specs.Prelude.{Option, None, Some, Result, Ok, Err}
use Rattle.terms.specs.Form.{told_point}
use Rattle.terms.specs.Told.{told_refusal, told_first, told_checked, told_written}
use Rattle.terms.specs.declared.First.{First}
use Rattle.terms.specs.declared.First.TheVariants as the-first
use Rattle.terms.specs.declared.Point.{Point}
use Rattle.terms.specs.declared.Refusal.{Refusal}
use Rattle.terms.specs.declared.Refusal.TheVariants.{Damaged, OverLimit, NoRoom, PastEnd, Inside, Unusable, ListRoom, BadState, NoScalar, NotInPage}
use Rattle.decoder.specs.Feeding.{told_total}
use Rattle.decoder_shared.specs.declared.Totals.{Totals}
use Rattle.place.specs.Lookup.{told_placed}
use Rattle.place.specs.declared.Place.{Place}
use Rattle.find.specs.Match.{told_match}
use Rattle.bridge_numbers.specs.Telling.{saying, said_of}
use Rattle.bridge_numbers.specs.declared.telling.Said.{Said}

pub said_refusal : (r : Refusal) {s : Said} → s ≡ said_of (told_refusal r) → saying s ≡ told_refusal r
said_refusal (Damaged start length cause) e = ap saying e
said_refusal OverLimit e = ap saying e
said_refusal (NoRoom needed) e = ap saying e
said_refusal PastEnd e = ap saying e
said_refusal Inside e = ap saying e
said_refusal (Unusable checkpoint) e = ap saying e
said_refusal ListRoom e = ap saying e
said_refusal BadState e = ap saying e
said_refusal (NoScalar position) e = ap saying e
said_refusal (NotInPage offset) e = ap saying e

pub said_checked : (a : Result (Unit {0}) Refusal) {s : Said} → s ≡ said_of (told_checked a) → saying s ≡ told_checked a
said_checked (Ok x) e = ap saying e
said_checked (Err r) e = said_refusal r e

pub said_written : (a : Result ℕ Refusal) {s : Said} → s ≡ said_of (told_written a) → saying s ≡ told_written a
said_written (Ok n) e = ap saying e
said_written (Err r) e = said_refusal r e

pub said_first : (a : First) {s : Said} → s ≡ said_of (told_first a) → saying s ≡ told_first a
said_first the-first.Nothing e = ap saying e
said_first (the-first.Whole n) e = ap saying e
said_first (the-first.Damage n cause) e = ap saying e
said_first (the-first.Begun n) e = ap saying e

pub said_point : (p : Option Point) {s : Said} → s ≡ said_of (told_point p) → saying s ≡ told_point p
said_point None e = ap saying e
said_point (Some p) e = ap saying e

pub said_placed : (a : Result Place Refusal) {s : Said} → s ≡ said_of (told_placed a) → saying s ≡ told_placed a
said_placed (Ok p) e = ap saying e
said_placed (Err r) e = said_refusal r e

pub said_match : (m : Result (Option ℕ) Refusal) {s : Said} → s ≡ said_of (told_match m) → saying s ≡ told_match m
said_match (Ok (Some k)) e = ap saying e
said_match (Ok None) e = ap saying e
said_match (Err r) e = said_refusal r e

pub said_total : (a : Result Totals Refusal) {s : Said} → s ≡ said_of (told_total a) → saying s ≡ told_total a
said_total (Ok t) e = ap saying e
said_total (Err r) e = said_refusal r e
