-- The audit says yes to what a course of feeds that was finished left.
use mathlib.Core.Path.{◌≡◌, ap, ◌∙◌}
use Prim.Native.Nat.{ℕ, ◌≤◌}
use mathlib.Core.Bool.{true}
use mathlib.Core.List.{List}
use lib.ListN.{length}
use lib.Seq.{length-sets}
use native.Mathlib.Omega.{arith}
use Rattle.theory.specs.Stream.{join}
use Rattle.terms.specs.Told.{is_granted}
use Rattle.index_checkpoint.specs.Checkpoints.{needed, index_of}
use Rattle.index_audit.specs.Audits.{audit_says}
use Rattle.index_audit.proofs.YesToItsIndex.{audit-exactly}
use Rattle.index_build.specs.State.{build_says}
use Rattle.index_build.specs.Course.{fed_all}
use Rattle.index_build.proofs.GrantedOrRefused.{says-granted}
use Rattle.index_build.proofs.BuiltAsPlain.{keeps, keeps-holds, built_as_whole}
use Rattle.demand_index.proofs.CourseOfFeeds.{Finished}

pub finished-audit : {text row row' : List ℕ} → Finished text row row' → audit_says text row' ≡ true
finished-audit {text} {row} {row'} f =
    let r = fed_all row f.pieces in
    let whole : List ℕ = join r.pieces in
    let k = keeps row f.pieces in
    let e = built_as_whole row f.pieces row' f.call f.finishes f.grants in
    let g : is_granted (build_says r.caller.state 0 (length r.caller.row)) ≡ true = rw f.finishes.answer at f.grants in
    let l : length row' ≡ length row = ap length e.written ∙ length-sets row 0 (index_of whole) in
    let room : needed (length whole) ≤ length row'
    = omega (arith, (says-granted r.caller.state 0 r.caller.row g).room, (keeps-holds row _ _ k).taken, k.long, l) in
    rw (← f.joined) ((audit-exactly whole row').1 (k.within, room, e.index))
