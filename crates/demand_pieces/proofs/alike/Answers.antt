-- `alike` meets its contract: the whole repair, and then both ways.
use mathlib.Core.Path.{sym, ap, ◌∙◌}
use Prim.Native.Nat.{◌≤◌}
use mathlib.Core.List.{[], ◌∷◌}
use lib.ListN.{length}
use lib.Seq.{length-take-le}
use native.Mathlib.Omega.{arith}
use Rattle.terms.specs.Told.{told_refusal}
use Rattle.terms.proofs.AnswersWritten.{repair-count}
use Rattle.decoder.specs.State.{byte_decoding}
use Rattle.demand_feeding.specs.Comparing.{due}
use Rattle.demand_feeding.specs.Pieces.{form_of}
use Rattle.demand_feeding.proofs.WholeRepairLeft.{repair-wrote, repair-within, repair-due, leaves-granted, leaves-refused}
use Rattle.demand_pieces.proofs.alike.Goals.{In-Ok}
use Rattle.demand_pieces.proofs.alike.Goals as goal

within : (c : In-Ok) → c.in-Ok.n ≤ length c.repair.new.out
within c =
    let a = c.args in
    let k = repair-count a.text.now (form_of byte_decoding a.text.now) a.whole.now c.repair.new.out c.repair.result
    c.repair.ensures c.in-Ok.n c.in-Ok.is in
    omega (arith, k.1, c.repair.auto.out)

pub slice_bounds-fed_alike-end : goal.slice_bounds-fed_alike-end
slice_bounds-fed_alike-end c = within c

pub slice_bounds-fed_alike-end-in-Ok : goal.slice_bounds-fed_alike-end-in-Ok
slice_bounds-fed_alike-end-in-Ok c = sym (length-take-le _ _ (within c))

pub fed_alike-requires : goal.fed_alike-requires
fed_alike-requires c =
    let a = c.args in
    let form = form_of byte_decoding a.text.now in (
      repair-wrote a.text.now form a.whole.now c.repair.ensures c.in-Ok.n c.in-Ok.is,
      repair-within a.text.now form a.whole.now c.repair.ensures c.in-Ok.n c.in-Ok.is,
    )

pub returns-in-Ok : goal.returns-in-Ok
returns-in-Ok c =
    let a = c.args in
    record {
      yes = c.fed_alike.ensures.yes;
      buffers = leaves-granted byte_decoding a.room a.text.now a.cuts.now (a.scant ∷ []) a.whole.now
          a.once.now a.once_list.now a.parts.now a.parts_list.now
          c.repair.ensures c.in-Ok.n c.in-Ok.is c.fed_alike.ensures.buffers;
    }

pub returns-in-Err : goal.returns-in-Err
returns-in-Err c =
    let a = c.args in
    let why = c.in-Err.why in
    record {
      yes =
          c.is_due.ensures
          ∙ ap (λ n. due (told_refusal why) (length a.text.now) n) c.repair.auto.out
          ∙ repair-due a.text.now (form_of byte_decoding a.text.now) a.whole.now c.repair.ensures why c.in-Err.is;
      buffers = leaves-refused byte_decoding a.room a.text.now a.cuts.now (a.scant ∷ []) a.whole.now
          a.once.now a.once_list.now a.parts.now a.parts_list.now
          c.repair.ensures why c.in-Err.is;
    }
