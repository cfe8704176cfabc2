-- `cut` meets its contract: it ends where the last place lies that counts at most so much.
use mathlib.Core.Path.{◌≡◌, sym, ap, ◌∙◌}
use lib.ListN.{take}
use lib.Seq.{length-take-le}
use native.Mathlib.Omega.{arith}
use Rattle.utf8.specs.Classes.{classes}
use Rattle.utf8.proofs.ClassesRead.{table, by-table}
use Rattle.place.specs.Cutting.{ending}
use Rattle.place.specs.Walk.{number, measure, reached}
use Rattle.place.specs.declared.Place.{Place}
use Rattle.place.proofs.WalkReached.{start-roomy}
use Rattle.place_cut.proofs.LastPlaceKept.{ending_in}
use Rattle.place_cut.proofs.cut.Goals.{After-reach-end}
use Rattle.place_cut.proofs.cut.Goals as goal

pub reach-end-requires : goal.reach-end-requires
unfolding classes table
reach-end-requires c =
    record { roomy = rw c.start.ensures (start-roomy c.args.text.now (omega arith)); classes_value = by-table }

-- where it ends
end : (c : After-reach-end)
    → let a = c.args in c.reach-end.result.bytes ≡ ending (measure a.most) (number a.most) a.text.now
end c =
    let a = c.args in
    let from_start = ap (λ (p : Place). reached (measure a.most) (number a.most) p a.text.now) c.start.ensures in
    ap (λ (p : Place). p.bytes) (c.reach-end.ensures ∙ from_start)

pub slice_bounds-result-end : goal.slice_bounds-result-end
slice_bounds-result-end c =
    let a = c.args in
    sym (length-take-le c.reach-end.result.bytes a.text.now (rw (end c) (ending_in (measure a.most) (number a.most) a.text.now)))

pub returns : goal.returns
returns c = ap (λ n. take n c.args.text.now) (end c)
