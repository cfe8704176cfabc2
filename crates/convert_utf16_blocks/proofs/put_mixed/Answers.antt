-- One unit more each time, and one place fewer that is written over.
use Rattle.std.proofs.Common.{◌+◌, refl, sym, arith}
use Rattle.terms.proofs.WalkWrites.{back}
use Rattle.convert_utf16_blocks.proofs.BytesSqueezed.{put_next}
use Rattle.convert_utf16_blocks.proofs.put_mixed.Goals as goal

pub returns : goal.returns
returns c =
    let u = c.args.units.now in
    let out = c.args.out.now in
    let s = c.squeeze-at.ensures in
    let o = c.squeeze-at.new.out in
    let at = c.squeeze-at.result in
    let t = put_next u out o 126 2 at s (omega (arith, s.few, s.long, c.requires)) (omega arith) c.from.result (sym c.from.ensures) (omega (arith, c.from.ensures, c.fits-units 126)) 1 refl
    c.put_bytes-at.new.out c.put_bytes-at.result c.put_bytes-at.ensures in
    put_next u out (back o at c.put_bytes-at.new.out) 127 1 (at + c.put_bytes-at.result) t (omega (arith, t.few, t.long, c.requires)) (omega arith)
    c.from-2.result (sym c.from-2.ensures) (omega (arith, c.from-2.ensures, c.fits-units 127)) 0 refl c.put_bytes-at-2.new.out c.put_bytes-at-2.result c.put_bytes-at-2.ensures
