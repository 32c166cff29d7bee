-- The end line is put part by part.
use Rattle.std.proofs.Common.{length, w64, arith, ap}
use Rattle.std.proofs.lemmas.Int.{to_z-of_z}
use Rattle.text_runs.specs.Decimal.{printed, least64}
use Rattle.text_runs.proofs.DecimalLaws.{decimal-within}
use Rattle.text_runs.proofs.RowLaws.{mag-fits, total-length}
use Rattle.text_runs.proofs.TextLaws.{end_is}
use Rattle.decimal.proofs.PutLaws.{put_then, put_as}
use Rattle.decimal.proofs.print.end_line.Goals as goal

pub natural-m-requires : goal.natural-m-requires
natural-m-requires c = omega (arith, c.bytes-tag.ensures.count, decimal-within c.args.count)

pub bytes-n-requires : goal.bytes-n-requires
bytes-n-requires c = omega (arith, c.natural-m.ensures.count, c.bytes-tag.ensures.count, decimal-within c.args.count)

pub signed-requires : goal.signed-requires
signed-requires c =
    let text = ap printed (to_z-of_z w64 c.args.total c.ranges.total) in
    let long = total-length c.args.total (mag-fits least64 c.args.total c.ranges.total.sfits) in
    omega (arith, ap length text, long, c.bytes-n.ensures.count, c.natural-m.ensures.count, c.bytes-tag.ensures.count, decimal-within c.args.count)

pub returns : goal.returns
returns c =
    let s = c.args in
    let tag = c.bytes-tag.ensures in
    let number = c.natural-m.ensures in
    let part = c.bytes-n.ensures in
    let total = put_as _ _ _ _ (ap printed (to_z-of_z w64 s.total c.ranges.total)) c.signed.ensures in (
      put_as _ _ _ _ (end_is s.count s.total) (put_then tag (put_then number (put_then part total))),
      omega (arith, tag.count, number.count, part.count, total.count, decimal-within s.count, total-length s.total (mag-fits least64 s.total c.ranges.total.sfits)),
    )
