-- The refusal is put part by part.
use Rattle.std.proofs.Common.{arith}
use Rattle.text_runs.proofs.DecimalLaws.{decimal-within}
use Rattle.text_runs.proofs.TextLaws.{refusal_is}
use Rattle.decimal.proofs.PutLaws.{put_then, put_as}
use Rattle.decimal.proofs.print.refusal.Goals as goal

pub natural-b-requires : goal.natural-b-requires
natural-b-requires c = omega (arith, c.bytes-a.ensures.count, decimal-within c.args.number)

pub next_natural-c-requires : goal.next_natural-c-requires
next_natural-c-requires c = omega (arith, c.natural-b.ensures.count, c.bytes-a.ensures.count, decimal-within c.args.number)

pub next_natural-requires : goal.next_natural-requires
next_natural-requires c = omega (arith, c.next_natural-c.ensures.1, c.natural-b.ensures.count, c.bytes-a.ensures.count, decimal-within c.args.number)

pub returns : goal.returns
returns c =
    let s = c.args in
    let tag = c.bytes-a.ensures in
    let number = c.natural-b.ensures in
    let line = c.next_natural-c.ensures in
    let place = c.next_natural.ensures in (
      put_as _ _ _ _ (refusal_is s.number s.line s.place) (put_then tag (put_then number (put_then line.0 place.0))),
      omega (arith, tag.count, number.count, line.1, place.1, decimal-within s.number),
    )
