-- A number below zero is a minus sign and its size.
use Rattle.std.proofs.Common.{◌∷◌, nat_abs, length, w64, arith, ap, ◌∙◌}
use Rattle.std.proofs.lemmas.Int.{to_z-of_z}
use Rattle.integers.proofs.Signs.{sign-told}
use Rattle.text_runs.specs.Decimal.{decimal}
use Rattle.text_runs.proofs.TextLaws.{printed-below, printed-from}
use Rattle.decimal.proofs.PutLaws.{put_then, put_as}
use Rattle.decimal.proofs.print.signed.Goals as goal

pub bytes-n-requires : goal.bytes-n-requires
bytes-n-requires c =
    let x = c.args.x in
    omega (arith, ap length (printed-below x (sign-told x c.ranges.x.sfits c.if-x-lt0.true)))

pub natural-requires : goal.natural-requires
natural-requires c =
    let x = c.args.x in
    let text = printed-below x (sign-told x c.ranges.x.sfits c.if-x-lt0.true) in
    let n = c.unsigned_abs.ensures.value ∙ ap nat_abs (to_z-of_z w64 x c.ranges.x) in
    rw n (omega (arith, c.bytes-n.ensures.count, ap length text))

pub returns-then-x-lt0 : goal.returns-then-x-lt0
returns-then-x-lt0 c =
    let x = c.args.x in
    let text = printed-below x (sign-told x c.ranges.x.sfits c.if-x-lt0.true) in
    let n = c.unsigned_abs.ensures.value ∙ ap nat_abs (to_z-of_z w64 x c.ranges.x) in
    put_as _ _ _ _ (ap (λ m. 45 ∷ decimal m) n ∙ text) (put_then c.bytes-n.ensures c.natural.ensures)

pub natural-requires-2 : goal.natural-requires-2
natural-requires-2 c =
    let x = c.args.x in
    let text = printed-from x (sign-told x c.ranges.x.sfits c.if-x-lt0.false) in
    let n = c.unsigned_abs-2.ensures.value ∙ ap nat_abs (to_z-of_z w64 x c.ranges.x) in
    omega (arith, ap length (ap decimal n ∙ text))

pub returns : goal.returns
returns c =
    let x = c.args.x in
    let text = printed-from x (sign-told x c.ranges.x.sfits c.if-x-lt0.false) in
    let n = c.unsigned_abs-2.ensures.value ∙ ap nat_abs (to_z-of_z w64 x c.ranges.x) in
    put_as _ _ _ _ (ap decimal n ∙ text) c.natural-2.ensures
