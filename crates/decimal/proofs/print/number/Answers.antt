-- A number of 32 bits is printed as the same number of 64 bits.
use Rattle.std.proofs.Common.{◌≡◌, ℤ, length, w32, w64, to_z, of_z, arith, ap, ◌∙◌}
use Rattle.std.proofs.lemmas.Int.{to_z-of_z}
use mir.Val.{SFits}
use Rattle.text_runs.specs.Decimal.{printed, least32}
use Rattle.text_runs.proofs.RowLaws.{mag-fits, printed-length}
use Rattle.decimal.proofs.PutLaws.{put_as}
use Rattle.decimal.proofs.print.number.Goals as goal

text : (x r : ℤ) → SFits w32 x → r ≡ to_z w32 (of_z w32 x) → printed (to_z w64 (of_z w64 r)) ≡ printed x
text x r h e =
    ap (λ y. printed (to_z w64 (of_z w64 y))) (e ∙ to_z-of_z w32 x h)
    ∙ ap printed (to_z-of_z w64 x (record { sfits = omega (arith, h.sfits) }))

pub signed-requires : goal.signed-requires
signed-requires c =
    let x = c.args.x in
    let e = text x c.from.result c.ranges.x c.from.ensures in
    omega (arith, ap length e, printed-length x (mag-fits least32 x c.ranges.x.sfits))

pub returns : goal.returns
returns c =
    let x = c.args.x in
    let put = put_as _ _ _ _ (text x c.from.result c.ranges.x c.from.ensures) c.signed.ensures in
    (put, omega (arith, put.count, printed-length x (mag-fits least32 x c.ranges.x.sfits)))
