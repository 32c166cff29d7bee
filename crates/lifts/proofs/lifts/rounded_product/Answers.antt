-- The product fits, and so does what it is rounded to.
use Rattle.std.proofs.Common.{ap, ◌∙◌, ◌^◌, w64, arith}
use Rattle.integers.specs.Floor.{round}
use Rattle.integers.proofs.Num.{num, num-call, num-mul}
use Rattle.integers.proofs.Rounding.{round-within}
use Rattle.lifts.proofs.NumLaws.{num-within}
use Rattle.lifts.proofs.lifts.rounded_product.Goals as goal

pub rounded-requires : goal.rounded-requires
rounded-requires c = (omega arith, omega arith, num-within (num-mul (num w64 c.args.c c.requires.0 tt) (num w64 c.args.x c.requires.1 tt) tt) (omega arith))

pub returns : goal.returns
returns c =
    let product = num-mul (num w64 c.args.c c.requires.0 tt) (num w64 c.args.x c.requires.1 tt) tt in
    let r = num-call w64 _ c.rounded.type_inv (c.rounded.ensures ∙ ap (round 28) product.holds.is) (round-within 28 (2 ^ 34) _ product.size) in
    (r.holds.is, num-within r (omega arith))
