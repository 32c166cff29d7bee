-- The rounded product is small, and what it is added to.
use Rattle.std.proofs.Common.{◌^◌, ◌*ℤ◌, ap, ap₂, ◌∙◌, w64, arith}
use Rattle.integers.specs.Floor.{round}
use Rattle.integers.proofs.Held.{held-ok}
use Rattle.integers.proofs.Num.{num, num-mul, num-call}
use Rattle.integers.proofs.Rounding.{round-within}
use Rattle.slices.specs.Own.Moves.{moved}
use Rattle.fold.proofs.FoldLaws.{bits-size}
use Rattle.fold.proofs.folding.lift.Goals as goal

pub rounded-requires : goal.rounded-requires
rounded-requires c = (omega arith, omega arith, bits-size (num-mul (num w64 c.args.c c.requires.0 tt) (num w64 c.args.x c.requires.1 tt) tt))

pub moved-requires : goal.moved-requires
moved-requires c =
    let product = num-mul (num w64 c.args.c c.requires.0 tt) (num w64 c.args.x c.requires.1 tt) tt in
    let amount = num-call w64 _ c.rounded.type_inv (c.rounded.ensures ∙ ap (round 28) product.holds.is) (round-within 28 (2 ^ 34) _ product.size) in
    (bits-size (num w64 c.args.y c.requires.2 tt), omega (arith, bits-size amount))

pub returns : goal.returns
returns c =
    let product = num-mul (num w64 c.args.c c.requires.0 tt) (num w64 c.args.x c.requires.1 tt) tt in
    let amount = num-call w64 _ c.rounded.type_inv (c.rounded.ensures ∙ ap (round 28) product.holds.is) (round-within 28 (2 ^ 34) _ product.size) in
    (held-ok w64 _ c.moved.type_inv).is ∙ c.moved.ensures ∙ ap₂ (moved c.args.undo) (num w64 c.args.y c.requires.2 tt).holds.is amount.holds.is
