use Rattle.std.proofs.Common.{◌+◌, ◌∙◌, arith, refl}
use Rattle.std.proofs.lemmas.Int.{ints}
use Rattle.integers.proofs.PlaceLaws.{places-at}
use Rattle.integers.proofs.Fills.{filling-none, filling-four, filling-all}
use Rattle.slices.proofs.vectors.narrow.Goals as goal

pub loop-i-init : goal.loop-i-init
loop-i-init c = record { whole = refl; in_range = omega arith; filling = filling-none _ _ }

pub loop-i-preserved : goal.loop-i-preserved
loop-i-preserved c =
    record {
      whole = omega arith;
      in_range = omega arith;
      filling = filling-four c.loop-i.invariant.filling (omega (arith, ints, c.requires.within.size c.loop-i.i)) (omega (arith, ints, c.requires.within.size (c.loop-i.i + 1))) (omega (arith, ints, c.requires.within.size (c.loop-i.i + 2))) (omega (arith, ints, c.requires.within.size (c.loop-i.i + 3)));
    }

pub returns : goal.returns
returns c = filling-all c.loop-i.invariant.filling (omega arith) ∙ places-at _ c.args.x.now (omega arith)

pub returns-2 : goal.returns-2
returns-2 c =
    filling-all (filling-four c.loop-i.invariant.filling (omega (arith, ints, c.requires.within.size c.loop-i.i)) (omega (arith, ints, c.requires.within.size (c.loop-i.i + 1))) (omega (arith, ints, c.requires.within.size (c.loop-i.i + 2))) (omega (arith, ints, c.requires.within.size (c.loop-i.i + 3)))) (omega arith)
    ∙ places-at _ c.args.x.now (omega arith)
