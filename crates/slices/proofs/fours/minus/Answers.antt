use Rattle.std.proofs.Common.{arith}
use Rattle.std.proofs.lemmas.Int.{ints}
use Rattle.slices.proofs.FourLaws.{four-places}
use Rattle.slices.proofs.fours.minus.Goals as goal

pub overflow_sub-result : goal.overflow_sub-result
overflow_sub-result c = omega (arith, ints, c.requires.within.size 0, c.requires.within_2.size 0)

pub overflow_sub-result-2 : goal.overflow_sub-result-2
overflow_sub-result-2 c = omega (arith, ints, c.requires.within.size 1, c.requires.within_2.size 1)

pub overflow_sub-result-3 : goal.overflow_sub-result-3
overflow_sub-result-3 c = omega (arith, ints, c.requires.within.size 2, c.requires.within_2.size 2)

pub overflow_sub-result-4 : goal.overflow_sub-result-4
overflow_sub-result-4 c = omega (arith, ints, c.requires.within.size 3, c.requires.within_2.size 3)

pub returns : goal.returns
returns c =
    let x = c.requires.within.size in
    let y = c.requires.within_2.size in
    four-places _ (omega (arith, ints, x 0, y 0)) (omega (arith, ints, x 1, y 1)) (omega (arith, ints, x 2, y 2)) (omega (arith, ints, x 3, y 3))
