-- What each step leaves is what the next one is given.
use Rattle.std.proofs.Common.{take}
use Rattle.products.proofs.WholeLaws.{given-leaves, given-rising, given-multiplied, laid_one}
use Rattle.products.proofs.whole.product.Goals as goal

pub leaves-requires : goal.leaves-requires
leaves-requires c = given-leaves c.requires c.descend-k.ensures

pub ascend-requires : goal.ascend-requires
ascend-requires c = given-rising c.requires c.descend-k.ensures c.leaves.ensures

pub returns : goal.returns
returns c L q =
    let a = take c.args.m c.args.room.now in
    laid_one c.args.m L a c.ascend.new.room (c.ascend.ensures L a (given-multiplied c.requires c.descend-k.ensures c.leaves.ensures L q))
