-- The numbers of the lists of eight are small.
use Rattle.products.proofs.TableLaws.{leaves-small, leaf-lists}
use Rattle.products.proofs.lists.leaf_lists.Goals as goal

pub nines-requires-clause-by_index : goal.nines-requires-clause-by_index
nines-requires-clause-by_index c = leaves-small c.requires.tabled c.halve_levels-k.ensures

pub returns : goal.returns
returns c = leaf-lists c.requires.tabled c.halve_levels-k.ensures c.nines.new.out c.nines.ensures
