-- The middles behind the lists are small as well, and are taken off both halves.
use Rattle.slices.specs.Own.Moves.{moved}
use Rattle.products.proofs.TableLaws.{middles-small, halved-laid}
use Rattle.products.proofs.lists.halve_lists.Goals as goal

pub spread_lists-requires-clause-small : goal.spread_lists-requires-clause-small
spread_lists-requires-clause-small c = middles-small c.args.q c.args.k c.args.room.now c.copy_middles.new.room c.copy_middles.ensures c.requires.small

pub returns : goal.returns
unfolding moved
returns c L d = halved-laid c.args.q c.args.k c.args.room.now c.copy_middles.new.room c.copy_middles.ensures c.spread_lists.new.room c.spread_lists.ensures L d c.requires.q_value.2
