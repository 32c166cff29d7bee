-- The nine numbers of the first v lists stand in `out`.
use Rattle.products.specs.Own.Rooms.{AllWritten}
use Rattle.products.proofs.TableLaws.{nines_of}
use Rattle.products.proofs.lists.nines.Given as goal

abbrev pub invariant-loop-v : goal.invariant-loop-v
invariant-loop-v l = AllWritten (nines_of l.lists) 0 9 l.v l.fn.out l.out
