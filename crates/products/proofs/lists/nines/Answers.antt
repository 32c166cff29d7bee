-- The nine numbers of the next list.
use Rattle.std.proofs.Common.{◌≡◌, ◌^◌, arith}
use Rattle.slices.proofs.FourLaws.{listed-within}
use Rattle.products.proofs.TableLaws.{nines-next, nines-laid}
use Rattle.products.proofs.lists.nines.Goals as goal

pub put_nine-requires : goal.put_nine-requires
put_nine-requires c = (
  omega arith,
  listed-within c.four_at-x.result _ (2 ^ 60) c.four_at-x.ensures (λ j l. c.requires.by_index _ (omega arith)),
  listed-within c.four_at-y.result _ (2 ^ 60) c.four_at-y.ensures (λ j l. c.requires.by_index _ (omega arith)),
)

pub loop-v-preserved : goal.loop-v-preserved
loop-v-preserved c = nines-next c.args.lists.now c.loop-v.invariant c.four_at-x.result c.four_at-y.result c.four_at-x.ensures c.four_at-y.ensures c.put_nine.ensures

pub returns : goal.returns
returns c =
    let e : c.loop-v.v ≡ c.args.k = omega arith in
    nines-laid c.args.k c.args.lists.now c.args.out.now c.loop-v.out (rw e at c.loop-v.invariant) (omega arith)
