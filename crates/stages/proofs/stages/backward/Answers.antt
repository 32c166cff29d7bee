use Rattle.std.proofs.Common.{arith}
use Rattle.integers.proofs.PlaceLaws.{within-up}
use Rattle.stages.proofs.ChainLaws.{unfifth-within, unfourth-within, unthird-within, unsecond_is, unsecond-within, unfirst_is}
use Rattle.stages.proofs.stages.backward.Goals as goal

pub fourth-requires-clause-within : goal.fourth-requires-clause-within
fourth-requires-clause-within c = within-up (unfifth-within c.args.t.now.width c.args.top.now c.args.bottom.now c.fifth.ensures c.requires.within c.requires.within_2) (omega arith)

pub third-requires-clause-within : goal.third-requires-clause-within
third-requires-clause-within c = within-up (unfourth-within c.args.t.now.width c.args.top.now c.args.bottom.now c.fifth.ensures c.fourth.ensures c.requires.within c.requires.within_2) (omega arith)

pub third-requires-clause-within_2 : goal.third-requires-clause-within_2
third-requires-clause-within_2 c = within-up (unfifth-within c.args.t.now.width c.args.top.now c.args.bottom.now c.fifth.ensures c.requires.within c.requires.within_2) (omega arith)

pub second-requires-clause-within : goal.second-requires-clause-within
second-requires-clause-within c = within-up (unthird-within c.args.t.now.width c.args.top.now c.args.bottom.now c.fifth.ensures c.fourth.ensures c.third.ensures c.requires.within c.requires.within_2) (omega arith)

pub second-requires-clause-within_2 : goal.second-requires-clause-within_2
second-requires-clause-within_2 c = within-up (unfourth-within c.args.t.now.width c.args.top.now c.args.bottom.now c.fifth.ensures c.fourth.ensures c.requires.within c.requires.within_2) (omega arith)

pub first-requires-clause-within : goal.first-requires-clause-within
first-requires-clause-within c = within-up (unsecond-within c.args.t.now.width c.args.top.now c.args.bottom.now c.fifth.ensures c.fourth.ensures c.third.ensures c.second.ensures c.requires.within c.requires.within_2) (omega arith)

pub first-requires-clause-within_2 : goal.first-requires-clause-within_2
first-requires-clause-within_2 c = within-up (unthird-within c.args.t.now.width c.args.top.now c.args.bottom.now c.fifth.ensures c.fourth.ensures c.third.ensures c.requires.within c.requires.within_2) (omega arith)

pub returns : goal.returns
returns c = (unsecond_is c.args.t.now.width c.args.top.now c.args.bottom.now c.fifth.ensures c.fourth.ensures c.third.ensures c.second.ensures, unfirst_is c.args.t.now.width c.args.top.now c.args.bottom.now c.fifth.ensures c.fourth.ensures c.third.ensures c.second.ensures c.first.ensures)
