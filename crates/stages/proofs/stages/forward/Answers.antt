use Rattle.std.proofs.Common.{arith}
use Rattle.integers.proofs.PlaceLaws.{within-up}
use Rattle.stages.proofs.ChainLaws.{first-within, second-within, third-within, fourth_is, fourth-within, fifth_is}
use Rattle.stages.proofs.stages.forward.Goals as goal

pub second-requires-clause-within : goal.second-requires-clause-within
second-requires-clause-within c = within-up (first-within c.args.t.now.width c.args.top.now c.args.bottom.now c.first.ensures c.requires.within c.requires.within_2) (omega arith)

pub third-requires-clause-within : goal.third-requires-clause-within
third-requires-clause-within c = within-up (second-within c.args.t.now.width c.args.top.now c.args.bottom.now c.first.ensures c.second.ensures c.requires.within c.requires.within_2) (omega arith)

pub third-requires-clause-within_2 : goal.third-requires-clause-within_2
third-requires-clause-within_2 c = within-up (first-within c.args.t.now.width c.args.top.now c.args.bottom.now c.first.ensures c.requires.within c.requires.within_2) (omega arith)

pub fourth-requires-clause-within : goal.fourth-requires-clause-within
fourth-requires-clause-within c = within-up (third-within c.args.t.now.width c.args.top.now c.args.bottom.now c.first.ensures c.second.ensures c.third.ensures c.requires.within c.requires.within_2) (omega arith)

pub fourth-requires-clause-within_2 : goal.fourth-requires-clause-within_2
fourth-requires-clause-within_2 c = within-up (second-within c.args.t.now.width c.args.top.now c.args.bottom.now c.first.ensures c.second.ensures c.requires.within c.requires.within_2) (omega arith)

pub fifth-requires-clause-within : goal.fifth-requires-clause-within
fifth-requires-clause-within c = within-up (fourth-within c.args.t.now.width c.args.top.now c.args.bottom.now c.first.ensures c.second.ensures c.third.ensures c.fourth.ensures c.requires.within c.requires.within_2) (omega arith)

pub fifth-requires-clause-within_2 : goal.fifth-requires-clause-within_2
fifth-requires-clause-within_2 c = within-up (third-within c.args.t.now.width c.args.top.now c.args.bottom.now c.first.ensures c.second.ensures c.third.ensures c.requires.within c.requires.within_2) (omega arith)

pub returns : goal.returns
returns c = (fourth_is c.args.t.now.width c.args.top.now c.args.bottom.now c.first.ensures c.second.ensures c.third.ensures c.fourth.ensures, fifth_is c.args.t.now.width c.args.top.now c.args.bottom.now c.first.ensures c.second.ensures c.third.ensures c.fourth.ensures c.fifth.ensures)
