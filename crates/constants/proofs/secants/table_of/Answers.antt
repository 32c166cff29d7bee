use Rattle.std.proofs.Common.{[], refl, arith}
use Rattle.tables.specs.Widths.{by_width}
use Rattle.tables.specs.Numbers.{secants, secants8, secants32, secants128}
use Rattle.tables.proofs.ByWidth.{at_other}
use Rattle.constants.proofs.secants.table_of.Goals as goal

pub returns-in-8 : goal.returns-in-8
unfolding by_width secants secants8
returns-in-8 c = rw c.in-8.is refl

pub returns-in-32 : goal.returns-in-32
unfolding by_width secants secants32
returns-in-32 c = rw c.in-32.is refl

pub returns-in-128 : goal.returns-in-128
unfolding by_width secants secants128
returns-in-128 c = rw c.in-128.is refl

pub returns-in_default : goal.returns-in_default
unfolding secants
returns-in_default c = rw (at_other secants8 secants32 secants128 [] {n = c.args.width} (λ e. omega arith) (λ e. omega arith) (λ e. omega arith)) refl
