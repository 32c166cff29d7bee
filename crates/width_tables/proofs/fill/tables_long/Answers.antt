-- Each width by its number.
use Rattle.std.proofs.Common.{sym, rules}
use Rattle.width_tables.proofs.PartLaws.{long-8, long-32, long-128, long-other}
use Rattle.width_tables.proofs.fill.tables_long.Goals as goal

pub returns-in-8 : goal.returns-in-8
returns-in-8 c = sym (long-8 c.in-8.is)

pub returns-in-32 : goal.returns-in-32
returns-in-32 c = sym (long-32 c.in-32.is)

pub returns-in-128 : goal.returns-in-128
returns-in-128 c = sym (long-128 c.in-128.is)

pub returns-in_default : goal.returns-in_default
returns-in_default c = sym (long-other (λ e. search rules) (λ e. search rules) (λ e. search rules))
