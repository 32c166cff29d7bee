-- `whole_forward::whole::first_fault` meets its contract.
use borrow.Author.Rules.{rules}
use mathlib.Core.Path.{sym, ◌∙◌}
use Rattle.gate.proofs.FaultLaws.{few-readings, none_at_all}
use Rattle.whole_forward.proofs.whole.first_fault.Statement.{statement}
use Rattle.whole_forward.proofs.whole.first_fault.Tie as tie

in-range-requires : tie.Need-in_range-requires
in-range-requires c κs = (few-readings c.args.width c.args.readings.now c.requires, record { le = tt })

returns : tie.Need-returns-then-in_range
returns c = let s = c in sym (none_at_all s.args.width 0 _ s.args.readings.now (sym c.in_range.ensures ∙ c.if-in_range.true))

returns-2 : tie.Need-returns
returns-2 c = search rules

pub first_fault_spec : {M : Type 1} → statement M
first_fault_spec = tie.close (tie.spec in-range-requires returns (λ c κs. search rules) (λ c. search rules))
