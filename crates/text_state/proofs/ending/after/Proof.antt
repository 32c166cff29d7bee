-- `text_state::ending::after` meets its contract.
use borrow.Author.Rules.{rules}
use mathlib.Core.Path.{sym, ◌∙◌}
use Rattle.text_state.proofs.EndingLaws.{told_none, told-on, told-last}
use Rattle.text_state.proofs.ending.after.Statement.{statement}
use Rattle.text_state.proofs.ending.after.Tie as tie

returns : tie.Need-returns-then-text-eq0
returns c = sym (told_none _ _ _ c.if-text-eq0.true)

goes-on-requires : tie.Need-goes_on-requires
goes-on-requires c κs = search rules

returns-2 : tie.Need-returns-then-goes_on
returns-2 c = sym (told-on _ _ _ (sym c.goes_on.ensures ∙ c.if-goes_on.true))

last-said-requires : tie.Need-last_said-requires
last-said-requires c κs = search rules

returns-3 : tie.Need-returns
returns-3 c = c.last_said.ensures ∙ sym (told-last _ _ _ c.if-text-eq0.false (sym c.goes_on.ensures ∙ c.if-goes_on.false))

pub after_spec : {M : Type 1} → statement M
after_spec = tie.close (tie.spec returns goes-on-requires returns-2 last-said-requires returns-3)
