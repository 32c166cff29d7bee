-- `lapped::whole::lapped_unstages` meets its contract.
use borrow.Author.Rules.{rules}
use mathlib.Core.Path.{ap, ◌∙◌}
use Prim.Native.Nat.{ℕ}
use Rattle.lapped.proofs.whole.lapped_unstages.Statement.{statement}
use Rattle.lapped.proofs.whole.lapped_unstages.Tie as tie

returns : tie.Need-returns
returns c =
    let g = c in
    ap (λ (a : ℕ × ℕ). (a, g.unstages-answer.new.folded)) c.tell.ensures ∙ g.unstages-answer.ensures

pub lapped_unstages_spec : {M : Type 1} → statement M
lapped_unstages_spec = tie.close (tie.spec (λ c κs. search rules) (λ c κs. search rules) (λ c. search rules) returns)
