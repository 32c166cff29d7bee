-- `lapped::whole::lapped_stages` meets its contract.
use borrow.Author.Rules.{rules}
use mathlib.Core.Path.{ap, ◌∙◌}
use Prim.Native.Nat.{ℕ}
use Rattle.lapped.proofs.whole.lapped_stages.Statement.{statement}
use Rattle.lapped.proofs.whole.lapped_stages.Tie as tie

returns : tie.Need-returns
returns c =
    let g = c in
    ap (λ (a : ℕ × ℕ). (a, g.stages-answer.new.frame)) c.tell.ensures ∙ g.stages-answer.ensures

pub lapped_stages_spec : {M : Type 1} → statement M
lapped_stages_spec = tie.close (tie.spec (λ c κs. search rules) (λ c κs. search rules) (λ c. search rules) returns)
