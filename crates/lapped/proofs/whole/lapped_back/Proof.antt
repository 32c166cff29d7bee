-- `lapped::whole::lapped_back` meets its contract.
use borrow.Author.Rules.{rules}
use mathlib.Core.Path.{ap, ◌∙◌}
use Prim.Native.Nat.{ℕ}
use Rattle.lapped.proofs.whole.lapped_back.Statement.{statement}
use Rattle.lapped.proofs.whole.lapped_back.Tie as tie

returns : tie.Need-returns
returns c =
    let g = c in
    ap (λ (a : ℕ × ℕ). (a, g.back-answer.new.readings)) c.tell.ensures ∙ g.back-answer.ensures

pub lapped_back_spec : {M : Type 1} → statement M
lapped_back_spec = tie.close (tie.spec (λ c κs. search rules) (λ c κs. search rules) (λ c. search rules) returns)
