-- `lapped::whole::lapped_forward` meets its contract.
use borrow.Author.Rules.{rules}
use mathlib.Core.Path.{sym, ap, ◌∙◌}
use Prim.Native.Nat.{ℕ}
use Rattle.c_record.proofs.AnswerLaws.{told-done}
use Rattle.lapped.proofs.whole.lapped_forward.Statement.{statement}
use Rattle.lapped.proofs.whole.lapped_forward.Tie as tie

returns : tie.Need-returns
returns c =
    let g = c in
    (ap (λ (a : ℕ × ℕ). (a, g.forward-answer.new.frames)) c.tell.ensures ∙ g.forward-answer.ensures.0, λ e. g.forward-answer.ensures.1 (told-done g.forward-answer.result (sym (ap (λ (a : ℕ × ℕ). a.0) c.tell.ensures) ∙ e)))

pub lapped_forward_spec : {M : Type 1} → statement M
lapped_forward_spec = tie.close (tie.spec (λ c κs. search rules) (λ c κs. search rules) (λ c. search rules) returns)
