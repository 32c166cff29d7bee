-- `calls_forward::forward::start` meets its contract.
use Rattle.std.specs.Prelude.{Ok, Err}
use borrow.Author.Rules.{rules}
use mathlib.Core.Path.{sym, ap, ◌∙◌}
use Rattle.runs.specs.Answers.{told}
use Rattle.runs.specs.declared.answer.Refusal.TheVariants.{Width}
use Rattle.runs.specs.declared.record.Run.{Run}
use Rattle.runs.proofs.AskLaws.{handed, start-refused, start-done}
use Rattle.calls_forward.proofs.forward.start.Statement.{statement}
use Rattle.calls_forward.proofs.forward.start.Tie as tie

returns : tie.Need-returns-then-half-eq0
returns c =
    let t = c in
    handed c.hand_back.ensures _
    (ap (λ (r : Run). (told (Err Width), r)) c.make.ensures
    ∙ start-refused t.args.width _ t.nothing_held-held.ensures (sym t.half_width-half.ensures ∙ t.if-half-eq0.true))

returns-2 : tie.Need-returns
returns-2 c =
    let e = c in
    handed c.hand_back-2.ensures _
    (ap (λ (r : Run). (told (Ok tt), r)) c.make-2.ensures
    ∙ start-done e.args.width _ e.nothing_held-held.ensures (λ h. e.if-half-eq0.false (e.half_width-half.ensures ∙ h)))

pub start_spec : {M : Type 1} → statement M
start_spec =
    tie.close
    (tie.spec
    (λ c κs. search rules)
    (λ c κs. search rules)
    (λ c κs. search rules)
    (λ c κs. search rules)
    returns
    (λ c κs. search rules)
    (λ c κs. search rules)
    returns-2)
