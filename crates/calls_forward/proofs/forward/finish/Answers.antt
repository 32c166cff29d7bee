-- Questions 2 and 3 are passed, and then 7, or the record is handed back as it was.
use Rattle.std.proofs.Common.{rules, arith, ap₂, ◌∙◌, List, ℤ}
use Rattle.std.specs.Prelude.{Ok, Err}
use Rattle.runs.specs.Answers.{told}
use Rattle.runs.specs.declared.record.Run.{Run}
use Rattle.runs.specs.Record.{block_limit}
use Rattle.runs.specs.Forward.{ended}
use Rattle.runs.proofs.Told.{refusal-number, done-number}
use Rattle.runs.proofs.AskLaws.{handed-with, end-output-refused, ended-done}
use Rattle.gate.proofs.ReadyLaws.{passed}
use Rattle.gate.proofs.AskedLaws.{refused, open-sound, open-unfinished}
use Rattle.gate.proofs.CallFacts.{open-of_bits}
use Rattle.calls_forward.proofs.forward.finish.Goals as goal

pub returns-in-Err : goal.returns-in-Err
unfolding ended
returns-in-Err c =
    let out = c.args.frame.now in
    let r = c.in-Err.refusal in
    let a = open-of_bits c.args.run.total (search rules) c.in-Err.ensures in
    handed-with c.hand_back.ensures out _ (refused (Err r) c.args.run out _ (refusal-number r) ∙ a.asked out _)

pub returns-then-frame-width : goal.returns-then-frame-width
returns-then-frame-width c =
    let a = open-of_bits c.args.run.total (search rules) c.in_default.ensures in
    handed-with c.hand_back-then-frame-width.ensures c.args.frame.now _ (end-output-refused c.args.run c.args.frame.now (open-sound a done-number) (open-unfinished a done-number) c.if-frame-width.true)

pub close-requires-clause-ready : goal.close-requires-clause-ready
close-requires-clause-ready c =
    let a = open-of_bits c.args.run.total (search rules) c.in_default.ensures in
    passed block_limit (omega arith) c.args.run _ (open-sound a done-number) c.half_width.ensures (search rules)

pub returns : goal.returns
returns c =
    let a = open-of_bits c.args.run.total (search rules) c.in_default.ensures in
    handed-with c.hand_back-2.ensures c.close.new.frame _
    (ap₂ (λ (r : Run) (f : List ℤ). (told (Ok tt), r, f)) c.close.ensures.0 c.close.ensures.1
    ∙ ended-done c.args.run c.args.frame.now (open-sound a done-number) (open-unfinished a done-number) c.if-frame-width.false)
