-- Questions 2, 3, 5 and 11, and then the closed record.
use Rattle.std.proofs.Common.{rules, arith, sym, ap, ap₂, ◌∙◌, List, [], ℤ, true}
use Rattle.std.specs.Prelude.{Ok, Err}
use mir.Syntax.{w64}
use Rattle.integers.proofs.Held.{held-ok}
use Rattle.runs.specs.Answers.{told}
use Rattle.runs.specs.declared.record.Run.{Run}
use Rattle.runs.specs.Record.{frame_limit, closed}
use Rattle.runs.specs.Back.{ended_back}
use Rattle.runs.proofs.Told.{refusal-number, done-number}
use Rattle.runs.proofs.AskLaws.{handed-with}
use Rattle.runs.proofs.EndLaws.{end-empty-refused, end-held-refused, ended-done}
use Rattle.gate.proofs.ReadyLaws.{passed}
use Rattle.gate.proofs.AskedLaws.{refused, open-sound, open-unfinished}
use Rattle.gate.proofs.CallFacts.{open-of_bits}
use Rattle.calls_back.proofs.back.finish.Goals as goal

pub returns-in-Err : goal.returns-in-Err
unfolding ended_back
returns-in-Err c =
    let r = c.in-Err.refusal in
    let a = open-of_bits c.args.run.total (search rules) c.in-Err.ensures in
    handed-with c.hand_back.ensures [] _ (refused (Err r) c.args.run [] _ (refusal-number r) ∙ a.asked [] _)

pub returns-then-run-eq0 : goal.returns-then-run-eq0
returns-then-run-eq0 c =
    let a = open-of_bits c.args.run.total (search rules) c.in_default.ensures in
    handed-with c.hand_back-then-run-eq0.ensures [] _ (end-empty-refused c.args.run (open-sound a done-number) (open-unfinished a done-number) c.if-run-eq0.true)

pub first_held-lower-requires : goal.first_held-lower-requires
first_held-lower-requires c =
    let a = open-of_bits c.args.run.total (search rules) c.in_default.ensures in
    passed frame_limit (omega arith) c.args.run _ (open-sound a done-number) c.half_width.ensures (search rules)

pub returns-in-Some : goal.returns-in-Some
returns-in-Some c =
    let a = open-of_bits c.args.run.total (search rules) c.in_default.ensures in
    handed-with c.hand_back-in-Some.ensures [] _ (end-held-refused c.args.run (open-sound a done-number) (open-unfinished a done-number) c.if-run-eq0.false _ (sym c.in-Some.ensures))

pub returns : goal.returns
unfolding closed
returns c =
    let a = open-of_bits c.args.run.total (search rules) c.in_default.ensures in
    let run = c.args.run in
    handed-with c.hand_back-2.ensures [] _
    (ap (λ (r : Run). (told (Ok tt), r, [])) c.make.ensures
    ∙ ap₂ (λ (h : List ℤ) (t : ℤ). (told (Ok tt), record { width = run.width; count = run.count; held = h; finished = true; total = t }, [])) c.nothing_held.ensures (held-ok w64 run.total (search rules)).is
    ∙ ended-done run (open-sound a done-number) (open-unfinished a done-number) c.if-run-eq0.false (sym c.in_default-lower.ensures))
