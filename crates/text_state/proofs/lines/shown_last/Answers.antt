-- Forward the last frame and the end line, back the end line.
use Rattle.std.proofs.Common.{◌≡◌, ◌+◌, ◌++◌, ◌∙◌, suc, arith, w64, sym, ap, ap₂, subst}
use Rattle.integers.proofs.Held.{held-ok}
use Rattle.text_runs.specs.Way.{row_line, last_line, shown_last}
use Rattle.decimal.proofs.PutLaws.{put_then}
use Rattle.text_state.specs.Own.Closing.{Closing}
use Rattle.text_state.proofs.lines.shown_last.Goals as goal

pub overflow_add-run : goal.overflow_add-run
unfolding Closing
overflow_add-run c = record { fits = omega (arith, subst (λ w. Closing w c.args.run.count) c.in-Forward.is c.requires.closing) }

pub overflow_sub-run : goal.overflow_sub-run
unfolding Closing
overflow_sub-run c = subst (λ w. Closing w c.args.run.count) c.in-Back.is c.requires.closing

pub returns-in-Forward : goal.returns-in-Forward
unfolding shown_last
returns-in-Forward c =
    let s = c.args in
    let p = c.row_line-n.ensures in
    let q = c.last_line.ensures in
    let e : s.run.count + 1 ≡ suc s.run.count = omega arith in
    let total = held-ok w64 s.run.total (omega arith) in (
      (put_then p.0 q.0).is ∙ ap₂ (λ n t. row_line s.out.now ++ last_line n t) e total.is ∙ sym (ap (λ w. shown_last w s.run s.out.now) c.in-Forward.is),
      omega (arith, p.1, q.1),
    )

pub returns-in-Back : goal.returns-in-Back
unfolding shown_last
returns-in-Back c =
    let s = c.args in
    let q = c.last_line-in-Back.ensures in
    let total = held-ok w64 s.run.total (omega arith) in
    (q.0.is ∙ ap (last_line _) total.is ∙ sym (ap (λ w. shown_last w s.run s.out.now) c.in-Back.is), omega (arith, q.1))
