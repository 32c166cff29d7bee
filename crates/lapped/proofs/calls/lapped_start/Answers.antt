-- A fresh run is packed where there is room for it; where there is none, a start that works is refused, and another keeps its refusal.
use Rattle.std.proofs.Common.{ℕ, sym, ap, subst}
use Rattle.runs.specs.Answers.{told}
use Rattle.runs.specs.declared.record.Run.{Run}
use Rattle.c_record.specs.Ready.{Packable}
use Rattle.c_record.proofs.AnswerLaws.{done_told, refused_told}
use Rattle.lapped.proofs.CallLaws.{start_fits, start-packed, start-no-room, start-refused}
use Rattle.lapped.proofs.calls.lapped_start.Goals as goal

pub pack-requires : goal.pack-requires
pack-requires c =
    subst (λ (r : Run). Packable r c.args.run.now) (sym (ap (λ (g : (ℕ × ℕ) × Run). g.1) c.start-fresh.ensures)) (start_fits c.args.width c.args.run.now c.if-run-eq68.true)

pub returns-then-run-eq68 : goal.returns-then-run-eq68
returns-then-run-eq68 c = start-packed c.args.width c.args.run.now _ _ _ c.start-fresh.ensures _ c.if-run-eq68.true c.tell.ensures c.pack.ensures

pub returns-then-is_ok : goal.returns-then-is_ok
unfolding told
returns-then-is_ok c =
    start-no-room c.args.width c.args.run.now _ _ _ c.start-fresh.ensures c.if-run-eq68.false (done_told _ c.if-is_ok.ensures.value) c.tell-then-is_ok.ensures

pub returns : goal.returns
returns c = start-refused c.args.width c.args.run.now _ _ _ c.start-fresh.ensures c.if-run-eq68.false (refused_told _ c.if-is_ok.ensures.value) c.tell-2.ensures
