-- The questions to a width, one after the other.
use Rattle.std.proofs.Common.{arith, sym}
use Rattle.reel_lines.proofs.LineLaws.{no-width, first_width, other_width, run-too-many, next-width}
use Rattle.reel_lines.proofs.width.asked.Goals as goal

pub returns-then-half_width-eq0 : goal.returns-then-half_width-eq0
returns-then-half_width-eq0 c = sym (no-width _ _ _ (omega (arith, c.half_width.ensures, c.if-half_width-eq0.true)))

pub returns-then-runs-eq0 : goal.returns-then-runs-eq0
returns-then-runs-eq0 c = sym (first_width _ _ _ (λ e. omega (arith, c.half_width.ensures, c.if-half_width-eq0.false)) c.if-runs-eq0.true)

pub returns-then-width-first : goal.returns-then-width-first
returns-then-width-first c =
    sym (other_width _ _ _ (λ e. omega (arith, c.half_width.ensures, c.if-half_width-eq0.false)) (λ e. omega (arith, c.if-runs-eq0.false)) (λ e. omega (arith, c.if-width-first.true)))

pub returns-then-runs-ge-RUN_LIMIT : goal.returns-then-runs-ge-RUN_LIMIT
returns-then-runs-ge-RUN_LIMIT c =
    sym (run-too-many _ _ _ (λ e. omega (arith, c.half_width.ensures, c.if-half_width-eq0.false)) (λ e. omega (arith, c.if-runs-eq0.false)) (omega arith) (omega (arith, c.if-runs-ge-RUN_LIMIT.true)))

pub returns : goal.returns
returns c =
    sym (next-width _ _ _ (λ e. omega (arith, c.half_width.ensures, c.if-half_width-eq0.false)) (λ e. omega (arith, c.if-runs-eq0.false)) (omega arith) (omega (arith, c.if-runs-ge-RUN_LIMIT.false)))
