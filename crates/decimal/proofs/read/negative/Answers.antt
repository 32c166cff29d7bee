-- There is no -0; the size less one is taken from −1, so that the least number fits.
use Rattle.std.proofs.Common.{◌-◌, ◌^◌, ◌<◌, ◌≤◌, ◌∙◌, ap, Some, arith, rules, pos, negsuc, w64}
use Rattle.integers.proofs.Held.{held, held-ok, h-sub}
use Rattle.text_runs.specs.Decimal.{least64}
use Rattle.decimal.proofs.ReadLaws.{size-within, minus-zero, minus-of, minus-bad, less-than, below-fits}
use Rattle.decimal.proofs.read.negative.Goals as goal

pub returns-in_err-n : goal.returns-in_err-n
returns-in_err-n c = c.from_residual.ensures ∙ minus-bad c.in_err-n.was

pub returns-then-n-eq0 : goal.returns-then-n-eq0
returns-then-n-eq0 c = minus-zero c.in_ok-n.was c.if-n-eq0.true

pub overflow_cast-result : goal.overflow_cast-result
overflow_cast-result c =
    let small : c.in_ok-n.n ≤ least64 = size-within c.requires c.in_ok-n.was in
    let z = c.if-n-eq0.false in
    record { sfits = omega (arith, z) }

pub returns : goal.returns
returns c =
    let n = c.in_ok-n.n in
    let small : n ≤ least64 = size-within c.requires c.in_ok-n.was in
    let z = c.if-n-eq0.false in
    let less-small : n - 1 < 2 ^ 63 = omega (arith, z) in
    ap Some ((h-sub (held w64 (negsuc 0) (search rules)) (held-ok w64 (pos (n - 1)) less-small) (below-fits n small z)).is ∙ less-than n z)
    ∙ minus-of n c.in_ok-n.was z
