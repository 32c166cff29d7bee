-- What `scaled` leaves open: the number of a turn, and what it is taken times, fit.
use Rattle.std.proofs.Common.{sym, ap, ap₂, ◌∙◌, ◌≤◌, ℕ, List, ℤ, nat_abs, ◌*ℤ◌, w64, of_z, length, arith}
use Rattle.std.proofs.Math.IntN.{*ℤ_comm}
use Rattle.integers.specs.Places.{places, at, Within}
use Rattle.integers.proofs.Held.{held}
use Rattle.integers.proofs.Fills.{Filling, filling-none, filling-next, filling-here, filling-all}
use Rattle.integers.proofs.Num.{Num, num, mul-asks, num-mul}
use Rattle.width_tables.proofs.matrices.scaled.Goals as goal

times : (by : ℤ) → nat_abs by ≤ 16 → Num w64 16 (of_z w64 by) by
times by h = num w64 by h tt

number : {f : ℕ → ℤ} {list₀ list : List ℤ} {i : ℕ} → Filling f list₀ i list → Within 11000000000 list₀ → Num w64 11000000000 (of_z w64 (at list i)) (at list i)
number {i = i} h w = num w64 _ (rw (filling-here h) (w.size i)) tt

pub loop-x-init : goal.loop-x-init
loop-x-init c = filling-none _ _

pub overflow_mul-x : goal.overflow_mul-x
overflow_mul-x c = mul-asks (number c.loop-x.invariant c.requires.within) (times c.args.by c.requires.by_bound) tt

pub loop-x-preserved : goal.loop-x-preserved
loop-x-preserved c =
    let by = times c.args.by c.requires.by_bound in
    let x = number c.loop-x.invariant c.requires.within in
    filling-next c.loop-x.invariant ((num-mul x by tt).holds.is ∙ *ℤ_comm (at c.loop-x.list c.loop-x.x-index) c.args.by ∙ ap₂ ◌*ℤ◌ (sym by.holds.is) (filling-here c.loop-x.invariant))

pub returns : goal.returns
returns c = filling-all c.loop-x.invariant (omega arith) ∙ ap (λ b. places (length c.args.list.now) (λ k. b *ℤ at c.args.list.now k)) (held w64 c.args.by c.ranges.by).is
