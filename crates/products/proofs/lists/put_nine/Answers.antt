-- The nine numbers are differences of small ones.
use Rattle.std.proofs.Common.{ℕ, ◌+◌, ◌^◌, ℤ, ◌++◌}
use mir.Syntax.{w64}
use mir.Val.{of_z}
use Rattle.integers.specs.Places.{at, Within}
use Rattle.integers.proofs.Num.{Num, num, num-sub, sub-asks}
use Rattle.slices.specs.declared.fours.Four.{Four}
use Rattle.slices.specs.Own.Fours.{listed}
use Rattle.slices.proofs.FourLaws.{four-places}
use Rattle.products.specs.Own.Products.{nine}
use Rattle.products.proofs.TableLaws.{written-nine}
use Rattle.products.proofs.lists.put_nine.Goals as goal

abbrev bits : Four → ℕ → ℕ
bits x i = of_z w64 (at (listed x) i)

number : (x : Four) → Within (2 ^ 60) (listed x) → (i : ℕ) → Num w64 (2 ^ 60) (bits x i) (at (listed x) i)
number x b i = num w64 (at (listed x) i) (b.size i) tt

pub overflow_sub-u : goal.overflow_sub-u
overflow_sub-u c = let n = number c.args.x c.requires.1 in sub-asks (n 1) (n 3) tt

pub overflow_sub-w : goal.overflow_sub-w
overflow_sub-w c = let n = number c.args.x c.requires.1 in let m = number c.args.y c.requires.2 in sub-asks (m 1) (n 3) tt

pub overflow_sub-low : goal.overflow_sub-low
overflow_sub-low c = let n = number c.args.x c.requires.1 in sub-asks (n 0) (n 2) tt

pub overflow_sub-low-2 : goal.overflow_sub-low-2
overflow_sub-low-2 c = let n = number c.args.x c.requires.1 in sub-asks (num-sub (n 0) (n 2) tt) (num-sub (n 1) (n 3) tt) tt

pub overflow_sub-low-3 : goal.overflow_sub-low-3
overflow_sub-low-3 c = let n = number c.args.x c.requires.1 in let m = number c.args.y c.requires.2 in sub-asks (n 2) (m 0) tt

pub overflow_sub-low-4 : goal.overflow_sub-low-4
overflow_sub-low-4 c = let n = number c.args.x c.requires.1 in let m = number c.args.y c.requires.2 in sub-asks (num-sub (n 2) (m 0) tt) (num-sub (n 1) (n 3) tt) tt

pub overflow_sub-low-5 : goal.overflow_sub-low-5
overflow_sub-low-5 c = let n = number c.args.x c.requires.1 in let m = number c.args.y c.requires.2 in sub-asks (m 0) (n 2) tt

pub overflow_sub-low-6 : goal.overflow_sub-low-6
overflow_sub-low-6 c = let n = number c.args.x c.requires.1 in let m = number c.args.y c.requires.2 in sub-asks (num-sub (m 0) (n 2) tt) (num-sub (m 1) (n 3) tt) tt

pub overflow_sub-low-7 : goal.overflow_sub-low-7
overflow_sub-low-7 c = let m = number c.args.y c.requires.2 in sub-asks (m 2) (m 0) tt

pub overflow_sub-low-8 : goal.overflow_sub-low-8
overflow_sub-low-8 c = let n = number c.args.x c.requires.1 in let m = number c.args.y c.requires.2 in sub-asks (num-sub (m 2) (m 0) tt) (num-sub (m 1) (n 3) tt) tt

pub overflow_sub-high : goal.overflow_sub-high
overflow_sub-high c = let n = number c.args.x c.requires.1 in sub-asks (n 2) (n 3) tt

pub overflow_sub-high-2 : goal.overflow_sub-high-2
overflow_sub-high-2 c = let n = number c.args.x c.requires.1 in let m = number c.args.y c.requires.2 in sub-asks (m 0) (n 3) tt

pub returns : goal.returns
unfolding nine
returns c =
    let n = number c.args.x c.requires.1 in
    let m = number c.args.y c.requires.2 in
    let u = num-sub (n 1) (n 3) tt in
    let w = num-sub (m 1) (n 3) tt in
    let f : ℕ → ℤ = at (nine (at (listed c.args.x ++ listed c.args.y))) in
    let low = four-places f (num-sub (num-sub (n 0) (n 2) tt) u tt).holds.is (num-sub (num-sub (n 2) (m 0) tt) u tt).holds.is (num-sub (num-sub (m 0) (n 2) tt) w tt).holds.is (num-sub (num-sub (m 2) (m 0) tt) w tt).holds.is in
    let high = four-places (λ j. f (4 + j)) u.holds.is w.holds.is (num-sub (n 2) (n 3) tt).holds.is (num-sub (m 0) (n 3) tt).holds.is in
    written-nine f c.put.ensures c.put-2.ensures c.requires.0 low high (n 3).holds.is
