-- `decimal::print::digits` meets its contract: the digits written stand behind those that are left.
use borrow.Author.Rules.{rules}
use native.Mathlib.Omega.{arith}
use mathlib.Core.Path.{◌≡◌, sym, ◌∙◌}
use Prim.Native.Nat.{◌^◌, ◌≤◌, ◌<◌}
use lib.ListN.{length, drop, length-set}
use Rattle.text_runs.specs.Decimal.{spelled, decimal}
use Rattle.decimal.proofs.PrintLaws.{all-behind, digits-left, fewer_digits, digit-written, last_written}
use Rattle.decimal.proofs.print.digits.Statement.{statement}
use Rattle.decimal.proofs.print.digits.Tie as tie

abbrev invariant-loop : tie.invariant-loop-rest
invariant-loop n work₀ i₀ rest₀ work i rest = (0 < i) × (i ≤ 20) × (length work ≡ 20) × (rest < 10 ^ i) × (spelled i rest (drop i work) ≡ decimal n)

abbrev decreases-loop : tie.decreases-loop-rest
decreases-loop n work₀ i₀ rest₀ work i rest = i

loop-holds : tie.Need-loop-rest-init invariant-loop decreases-loop
loop-holds c = (omega arith, omega arith, c.requires, omega arith, all-behind c.args.work.now c.args.n c.requires)

sub-i : tie.Need-overflow_sub-i invariant-loop decreases-loop
sub-i c = omega arith

cast-work : tie.Need-overflow_cast-work invariant-loop decreases-loop
cast-work c = search rules

add-work : tie.Need-overflow_add-work invariant-loop decreases-loop
add-work c = omega arith

slice-write-work : tie.Need-bounds-work-i invariant-loop decreases-loop
slice-write-work c = omega arith

loop-less : tie.Need-loop-rest-smaller invariant-loop decreases-loop
loop-less c = omega arith

loop-again : tie.Need-loop-rest-preserved invariant-loop decreases-loop
loop-again c =
    let k = c.loop-rest in
    let more : 1 < k.i = digits-left k.i k.rest k.invariant.3 (omega arith) (omega arith) in (
      omega (arith, more),
      omega arith,
      length-set k.work _ _ ∙ k.invariant.2,
      fewer_digits k.i k.rest k.invariant.3 (omega arith),
      digit-written k.i k.rest k.work (omega arith) (omega arith) (omega arith) ∙ k.invariant.4,
    )

sub-i-2 : tie.Need-overflow_sub-i-2 invariant-loop decreases-loop
sub-i-2 c = omega arith

cast-work-2 : tie.Need-overflow_cast-work-2 invariant-loop decreases-loop
cast-work-2 c = omega arith

add-work-2 : tie.Need-overflow_add-work-2 invariant-loop decreases-loop
add-work-2 c = omega arith

slice-write-work-2 : tie.Need-bounds-work-i-2 invariant-loop decreases-loop
slice-write-work-2 c = omega arith

same_length : tie.Need-shape_of-work invariant-loop decreases-loop
same_length c = length-set c.loop-rest.work _ _ ∙ c.loop-rest.invariant.2 ∙ sym c.requires

returns : tie.Need-returns invariant-loop decreases-loop
returns c =
    let k = c.loop-rest in
    (omega arith, last_written k.i k.rest k.work (omega arith) (omega arith) (omega arith) ∙ k.invariant.4)

pub digits_spec : {M : Type 1} → statement M
digits_spec =
    tie.close
    (tie.spec
    invariant-loop
    decreases-loop
    loop-holds
    sub-i
    cast-work
    add-work
    slice-write-work
    loop-less
    loop-again
    sub-i-2
    cast-work-2
    add-work-2
    slice-write-work-2
    same_length
    returns)
