-- A block's total has few bits, and so has what it asks for.
use Rattle.std.proofs.Common.{ℕ, ℤ, List, ◌≡◌, ◌<◌, ◌*◌, ◌≤◌, length, pos, ◌-ℤ◌, nat_abs, FitsSigned, to_z, of_z, w64, arith, ap}
use Rattle.std.proofs.lemmas.Int.{to_z-of_z, to_z_pos}
use lib.Signed.{quot_z}
use Rattle.integers.specs.Vectors.{sum_of}
use Rattle.integers.specs.Places.{Within}
use Rattle.integers.proofs.Sums.{sum-within}
use Rattle.integers.proofs.Words.{small, minus, minus-small}
use Rattle.tables.specs.Widths.{half_width}
use Rattle.steps.specs.Limits.{reading_limit}
use Rattle.runs.proofs.RecordLaws.{width-le, width-pos}
use Rattle.runs.proofs.Searches.{all-within}
use Rattle.valves.specs.Moves.{cut, wanted}
use Rattle.valve_moves.proofs.MoveLaws.{cut-is, cut-size}

module _ (N : ℕ) (block : List ℤ) (wide : 0 < half_width N) (long : length block ≡ N) (within : Within reading_limit block) (t : ℤ) (is : t ≡ sum_of block) where
  total-size : nat_abs t ≤ 128 * reading_limit
  total-size = rw is (omega (arith, sum-within reading_limit block (all-within reading_limit block within), long, width-le N wide))

  total : FitsSigned w64 t
  total = small w64 t (omega (arith, total-size))

  divisor : to_z w64 N ≡ pos N
  divisor = to_z_pos w64 N (omega (arith, width-le N wide))

  is-quotient : quot_z (to_z w64 (of_z w64 t)) (to_z w64 N) ≡ cut (sum_of block) N
  is-quotient = rw (to_z-of_z w64 _ total, divisor, cut-is N t, is)

  few : nat_abs (cut (sum_of block) N) ≤ 128 * reading_limit
  few = omega (arith, total-size, cut-size N (sum_of block), ap nat_abs is)

  fits : FitsSigned w64 (cut (sum_of block) N)
  fits = small w64 (cut (sum_of block) N) (omega (arith, few))

  turned : FitsSigned w64 (pos 0 -ℤ cut (sum_of block) N)
  turned = minus-small w64 (cut (sum_of block) N) (omega (arith, few))

  pub asks_division : FitsSigned w64 (quot_z (to_z w64 (of_z w64 t)) (to_z w64 N))
  asks_division = rw is-quotient fits

  pub asks_turn : FitsSigned w64 (pos 0 -ℤ to_z w64 (of_z w64 (quot_z (to_z w64 (of_z w64 t)) (to_z w64 N))))
  asks_turn = rw (is-quotient, to_z-of_z w64 _ fits) turned

  pub turned_is : to_z w64 (of_z w64 (pos 0 -ℤ to_z w64 (of_z w64 (quot_z (to_z w64 (of_z w64 t)) (to_z w64 N))))) ≡ wanted N block
  unfolding wanted
  turned_is = rw (is-quotient, to_z-of_z w64 _ fits, to_z-of_z w64 _ turned) (minus (cut (sum_of block) N))

pub wide_enough : (N : ℕ) → 0 < half_width N → 0 < N
wide_enough N h = width-pos N h

pub few_numbers : (N : ℕ) (block : List ℤ) → 0 < half_width N → length block ≡ N → length block ≤ 128
few_numbers N block wide long = omega (arith, long, width-le N wide)

-- what the code asks of the block's total, its quotient and what is against it, and what it answers
pub ruleset asking = (few_numbers, wide_enough, asks_division, asks_turn, turned_is)
