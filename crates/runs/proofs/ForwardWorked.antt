-- A whole run forward that works took readings in range, and gave the frames that they make.
use mathlib.Core.Path.{◌≡◌, refl, sym, ap, subst, ◌∙◌}
use mathlib.Core.Bool.{true, ◌&&◌, and-eq-true_iff}
use mathlib.Core.List.{List}
use Prim.Native.Nat.{ℕ, ◌+◌, ◌*◌, ◌/◌, ◌%◌, ◌≤◌}
use native.Mathlib.Omega.{arith}
use borrow.Author.Tests.{leb-true, eqb-true, ne_eqb}
use lib.Dec.{eqb, leb}
use lib.IntN.{ℤ}
use lib.ListN.{length}
use Rattle.integers.specs.Vectors.{AllAbs}
use Rattle.tables.specs.Widths.{half_width}
use Rattle.steps.specs.Limits.{reading_limit}
use Rattle.distance.specs.Statement.{IsWidth}
use Rattle.runs.specs.Record.{block_limit}
use Rattle.runs.specs.Whole.{first_refusal, forward_one_by_one, whole_forward, blocks_in}
use Rattle.runs.specs.Return.{Readings, frames_of}
use Rattle.runs.proofs.WholeLaws.{whole-blocks, calls_made, by-refusal, blocks-taken, whole_run}
use Rattle.runs.proofs.Parts.{joined-parts, blocks-within}
use Rattle.runs.proofs.WholeReturn.{lengths-asked}

module _ (N : ℕ) (w : IsWidth N) (readings out : List ℤ) (worked : (whole_forward N readings out).0 ≡ (0, 0)) where
  asked : ((eqb (length readings % N) 0 && leb (length readings / N) block_limit) ≡ true) × (eqb (length out) (length readings + N) ≡ true)
  unfolding whole_forward
  asked = lengths-asked _ _ out (forward_one_by_one N readings out) (rw (ne_eqb (half_width N) 0 (λ z. omega arith)) at worked)

  no-remainder : length readings % N ≡ 0
  no-remainder = eqb-true _ _ ((and-eq-true_iff _ _).0 asked.0).0

  few : length readings / N ≤ block_limit
  few = leb-true _ _ ((and-eq-true_iff (eqb (length readings % N) 0) _).0 asked.0).1

  room : length out ≡ length readings + N
  room = eqb-true _ _ asked.1

  clear : first_refusal N 0 (calls_made N readings out) ≡ (0, 0)
  clear = ap (λ (g : (ℕ × ℕ) × List ℤ). g.0) (by-refusal N readings out (λ z. omega arith) no-remainder few room _ refl) ∙ worked

  whole : length readings ≡ length readings / N * N
  whole = whole-blocks N readings no-remainder

  within : AllAbs reading_limit readings
  unfolding blocks_in
  within = subst (AllAbs reading_limit) (joined-parts N (length readings / N) readings whole) (blocks-within N _ (blocks-taken N w readings out clear))

  pub worked-readings : Readings N readings
  worked-readings = record { whole = whole; some = few; within = within }

  pub worked-frames : (whole_forward N readings out).1 ≡ frames_of N readings
  unfolding frames_of
  worked-frames =
      ap (λ (g : (ℕ × ℕ) × List ℤ). g.1) (sym (by-refusal N readings out (λ z. omega arith) no-remainder few room (0, 0) clear))
      ∙ (whole_run N w readings out clear).frames-are
