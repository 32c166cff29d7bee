-- What a run takes and gives: the output lent to a call has the run's width, and blocks in range and their frames are rows of 32 bits.
use mathlib.Core.Path.{◌≡◌, refl}
use mathlib.Core.Bool.{true, false}
use mathlib.Core.List.{List, [], ◌∷◌}
use Prim.Native.Nat.{ℕ, min, ◌≤◌, ◌<◌}
use native.Mathlib.Omega.{arith}
use borrow.Author.Tests.{lt-ltb, eq-eqb, ne_eqb}
use lib.IntN.{ℤ, pos, negsuc, nat_abs}
use lib.ListN.{length, length-replicate}
use Rattle.integers.specs.Vectors.{total_of, AllAbs, Rows}
use Rattle.integers.proofs.Products.{all_get_d}
use Rattle.steps.specs.Limits.{reading_limit, coefficient_limit}
use Rattle.steps.specs.Steps.{held, frame}
use Rattle.distance.specs.Statement.{IsWidth, Block, coefficient}
use Rattle.distance_theorems.proofs.Theorems.{frame-size}
use Rattle.runs.specs.Record.{block_limit, opened}
use Rattle.runs.specs.Gate.{all_yes, nothing, inside, dead}
use Rattle.runs.specs.Calls.{block, finish, accepted}
use Rattle.runs.specs.Totals.{total_limit}
use Rattle.runs.proofs.Searches.{All, none_found, inside-all}
use Rattle.runs.proofs.RecordLaws.{width-le}
use Rattle.runs.proofs.EveryList.{AllBlocks, blocks-none, blocks-one}
use Rattle.runs.proofs.BackLaws.{frame-long}
use Rattle.runs.proofs.TotalsFit.{within-limit}
use Rattle.runs.proofs.Totals.{total-blocks}
use Rattle.text_runs.specs.Decimal.{least32, least64, fits, bits64, all_bits}
use Rattle.text_runs.specs.Way.{lent_output}
use Rattle.text_runs.specs.Return.{InRange}

pub output-long : (N b : ℕ) (t : ℤ) (xs : List ℤ) → IsWidth N → length (lent_output (opened N b t xs)) ≡ N
unfolding lent_output opened
output-long N b t xs w = omega (arith, length-replicate (min N 128) (pos 0), width-le N w)

-- ---- rows of 32 bits
size_fits : (limit l : ℕ) (x : ℤ) → l < limit → nat_abs x ≤ l → fits limit x
unfolding fits
size_fits limit l (pos n) h k = omega arith
size_fits limit l (negsuc n) h k = omega arith

pub within-bits : (l : ℕ) (xs : List ℤ) → l < least32 → AllAbs l xs → all_bits xs
unfolding all_bits
within-bits l [] h k = tt
within-bits l (x ∷ xs) h k = (size_fits least32 l x h k.0, within-bits l xs h k.1)

pub block-bits : (N : ℕ) (x : List ℤ) → Block N reading_limit x → all_bits x
block-bits N x h = within-bits reading_limit x (omega arith) h.within

pub frame-bits : (N : ℕ) → IsWidth N → (p x : List ℤ) → Block N reading_limit p → Block N reading_limit x → all_bits (frame N (held N p) x)
unfolding coefficient
frame-bits N w p x hp hx =
    within-bits coefficient_limit (frame N (held N p) x) (omega arith)
    (all_get_d coefficient_limit (frame N (held N p) x) (λ k h. frame-size N w p x hp hx k (omega (arith, frame-long N w p x hp hx))))

-- ---- blocks in range
pub text-blocks : (N : ℕ) (blocks : List (List ℤ)) → Rows N blocks → InRange blocks → AllBlocks N blocks
unfolding InRange
text-blocks N [] rows within = blocks-none N
text-blocks N (x ∷ blocks) rows within =
    blocks-one N x blocks (record { long = rows.0; within = within.0 }) (text-blocks N blocks rows.1 within.1)

-- their total is a number of 64 bits
pub total-bits : (N : ℕ) → IsWidth N → (blocks : List (List ℤ)) → AllBlocks N blocks → length blocks ≤ block_limit → bits64 (total_of blocks)
total-bits N w blocks hs few =
    size_fits least64 total_limit (total_of blocks) (omega arith) (within-limit (length blocks) N (total_of blocks) few (width-le N w) (total-blocks N blocks hs))

-- no reading in range is the dead mark
no-mark : (xs : List ℤ) → AllAbs reading_limit xs → All (λ x. dead x ≡ false) xs
unfolding dead
no-mark [] h = tt
no-mark (pos n ∷ xs) h = (refl, no-mark xs h.1)
no-mark (negsuc n ∷ xs) h = (ne_eqb n 32767 (λ e. omega (arith, h.0)), no-mark xs h.1)

-- they are taken, and the finish works
pub block-accepted : (N b : ℕ) (x out : List ℤ) → Block N reading_limit x → b < block_limit → length out ≡ N → accepted N b false (block x out) ≡ true
unfolding accepted all_yes nothing inside
block-accepted N b x out h l m =
    rw (lt-ltb b block_limit l, eq-eqb (length x) N h.long, eq-eqb (length out) N m, none_found dead x 0 (no-mark x h.within), inside-all reading_limit x h.within)

pub finish-accepted : (N b : ℕ) (out : List ℤ) → length out ≡ N → accepted N b false (finish out) ≡ true
unfolding accepted all_yes
finish-accepted N b out m = rw (eq-eqb (length out) N m)
