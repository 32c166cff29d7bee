-- How much a reel prints.
use mathlib.Core.Path.{◌≡◌, refl}
use mathlib.Core.List.{List, [], ◌∷◌, ◌++◌}
use Prim.Native.Nat.{ℕ, zero, suc, ◌+◌, ◌*◌, ◌≤◌}
use native.Mathlib.Omega.{arith}
use lib.IntN.{ℤ, pos, negsuc}
use lib.ListN.{length, take, length-append, length-take}
use Rattle.runs.specs.Record.{frame_limit}
use Rattle.text_runs.specs.Decimal.{spelled, decimal, printed}
use Rattle.text_runs.specs.Lines.{comma, line_feed, refused_tag, refusal}
use Rattle.text_runs.specs.EveryInput.{refusal_line}
use Rattle.text_runs.proofs.DecimalLaws.{decimal-length, decimal-within}
use Rattle.reels.specs.declared.reel.ReelPhase.{ReelPhase}
use Rattle.reels.specs.declared.reel.ReelPhase.TheVariants.{FirstRun, Frames, NextRun, Whole, Refused}
use Rattle.reels.specs.declared.reel.Reel.{Reel}
use Rattle.reels.specs.Page.{frames_tag, sum_line, sum_lines, page}
use Rattle.reels.specs.Reel.{run_limit, reel_says}
use Rattle.reels.specs.Limits.{SumWithin, SumsWithin, WithinLimits, most_printed, PrintsFew}
use Rattle.reels.proofs.SumLaws.{sums-more, sums-taken}
use Rattle.reels.proofs.LimitsKept.{frames-few}

-- the digits of n numbers from k on
unfoldable digits_from : ℕ → ℕ → ℕ
digits_from k zero = 0
digits_from k (suc n) = length (decimal k) + digits_from (suc k) n

digits-of-128 : digits_from 0 128 ≡ 274
unfolding digits_from decimal spelled
digits-of-128 = refl

digits_more : (k n m : ℕ) → n ≤ m → digits_from k n ≤ digits_from k m
unfolding digits_from
digits_more k zero m h = omega arith
digits_more k (suc n) zero h = absurd (omega arith)
digits_more k (suc n) (suc m) h = omega (arith, digits_more (suc k) n m (omega arith))

-- a sum has at most 19 digits
sum-length : (s : ℤ) → SumWithin (run_limit * frame_limit) s → length (printed s) ≤ 19
unfolding SumWithin printed
sum-length (pos n) w = decimal-length 19 n (omega (arith, w)) (omega arith)
sum-length (negsuc n) w = absurd w

line-length : (k : ℕ) (s : ℤ) → SumWithin (run_limit * frame_limit) s → length (sum_line k s) ≤ length (decimal k) + 21
unfolding sum_line
line-length k s w = omega (arith, length-append (decimal k ++ comma ∷ printed s) (line_feed ∷ []), length-append (decimal k) (comma ∷ printed s), sum-length s w)

lines-length : (k : ℕ) (sums : List ℤ) → SumsWithin (run_limit * frame_limit) sums → length (sum_lines k sums) ≤ digits_from k (length sums) + 21 * length sums
unfolding sum_lines SumsWithin digits_from
lines-length k [] w = omega arith
lines-length k (s ∷ sums) w = omega (arith, length-append (sum_line k s) (sum_lines (suc k) sums), line-length k s w.0, lines-length (suc k) sums w.1)

page-length : (sums : List ℤ) (frames : ℕ) → length sums ≤ 128 → SumsWithin (run_limit * frame_limit) sums → frames ≤ run_limit * frame_limit → length (page sums frames) ≤ most_printed
unfolding page frames_tag
page-length sums frames h w f =
    omega
    (arith, length-append (sum_lines 0 sums ++ frames_tag ++ decimal frames) (line_feed ∷ []), length-append (sum_lines 0 sums ++ frames_tag) (decimal frames), length-append (sum_lines 0 sums) frames_tag, lines-length 0 sums w, digits_more 0 (length sums) 128 h, digits-of-128, decimal-length 7 frames (omega (arith, f)) (omega arith))

refusal-length : (number line place : ℕ) → length (refusal_line number line place) ≤ 71
unfolding refusal_line refusal refused_tag
refusal-length number line place =
    omega
    (arith, length-append (refused_tag ++ (decimal number ++ comma ∷ (decimal line ++ comma ∷ decimal place))) (line_feed ∷ []), length-append (decimal number) (comma ∷ (decimal line ++ comma ∷ decimal place)), length-append (decimal line) (comma ∷ decimal place), decimal-within number, decimal-within line, decimal-within place)

-- the sums that are printed
pub sums-printed : (s : Reel) → WithinLimits s → SumsWithin (run_limit * frame_limit) (take s.width s.sums)
sums-printed s w = sums-taken _ s.width s.sums (sums-more s.frames (run_limit * frame_limit) s.sums (frames-few s w) w.sums)

pub prints-few : PrintsFew
unfolding reel_says
prints-few s w = page-length (take s.width s.sums) s.frames (omega (arith, length-take s.width s.sums, w.narrow)) (sums-printed s w) (frames-few s w)

pub says-few : (phase : ReelPhase) (s : Reel) → WithinLimits s → length (reel_says phase s) ≤ most_printed
unfolding reel_says
says-few FirstRun s w = omega arith
says-few Frames s w = omega arith
says-few NextRun s w = omega arith
says-few Whole s w = prints-few s w
says-few (Refused number line place) s w = omega (arith, refusal-length number line place)
