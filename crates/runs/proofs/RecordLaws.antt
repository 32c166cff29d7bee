-- The record of a run that is open after b blocks, the last of them `previous`, and of the same run finished: the gate calls both sound.
use mathlib.Core.Path.{◌≡◌, refl, sym, ap, ap₂, ◌∙◌}
use mathlib.Core.Bool.{Bool, true, false, not, ◌||◌, or-false}
use mathlib.Core.List.{List, [], ◌∷◌, ◌++◌}
use Prim.Native.Nat.{ℕ, zero, suc, ◌+◌, ◌-◌, ◌*◌, ◌%◌, ◌≤◌, ◌<◌, zero-le}
use native.Mathlib.Omega.{arith}
use borrow.Author.Tests.{lt-ltb, le-leb, eqb-true}
use lib.Dec.{eqb, lit≤}
use lib.IntN.{ℤ, pos, nat_abs, ◌+ℤ◌}
use lib.ListN.{length, take, drop, length-replicate, replicate-append-replicate}
use lib.Seq.{take_at, drop_at}
use Rattle.integers.specs.Vectors.{sum_of, AllAbs}
use Rattle.integers.proofs.Order.{nat_abs-zero, nat_abs-+ℤ-le}
use Rattle.integers.proofs.Products.{all_append}
use Rattle.integers.proofs.Sums.{sum-within}
use Rattle.tables.specs.Widths.{half_width}
use Rattle.tables.proofs.ByWidth.{at_each, half-width-le}
use Rattle.steps.specs.Limits.{reading_limit, folded_limit}
use Rattle.steps.specs.Steps.{lower, held, frame}
use Rattle.steps.proofs.Lengths.{width-half, length-stages, length-held}
use Rattle.steps.proofs.Rotation.{held-gate}
use Rattle.steps.proofs.ZeroBlock.{held-zeros}
use Rattle.distance.specs.Statement.{IsWidth, Block}
use Rattle.distance.proofs.ZeroBlock.{zero-block}
use Rattle.runs.specs.declared.record.Run.{Run}
use Rattle.runs.specs.Record.{block_limit, frame_limit, zeros, zero_padded, opened, closed}
use Rattle.runs.specs.Gate.{all_yes, blocks_behind, sound}
use Rattle.runs.proofs.Searches.{inside-all}

-- ---- a width, and a frame of it
pub width-le : (N : ℕ) → 0 < half_width N → N ≤ 128
width-le N w = omega (arith, width-half N w, half-width-le N)

pub width-pos : (N : ℕ) → 0 < half_width N → 0 < N
width-pos N w = omega (arith, width-half N w)

pub width-in-fours : (N : ℕ) → 0 < half_width N → N % 4 ≡ 0
unfolding half_width
width-in-fours = at_each (λ n m. 0 < m → n % 4 ≡ 0) 4 16 64 0 (λ w. refl) (λ w. refl) (λ w. refl) (λ n x y z w. absurd (omega arith))

pub length-frame : (N : ℕ) (previous block : List ℤ) → 0 < half_width N → length (frame N previous block) ≡ N
unfolding frame
length-frame N previous block wide = length-stages N (lower N block ++ previous) ∙ width-half N wide

-- ---- held values, with zeros up to 64
module _ (n : ℕ) (xs : List ℤ) (l : length xs ≡ n) where
  pub take-filled : take n (zero_padded xs) ≡ xs
  unfolding zero_padded
  take-filled = take_at xs _ n l

  pub drop-filled : drop n (zero_padded xs) ≡ zeros (64 - n)
  unfolding zero_padded
  drop-filled = rw (drop_at xs _ n l, l)

filled-zeros : (n : ℕ) → n ≤ 64 → zero_padded (zeros n) ≡ zeros 64
unfolding zero_padded
filled-zeros n h =
    let e : n + (64 - n) ≡ 64 = omega arith in
    rw (length-replicate n (pos 0), replicate-append-replicate, e)

filled-held-zeros : (N : ℕ) → zero_padded (held N (zeros N)) ≡ zeros 64
filled-held-zeros N = rw held-zeros (filled-zeros (half_width N) (half-width-le N))

-- before the first block the held values are zeros, as those of a block of zeros are
pub opened-zeros : (N : ℕ) → opened N 0 (pos 0) [] ≡ opened N 0 (pos 0) (held N (zeros N))
unfolding opened
opened-zeros N = ap (λ xs. record { width = N; count = 0; held = xs; finished = false; total = pos 0 }) (filled-zeros 0 (lit≤ tt) ∙ sym (filled-held-zeros N))

pub zeros-are : (xs : List ℤ) → AllAbs 0 xs → xs ≡ zeros (length xs)
zeros-are [] h = refl
zeros-are (x ∷ xs) h = ap₂ (λ (y : ℤ) (ys : List ℤ). y ∷ ys) (nat_abs-zero x (omega (arith, h.0))) (zeros-are xs h.1)

-- ---- what question 2 asks
all-zeros : (l n : ℕ) → AllAbs l (zeros n)
all-zeros l n = (zero-block n l).within

all-filled : (l : ℕ) (xs : List ℤ) → AllAbs l xs → AllAbs l (zero_padded xs)
unfolding zero_padded
all-filled l xs h = all_append l xs (zeros (64 - length xs)) h (all-zeros l (64 - length xs))

pub all_take : (l n : ℕ) (xs : List ℤ) → AllAbs l xs → AllAbs l (take n xs)
all_take l zero xs h = tt
all_take l (suc n) [] h = tt
all_take l (suc n) (x ∷ xs) h = (h.0, all_take l n xs h.1)

pub all_drop : (l n : ℕ) (xs : List ℤ) → AllAbs l xs → AllAbs l (drop n xs)
all_drop l zero xs h = h
all_drop l (suc n) [] h = tt
all_drop l (suc n) (x ∷ xs) h = all_drop l n xs h.1

unless : (a b : Bool) → (a ≡ true → b ≡ true) → (not a || b) ≡ true
unless true b h = h refl
unless false b h = refl

-- the blocks behind a count, each way
pub blocks-forward : (b : ℕ) → blocks_behind block_limit b ≡ b
unfolding blocks_behind
blocks-forward b = omega arith

pub blocks-back : (b : ℕ) → blocks_behind frame_limit b ≡ b - 1
unfolding blocks_behind
blocks-back b = omega arith

-- a block more, and its readings added
pub added-limit : (b N : ℕ) (t : ℤ) (xs : List ℤ) → nat_abs t ≤ b * N * reading_limit → Block N reading_limit xs → nat_abs (t +ℤ sum_of xs) ≤ suc b * N * reading_limit
added-limit b N t xs h k =
    let s : nat_abs (sum_of xs) ≤ N * reading_limit = rw k.long at (sum-within reading_limit xs k.within) in
    omega (arith, nat_abs-+ℤ-le t (sum_of xs) h s)

pub sound-run : (top : ℕ) (run : Run) → 0 < half_width run.width → run.count ≤ top → AllAbs folded_limit run.held → AllAbs 0 (drop (half_width run.width) run.held)
    → ((eqb run.count 0 || run.finished) ≡ true → AllAbs 0 run.held) → nat_abs run.total ≤ blocks_behind top run.count * run.width * reading_limit → sound top run ≡ true
unfolding sound all_yes
sound-run top run w c h d z t =
    rw (lt-ltb _ _ w, le-leb _ _ c, inside-all folded_limit run.held h, inside-all 0 (drop (half_width run.width) run.held) d, unless _ _ (λ e. inside-all _ _ (z e)), le-leb _ _ t)

-- an open run that holds half a width of values
pub open-sound : (top N b : ℕ) (t : ℤ) (xs : List ℤ) → 0 < half_width N → b ≤ top → length xs ≡ half_width N → AllAbs folded_limit xs → (b ≡ 0 → xs ≡ zeros (half_width N))
    → nat_abs t ≤ blocks_behind top b * N * reading_limit → sound top (opened N b t xs) ≡ true
unfolding opened
open-sound top N b t xs w c l h z s =
    sound-run top (opened N b t xs) w c (all-filled folded_limit xs h)
    (rw (drop-filled (half_width N) xs l) (all-zeros 0 (64 - half_width N)))
    (λ e. rw (z (eqb-true b 0 (sym (or-false (eqb b 0)) ∙ e)), filled-zeros (half_width N) (half-width-le N)) (all-zeros 0 64))
    s

-- ---- what a run comes to: `previous` is the last of b blocks, or zeros before the first, and t the total
pub record Reached (N b : ℕ) (t : ℤ) (previous : List ℤ) : Type 0 where
  pub wide : IsWidth N
  pub counted : b ≤ block_limit
  pub readings : Block N reading_limit previous
  pub fresh : b ≡ 0 → previous ≡ zeros N
  pub summed : nat_abs t ≤ b * N * reading_limit

pub reached-first : (N : ℕ) → IsWidth N → Reached N 0 (pos 0) (zeros N)
reached-first N w = record { wide = w; counted = zero-le; readings = zero-block N reading_limit; fresh = λ e. refl; summed = zero-le }

pub reached-next : (N b : ℕ) (t : ℤ) (previous xs : List ℤ) → Reached N b t previous → b < block_limit → Block N reading_limit xs → Reached N (suc b) (t +ℤ sum_of xs) xs
reached-next N b t previous xs r l h = record { wide = r.wide; counted = l; readings = h; fresh = λ e. absurd (omega arith); summed = added-limit b N t xs r.summed h }

module _ (N b : ℕ) (t : ℤ) (previous : List ℤ) (r : Reached N b t previous) where
  summed-behind : nat_abs t ≤ blocks_behind block_limit b * N * reading_limit
  summed-behind = rw (blocks-forward b) r.summed

  pub opened-sound : sound block_limit (opened N b t (held N previous)) ≡ true
  opened-sound =
      open-sound block_limit N b t (held N previous) r.wide r.counted (length-held N previous) (held-gate N previous r.readings.within)
      (λ e. rw (r.fresh e) (held-zeros N N)) summed-behind

  pub closed-sound : sound block_limit (closed (opened N b t (held N previous))) ≡ true
  unfolding opened closed
  closed-sound =
      sound-run block_limit (closed (opened N b t (held N previous))) r.wide r.counted
      (all-zeros folded_limit 64) (all_drop 0 (half_width N) (zeros 64) (all-zeros 0 64)) (λ e. all-zeros 0 64) summed-behind
