-- What a call of a run back gives on a record that such a run comes to: b frames taken, and the lower half of the last of them held.
use mathlib.Core.Path.{◌≡◌, refl, ap, ◌∙◌}
use mathlib.Core.Bool.{Bool, true, false, cond}
use mathlib.Core.List.{List, [], ◌∷◌, ◌++◌}
use Prim.Native.Nat.{ℕ, suc, ◌-◌, ◌*◌, ◌≤◌, ◌<◌, zero-le}
use native.Mathlib.Omega.{arith}
use borrow.Author.Tests.{lt-ltb, eq-eqb}
use lib.Dec.{eqb-suc-zero}
use lib.IntN.{ℤ, pos, nat_abs, ◌+ℤ◌}
use lib.ListN.{length, take, drop, length-append, length-replicate}
use lib.Seq.{take_at, drop_at}
use Rattle.integers.specs.Vectors.{sum_of, AllAbs}
use Rattle.integers.proofs.Products.{all_append, all_get_d}
use Rattle.integers.proofs.Sums.{sum-none}
use Rattle.tables.specs.Widths.{half_width}
use Rattle.steps.specs.Limits.{reading_limit, folded_limit, coefficient_limit}
use Rattle.steps.specs.Steps.{lower, held, frame, unstages, unfolded}
use Rattle.steps.proofs.Lengths.{length-lower, length-held, length-unfolded, width-half}
use Rattle.steps.proofs.Undo.{unstages-stages, unfolded-fold}
use Rattle.steps.proofs.Rotation.{lower-gate, held-gate}
use Rattle.steps.proofs.ZeroBlock.{lower-zeros, held-zeros}
use Rattle.runs.specs.Answers.{first_where, beyond, first_beyond}
use Rattle.std.specs.Prelude.{Some}
use Rattle.distance.specs.Statement.{IsWidth, Block, coefficient}
use Rattle.distance.proofs.ZeroBlock.{zero-block}
use Rattle.distance_theorems.proofs.Theorems.{frame-size}
use Rattle.runs.specs.declared.record.Run.{Run}
use Rattle.runs.specs.Record.{frame_limit, zeros, opened, closed}
use Rattle.runs.specs.Forward.{started}
use Rattle.runs.specs.Gate.{CallResult, ask, all_yes, sound, inside, nothing, admitted}
use Rattle.runs.proofs.Searches.{inside-all}
use Rattle.runs.proofs.RecordLaws.{length-frame, take-filled, blocks-back, added-limit, open-sound}
use Rattle.runs.proofs.CallLaws.{Decided, granted, asked-each}
use Rattle.runs.proofs.EveryList.{started-open}
use Rattle.runs.specs.Back.{framed, block_on, first_upper, first_frame, later_frame, unfolded_in, undone_in, taken_back, first_held, ended_back}

-- a fresh start, where nothing is held
pub started-back : (N : ℕ) → IsWidth N → (started N).1 ≡ opened N 0 (pos 0) (zeros (half_width N))
started-back N w = started-open N w ∙ ap (opened N 0 (pos 0)) (held-zeros N N)

-- ---- the record: `low` is the lower half of the last of b frames, or zeros before the first, and t the total
pub record ReachedBack (N b : ℕ) (t : ℤ) (low : List ℤ) : Type 0 where
  pub wide : IsWidth N
  pub counted : b ≤ frame_limit
  pub long : length low ≡ half_width N
  pub within : AllAbs folded_limit low
  pub fresh : b ≡ 0 → low ≡ zeros (half_width N)
  pub summed : nat_abs t ≤ (b - 1) * N * reading_limit

one_less : (b : ℕ) → suc b - 1 ≡ b
one_less b = omega arith

-- behind the first frame
pub summed-later : {N b : ℕ} {t : ℤ} {low : List ℤ} → ReachedBack N (suc b) t low → nat_abs t ≤ b * N * reading_limit
summed-later {b} r = rw (one_less b) at r.summed

pub back-first : (N : ℕ) → IsWidth N → ReachedBack N 0 (pos 0) (zeros (half_width N))
back-first N w = record {
  wide = w;
  counted = zero-le;
  long = length-replicate (half_width N) (pos 0);
  within = (zero-block (half_width N) folded_limit).within;
  fresh = λ e. refl;
  summed = zero-le;
}

module _ (N b : ℕ) (t : ℤ) (low : List ℤ) (r : ReachedBack N b t low) where
  pub back-next : (total : ℤ) (after : List ℤ) → b < frame_limit → length after ≡ half_width N → AllAbs folded_limit after → nat_abs total ≤ b * N * reading_limit → ReachedBack N (suc b) total after
  back-next total after h l i s = record { wide = r.wide; counted = h; long = l; within = i; fresh = λ e. absurd (omega arith); summed = rw (one_less b) s }

  pub back-sound : sound frame_limit (opened N b t low) ≡ true
  back-sound = open-sound frame_limit N b t low r.wide r.counted r.long r.within r.fresh (rw (blocks-back b) r.summed)

  pub taken-undone : (frame out : List ℤ) → length frame ≡ N → length out ≡ N → b < frame_limit → taken_back (opened N b t low) frame out ≡ undone_in (opened N b t low) frame out
  unfolding taken_back admitted ask opened
  taken-undone frame out l m h = rw (back-sound, lt-ltb b frame_limit h, eq-eqb (length frame) N l, eq-eqb (length out) N m)

pub length-block : (run : Run) (folded : List ℤ) → length (block_on run folded) ≡ run.width
unfolding block_on
length-block run folded = length-unfolded run.width _ _

-- ---- the questions, and what is given where all say yes
abbrev pub low_half : ℕ → List ℤ → List ℤ
low_half N frame = take (half_width N) (unstages N frame)

abbrev pub high_half : ℕ → List ℤ → List ℤ
high_half N frame = drop (half_width N) (unstages N frame)

abbrev pub first_passes : ℕ → List ℤ → Bool
first_passes N frame =
    all_yes
    (inside (pos coefficient_limit) frame
    ∷ inside (pos folded_limit) (unstages N frame)
    ∷ nothing (first_beyond (pos 0) (high_half N frame) (half_width N))
    ∷ [])

abbrev pub later_passes : ℕ → List ℤ → List ℤ → Bool
later_passes N low frame =
    all_yes
    (inside (pos coefficient_limit) frame
    ∷ inside (pos folded_limit) (unstages N frame)
    ∷ inside (pos reading_limit) (unfolded N low (high_half N frame))
    ∷ [])

pub first-undone : (N : ℕ) (t : ℤ) (low frame out : List ℤ)
    → Decided (first_passes N frame) (opened N 0 t low) out ((0, 0), opened N 1 (t +ℤ sum_of []) (low_half N frame), out) (undone_in (opened N 0 t low) frame out)
unfolding undone_in unfolded_in first_frame first_upper framed opened all_yes inside
first-undone N t low frame out = asked-each 8 _ (asked-each 9 _ (asked-each 10 _ (granted _ refl)))

pub later-undone : (N b : ℕ) (t : ℤ) (low frame out : List ℤ) → length low ≡ half_width N
    → Decided (later_passes N low frame) (opened N (suc b) t low) out
    ((0, 0), opened N (suc (suc b)) (t +ℤ sum_of (unfolded N low (high_half N frame))) (low_half N frame), unfolded N low (high_half N frame)) (undone_in (opened N (suc b) t low) frame out)
unfolding undone_in unfolded_in later_frame block_on framed opened all_yes inside
later-undone N b t low frame out l = rw (take-filled (half_width N) low l, eqb-suc-zero b) (asked-each 8 _ (asked-each 9 _ (asked-each 11 _ (granted _ refl))))

pub ended-decided : (N b : ℕ) (t : ℤ) (low : List ℤ) → ReachedBack N (suc b) t low
    → Decided (all_yes (inside (pos 0) low ∷ [])) (opened N (suc b) t low) [] ((0, 0), closed (opened N (suc b) t low), []) (ended_back (opened N (suc b) t low))
unfolding ended_back first_held ask opened all_yes inside
ended-decided N b t low r = rw (back-sound N (suc b) t low r, take-filled (half_width N) low r.long, lt-ltb 0 (suc b) (omega arith)) (asked-each 10 _ (granted _ refl))

-- where a search begins to count does not tell whether it finds anything
pub nothing-anywhere : (test : ℤ → Bool) (xs : List ℤ) (j k : ℕ) → nothing (first_where test xs j) ≡ nothing (first_where test xs k)
unfolding first_where nothing
nothing-anywhere test [] j k = refl
nothing-anywhere test (x ∷ xs) j k = by (test x) (nothing-anywhere test xs (suc j) (suc k))
  where
    by : (b : Bool) → nothing (first_where test xs (suc j)) ≡ nothing (first_where test xs (suc k)) → nothing (cond b (Some j) (first_where test xs (suc j))) ≡ nothing (cond b (Some k) (first_where test xs (suc k)))
    by true e = refl
    by false e = e

-- ---- the frame of two blocks of readings in range
module _ (N : ℕ) (w : IsWidth N) (p x : List ℤ) (hp : Block N reading_limit p) (hx : Block N reading_limit x) where
  abbrev of-both : List ℤ
  of-both = frame N (held N p) x

  pub frame-long : length of-both ≡ N
  frame-long = length-frame N (held N p) x w

  frame-undone : unstages N of-both ≡ lower N x ++ held N p
  unfolding frame
  frame-undone = unstages-stages N (width-half N w) (lower N x ++ held N p) (omega (arith, length-append (lower N x) (held N p), length-lower N x, length-held N p, width-half N w))

  low-is : low_half N of-both ≡ lower N x
  low-is = rw frame-undone (take_at (lower N x) (held N p) (half_width N) (length-lower N x))

  high_is : high_half N of-both ≡ held N p
  high_is = rw frame-undone (drop_at (lower N x) (held N p) (half_width N) (length-lower N x))

  frame-inside : inside (pos coefficient_limit) of-both ≡ true
  unfolding coefficient
  frame-inside = inside-all coefficient_limit of-both (all_get_d coefficient_limit of-both (λ k h. frame-size N w p x hp hx k (omega (arith, frame-long))))

  folded-inside : inside (pos folded_limit) (unstages N of-both) ≡ true
  folded-inside = rw frame-undone (inside-all folded_limit (lower N x ++ held N p) (all_append folded_limit (lower N x) (held N p) (lower-gate N x hx.within) (held-gate N p hp.within)))

  later-passes : later_passes N (lower N p) of-both ≡ true
  unfolding all_yes
  later-passes = rw (frame-inside, folded-inside, high_is, unfolded-fold N (width-half N w) p hp.long, inside-all reading_limit p hp.within)

  pub back-block : (b : ℕ) (t : ℤ) → ReachedBack N (suc b) t (lower N p) → suc b < frame_limit → ReachedBack N (suc (suc b)) (t +ℤ sum_of p) (lower N x)
  back-block b t r h = back-next N (suc b) t (lower N p) r (t +ℤ sum_of p) (lower N x) h (length-lower N x) (lower-gate N x hx.within) (added-limit b N t p (summed-later r) hp)

  -- behind a block, that block is given
  pub later-taken : (b : ℕ) (t : ℤ) (out : List ℤ) → ReachedBack N (suc b) t (lower N p) → suc b < frame_limit → length out ≡ N
      → taken_back (opened N (suc b) t (lower N p)) of-both out ≡ ((0, 0), opened N (suc (suc b)) (t +ℤ sum_of p) (lower N x), p)
  later-taken b t out r h m =
      taken-undone N (suc b) t (lower N p) r of-both out frame-long m h
      ∙ (later-undone N b t (lower N p) of-both out (length-lower N p)).when-yes later-passes
      ∙ rw (low-is, high_is, unfolded-fold N (width-half N w) p hp.long)

-- the first frame is the one behind a block of zeros
module _ (N : ℕ) (w : IsWidth N) (x : List ℤ) (hx : Block N reading_limit x) where
  abbrev of-first : List ℤ
  of-first = frame N (held N (zeros N)) x

  upper-zero : nothing (first_beyond (pos 0) (zeros (half_width N)) (half_width N)) ≡ true
  unfolding inside
  upper-zero = nothing-anywhere (beyond (pos 0)) (zeros (half_width N)) (half_width N) 0 ∙ inside-all 0 (zeros (half_width N)) (zero-block (half_width N) 0).within

  first_passes_lem : first_passes N of-first ≡ true
  unfolding all_yes
  first_passes_lem =
      let z = zero-block N reading_limit in
      rw (frame-inside N w (zeros N) x z hx, folded-inside N w (zeros N) x z hx, high_is N w (zeros N) x z hx, held-zeros N N, upper-zero)

  pub back_one : ReachedBack N 1 (pos 0) (lower N x)
  back_one = back-next N 0 (pos 0) (zeros (half_width N)) (back-first N w) (pos 0) (lower N x) (omega arith) (length-lower N x) (lower-gate N x hx.within) zero-le

  pub first_taken : (out : List ℤ) → length out ≡ N → taken_back (opened N 0 (pos 0) (zeros (half_width N))) of-first out ≡ ((0, 0), opened N 1 (pos 0) (lower N x), out)
  first_taken out m =
      let z = zero-block N reading_limit in
      taken-undone N 0 (pos 0) (zeros (half_width N)) (back-first N w) of-first out (frame-long N w (zeros N) x z hx) m (omega arith)
      ∙ (first-undone N (pos 0) (zeros (half_width N)) of-first out).when-yes first_passes_lem
      ∙ rw (low-is N w (zeros N) x z hx, sum-none (pos 0))

-- and behind the last frame, which a block of zeros makes, the finish works
pub ended-works : (N b : ℕ) (t : ℤ) → ReachedBack N (suc b) t (lower N (zeros N)) → (ended_back (opened N (suc b) t (lower N (zeros N)))).0 ≡ (0, 0)
unfolding all_yes
ended-works N b t r = ap (λ (g : CallResult). g.0) ((ended-decided N b t (lower N (zeros N)) r).when-yes (rw (lower-zeros N N, inside-all 0 (zeros (half_width N)) (zero-block (half_width N) 0).within)))
