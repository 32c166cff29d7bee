-- A record that the gate has passed: what the steps can rely on, and the record that they leave.
use mathlib.Core.Path.{◌≡◌, refl, sym, ap, ◌∙◌}
use mathlib.Core.Bool.{Bool, true, false}
use mathlib.Core.List.{List, ◌∷◌, ◌++◌}
use Prim.Native.Nat.{ℕ, zero, suc, ◌-◌, ◌≤◌, ◌<◌}
use native.Mathlib.Omega.{arith}
use borrow.Author.Tests.{ltb-true, leb-true}
use lib.IntN.{ℤ, pos, ◌+ℤ◌}
use lib.ListN.{length, take, drop, length-drop, take-append-drop}
use lib.Seq.{length-take-le}
use Rattle.integers.specs.Places.{Within}
use Rattle.integers.specs.Vectors.{sum_of}
use Rattle.integers.proofs.PlaceLaws.{within_all}
use Rattle.tables.specs.Widths.{half_width}
use Rattle.tables.proofs.ByWidth.{half-width-le}
use Rattle.steps.specs.Limits.{reading_limit, folded_limit}
use Rattle.steps.specs.Steps.{held, frame}
use Rattle.steps.proofs.Lengths.{length-held}
use Rattle.distance.proofs.ZeroBlock.{zero-block}
use Rattle.runs.specs.declared.record.Run.{Run}
use Rattle.runs.specs.Record.{frame_limit, zeros, record_of, zero_padded, opened, advanced}
use Rattle.runs.specs.Gate.{inside, sound}
use Rattle.runs.specs.Forward.{frame_on}
use Rattle.gate.specs.Own.Ready.{Ready}
use Rattle.runs.proofs.RecordLaws.{width-le, zeros-are}
use Rattle.runs.proofs.Searches.{all-inside}
use Rattle.runs.proofs.CallLaws.{every-answer}

-- zeros in front of zeros
pub zeros-part : (n m : ℕ) → n ≤ m → take n (zeros m) ≡ zeros n
zeros-part zero m h = refl
zeros-part (suc n) zero h = absurd (omega arith)
zeros-part (suc n) (suc m) h = ap (λ (l : List ℤ). pos 0 ∷ l) (zeros-part n m (omega arith))

-- nothing is held at the start
pub none-held : (N half : ℕ) (xs : List ℤ) → half ≡ half_width N → xs ≡ zeros 64 → take half xs ≡ zeros (half_width N)
none-held N half xs h e = ap (take half) e ∙ zeros-part half 64 (omega (arith, half-width-le N)) ∙ ap zeros h

-- a block of zeros, as long as the width
pub zero-part : (N : ℕ) (xs : List ℤ) → 0 < half_width N → xs ≡ zeros 128 → take N xs ≡ zeros N
zero-part N xs w e = ap (take N) e ∙ zeros-part N 128 (width-le N w)

pub zero-within : (N : ℕ) → Within reading_limit (zeros N)
zero-within N = within_all reading_limit _ (zero-block N reading_limit).within

pub passed : (top : ℕ) → top ≤ frame_limit → (run : Run) (half : ℕ) → sound top run ≡ true → half ≡ half_width run.width → length run.held ≡ 64 → Ready run half
unfolding sound inside
passed top m run half e h l = record {
  half_is = h;
  wide = ltb-true _ _ (every-answer _ e 0);
  below = let c = leb-true run.count top (every-answer _ e 1) in omega (arith, m, c);
  within = within_all folded_limit run.held (all-inside folded_limit run.held (every-answer _ e 2));
  rest =
      zeros-are (drop (half_width run.width) run.held) (all-inside 0 _ (every-answer _ e 3))
      ∙ ap zeros (length-drop (half_width run.width) run.held ∙ ap (λ n. n - half_width run.width) l);
}

-- ---- held values written in front of zeros
module _ (N half count : ℕ) (t : ℤ) (kept low : List ℤ) (rest : drop half kept ≡ zeros (64 - half_width N)) (long : length low ≡ half_width N) where
  pub stored-opened : (xs : List ℤ) → xs ≡ low ++ drop half kept → record { width = N; count = count; held = xs; finished = false; total = t } ≡ opened N count t low
  unfolding opened zero_padded
  stored-opened xs e = ap (λ (h : List ℤ). record { width = N; count = count; held = h; finished = false; total = t }) (e ∙ ap (λ xs. low ++ xs) (rest ∙ ap (λ n. zeros (64 - n)) (sym long)))

module _ (run : Run) (half : ℕ) (ready : Ready run half) where
  abbrev N : ℕ
  N = run.width

  -- the rest of the held values is zero
  pub rest-zero : drop half run.held ≡ zeros (64 - half_width N)
  rest-zero = ap (λ n. drop n run.held) ready.half_is ∙ ready.rest

  pub run_is : run.finished ≡ false → half ≤ length run.held → run ≡ opened N run.count run.total (take half run.held)
  run_is o l =
      ap (λ (f : Bool). record { width = N; count = run.count; held = run.held; finished = f; total = run.total }) o
      ∙ stored-opened N half run.count run.total run.held (take half run.held) rest-zero (length-take-le half run.held l ∙ ready.half_is) run.held (sym (take-append-drop half run.held))

  module _ (block : List ℤ) where
    pub advanced-is : run.finished ≡ false → (xs : List ℤ) → xs ≡ held N block ++ drop half run.held → record_of N (suc run.count) xs run.finished (run.total +ℤ sum_of block) ≡ advanced run block
    unfolding advanced
    advanced-is o xs e = ap (λ (f : Bool). record_of N (suc run.count) xs f (run.total +ℤ sum_of block)) o ∙ stored-opened N half (suc run.count) (run.total +ℤ sum_of block) run.held (held N block) rest-zero (length-held N block) xs e

    pub frame_on_lem : frame N (take half run.held) block ≡ frame_on run block
    unfolding frame_on
    frame_on_lem = ap (λ n. frame N (take n run.held) block) ready.half_is
