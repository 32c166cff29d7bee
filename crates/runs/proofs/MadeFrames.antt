-- The frames of a list of blocks: the first, and behind it one for each block, with the block after it or with zeros behind the last.
use mathlib.Core.Path.{◌≡◌, refl, ap, ◌∙◌}
use mathlib.Core.List.{List, [], ◌∷◌}
use Prim.Native.Nat.{ℕ, zero, suc}
use lib.IntN.{ℤ}
use lib.ListN.{length}
use Rattle.integers.specs.Places.{tab}
use Rattle.steps.specs.Steps.{held, frame}
use Rattle.runs.specs.Record.{zeros}
use Rattle.runs.specs.Calls.{block_at, block_before, frame_at}

unfoldable pub frames_after : ℕ → List (List ℤ) → List (List ℤ)
frames_after N [] = []
frames_after N (x ∷ xs) = frame N (held N x) (block_at N xs 0) ∷ frames_after N xs

abbrev pub all_frames : ℕ → List (List ℤ) → List (List ℤ)
all_frames N xs = frame N (held N (zeros N)) (block_at N xs 0) ∷ frames_after N xs

frames-shifted : (N : ℕ) (x : List ℤ) (xs : List (List ℤ)) (n i : ℕ) → tab (frame_at N (x ∷ xs)) n (suc (suc i)) ≡ tab (frame_at N xs) n (suc i)
unfolding tab frame_at block_at block_before
frames-shifted N x xs zero i = refl
frames-shifted N x xs (suc n) i = ap (λ l. frame_at N xs (suc i) ∷ l) (frames-shifted N x xs n (suc i))

frames-behind : (N : ℕ) (xs : List (List ℤ)) → tab (frame_at N xs) (length xs) 1 ≡ frames_after N xs
unfolding frames_after tab frame_at block_at block_before
frames-behind N [] = refl
frames-behind N (x ∷ xs) = ap (λ l. frame N (held N x) (block_at N xs 0) ∷ l) (frames-shifted N x xs (length xs) 0 ∙ frames-behind N xs)

pub all-frames : (N : ℕ) (xs : List (List ℤ)) → tab (frame_at N xs) (suc (length xs)) 0 ≡ all_frames N xs
unfolding tab frame_at block_before
all-frames N xs = ap (λ l. frame N (held N (zeros N)) (block_at N xs 0) ∷ l) (frames-behind N xs)
