-- A frame counts once and in its own place. `proofs/Exchanged` proves it.
use Rattle.std.specs.Prelude.{◌≡◌, List, [], ◌∷◌, ◌++◌, map, ℕ, ℤ, pos, ◌+ℤ◌}
use Rattle.reels.specs.Page.{sum_of_squares, page_of}
use Rattle.reels.specs.Program.{reel_printed}
use Rattle.reels.specs.EveryReel.{FramesAndTotal, ReelOf, texts_of, all_frames}

-- exchanging two frames of a reel does not change the page
abbrev pub FramesExchanged : Type 0
FramesExchanged =
    (N : ℕ) (x y : List ℤ) (front between behind : List (List ℤ)) → page_of N (front ++ x ∷ between ++ y ∷ behind) ≡ page_of N (front ++ y ∷ between ++ x ∷ behind)

-- nor does exchanging two runs
abbrev pub RunsExchanged : Type 0
RunsExchanged =
    (N : ℕ) (x y : FramesAndTotal) (front between behind : List FramesAndTotal)
    → ReelOf N (front ++ x ∷ between ++ y ∷ behind) → reel_printed (texts_of N (front ++ x ∷ between ++ y ∷ behind)) ≡ reel_printed (texts_of N (front ++ y ∷ between ++ x ∷ behind))

-- the sums of a reel are the sums of its runs, added
unfoldable pub added : List ℤ → ℤ
added [] = pos 0
added (x ∷ xs) = x +ℤ added xs

abbrev pub SumsAdded : Type 0
SumsAdded = (k : ℕ) (runs : List FramesAndTotal) → sum_of_squares k (all_frames runs) ≡ added (map (λ run. sum_of_squares k run.0) runs)
