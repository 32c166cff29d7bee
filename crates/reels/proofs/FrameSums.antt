-- The squares of frames added one after the other, from zeros on, are the sums over these frames.
use mathlib.Core.Path.{◌≡◌, refl, sym, ap, ap₂, ◌∙◌}
use mathlib.Core.List.{List, [], ◌∷◌, ◌++◌}
use Prim.Native.Nat.{ℕ, zero, suc, ◌+◌, ◌≤◌, ◌<◌}
use native.Mathlib.Omega.{arith}
use lib.IntN.{ℤ, pos, ◌+ℤ◌, +ℤ_assoc, +ℤ_idl, +ℤ_idr}
use lib.ListN.{length, get_or, take, drop, length-replicate, get_or-replicate}
use lib.Seq.{drop-cons}
use Rattle.runs.specs.Record.{zeros}
-- what is computed comes before what is proved: a wrong definition fails first at a sample
use Rattle.reels.specs.Samples as Samples
use Rattle.reels.specs.Page.{squared, sum_of_squares, sums_from}
use Rattle.reels.specs.Reel.{squares_added}

unfoldable pub frames_added : List ℤ → List (List ℤ) → List ℤ
frames_added sums [] = sums
frames_added sums (frame ∷ frames) = frames_added (squares_added sums frame) frames

pub added-behind : (sums : List ℤ) (a b : List (List ℤ)) → frames_added (frames_added sums a) b ≡ frames_added sums (a ++ b)
unfolding frames_added
added-behind sums [] b = refl
added-behind sums (frame ∷ a) b = added-behind (squares_added sums frame) a b

-- ---- one frame, at one place
added-length : (sums frame : List ℤ) → length (squares_added sums frame) ≡ length sums
unfolding squares_added
added-length [] frame = refl
added-length (s ∷ sums) [] = refl
added-length (s ∷ sums) (x ∷ frame) = ap suc (added-length sums frame)

added-at : (sums frame : List ℤ) (k : ℕ) → k < length sums → get_or (squares_added sums frame) k (pos 0) ≡ get_or sums k (pos 0) +ℤ squared (get_or frame k (pos 0))
unfolding squares_added
added-at [] frame k h = absurd (omega arith)
added-at (s ∷ sums) [] k h = sym (+ℤ_idr (get_or (s ∷ sums) k (pos 0)))
added-at (s ∷ sums) (x ∷ frame) zero h = refl
added-at (s ∷ sums) (x ∷ frame) (suc k) h = added-at sums frame k (omega arith)

-- ---- all frames
all-length : (sums : List ℤ) (frames : List (List ℤ)) → length (frames_added sums frames) ≡ length sums
unfolding frames_added
all-length sums [] = refl
all-length sums (frame ∷ frames) = all-length (squares_added sums frame) frames ∙ added-length sums frame

all-at : (sums : List ℤ) (frames : List (List ℤ)) (k : ℕ) → k < length sums → get_or (frames_added sums frames) k (pos 0) ≡ get_or sums k (pos 0) +ℤ sum_of_squares k frames
unfolding frames_added sum_of_squares
all-at sums [] k h = sym (+ℤ_idr (get_or sums k (pos 0)))
all-at sums (frame ∷ frames) k h =
    all-at (squares_added sums frame) frames k (omega (arith, added-length sums frame))
    ∙ ap (λ (s : ℤ). s +ℤ sum_of_squares k frames) (added-at sums frame k h)
    ∙ +ℤ_assoc (get_or sums k (pos 0)) (squared (get_or frame k (pos 0))) (sum_of_squares k frames)

listed : (n k : ℕ) (xs : List ℤ) (frames : List (List ℤ)) → k + n ≤ length xs → ((i : ℕ) → i < length xs → get_or xs i (pos 0) ≡ sum_of_squares i frames)
    → take n (drop k xs) ≡ sums_from k n frames
unfolding sums_from
listed zero k xs frames h e = refl
listed (suc n) k xs frames h e =
    rw (drop-cons xs k (pos 0) (omega arith)) (ap₂ (λ (y : ℤ) (ys : List ℤ). y ∷ ys) (e k (omega arith)) (listed n (suc k) xs frames (omega arith) e))

pub sums-are : (m N : ℕ) (frames : List (List ℤ)) → N ≤ m → take N (frames_added (zeros m) frames) ≡ sums_from 0 N frames
sums-are m N frames h =
    let long : length (frames_added (zeros m) frames) ≡ m = all-length (zeros m) frames ∙ length-replicate m (pos 0) in
    listed N 0 (frames_added (zeros m) frames) frames (omega arith)
    (λ i l.
    all-at (zeros m) frames i (omega (arith, length-replicate m (pos 0)))
    ∙ ap (λ (s : ℤ). s +ℤ sum_of_squares i frames) (get_or-replicate m i (pos 0) (pos 0) (omega arith))
    ∙ +ℤ_idl (sum_of_squares i frames))
