-- The page of a reel: for each coefficient number the sum of the squares over all frames, and the count of frames.
use Rattle.std.specs.Prelude.{List, [], ◌∷◌, ◌++◌, ℕ, zero, suc, ℤ, pos, ◌+ℤ◌, ◌*ℤ◌, length, get_or}
use Rattle.text_runs.specs.Decimal.{decimal, printed}
use Rattle.text_runs.specs.Lines.{comma, line_feed}

-- the bytes of `frames,`
unfoldable pub frames_tag : List ℕ
frames_tag = 102 ∷ 114 ∷ 97 ∷ 109 ∷ 101 ∷ 115 ∷ 44 ∷ []

-- ---- printed
-- a line `number,sum` for each sum, where the first has the number k
unfoldable pub sum_line : ℕ → ℤ → List ℕ
sum_line k s = decimal k ++ comma ∷ printed s ++ line_feed ∷ []

unfoldable pub sum_lines : ℕ → List ℤ → List ℕ
sum_lines k [] = []
sum_lines k (s ∷ sums) = sum_line k s ++ sum_lines (suc k) sums

-- and last the count of frames
unfoldable pub page : List ℤ → ℕ → List ℕ
page sums frames = sum_lines 0 sums ++ frames_tag ++ decimal frames ++ line_feed ∷ []

-- ---- what it says of a list of frames
abbrev pub squared : ℤ → ℤ
squared x = x *ℤ x

-- over all frames, the sum of the square of coefficient k
unfoldable pub sum_of_squares : ℕ → List (List ℤ) → ℤ
sum_of_squares k [] = pos 0
sum_of_squares k (frame ∷ frames) = squared (get_or frame k (pos 0)) +ℤ sum_of_squares k frames

-- for n coefficient numbers from k on
unfoldable pub sums_from : ℕ → ℕ → List (List ℤ) → List ℤ
sums_from k zero frames = []
sums_from k (suc n) frames = sum_of_squares k frames ∷ sums_from (suc k) n frames

unfoldable pub page_of : ℕ → List (List ℤ) → List ℕ
page_of N frames = page (sums_from 0 N frames) (length frames)
