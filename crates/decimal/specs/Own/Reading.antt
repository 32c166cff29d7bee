-- What the code's own functions require and answer: a size within a limit, and the numbers of a line with their count.
use Rattle.std.specs.Prelude.{List, ℕ, ◌≤◌, ℤ, take, Option, Some, None}

-- no size above a limit
unfoldable pub size_within : ℕ → Option ℕ → Type 0
size_within limit (Some n) = n ≤ limit
size_within limit None = Unit {0}

-- what the code's answer and its numbers stand for
unfoldable pub shown_as : Option ℕ → List ℤ → Option (List ℤ)
shown_as (Some n) xs = Some (take n xs)
shown_as None xs = None

-- no more numbers than there is room for
unfoldable pub count_within : ℕ → Option ℕ → Type 0
count_within room (Some n) = n ≤ room
count_within room None = Unit {0}
