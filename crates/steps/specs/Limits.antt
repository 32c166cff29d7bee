-- The limits on readings, folded values and coefficients: document 01.
use Rattle.std.specs.Prelude.{ℕ}

-- the size of a reading
abbrev pub reading_limit : ℕ
reading_limit = 32767

-- what the fold makes of readings in range
abbrev pub rotated_limit : ℕ
rotated_limit = 46342

-- the size of a folded value that question 10 lets pass, and of a held one in question 2
abbrev pub folded_limit : ℕ
folded_limit = 50000

-- the size of a coefficient that question 9 lets pass on the way back
abbrev pub coefficient_limit : ℕ
coefficient_limit = 1048576
