-- Division of whole numbers rounded down, and document 01's rounding.
use Rattle.std.specs.Prelude.{ℕ, zero, suc, ◌/◌, ◌^◌, ℤ, pos, negsuc, ◌+ℤ◌}

-- a number's part above zero, and its part below: z is above z − below z
unfoldable pub above : ℤ → ℕ
above (pos n) = n
above (negsuc n) = 0

unfoldable pub below : ℤ → ℕ
below (pos n) = 0
below (negsuc n) = suc n

-- the floor of v / p; 0 where p is 0
unfoldable pub floor_div : ℤ → ℕ → ℤ
floor_div v zero = pos 0
floor_div (pos a) (suc p) = pos (a / suc p)
floor_div (negsuc a) (suc p) = negsuc (a / suc p)

-- v / 2^k rounded: the floor of (v + 2^(k−1)) / 2^k, so that halves go up (here k is suc j); v / 1 is whole already
unfoldable pub round : ℕ → ℤ → ℤ
round zero v = v
round (suc j) v = floor_div (v +ℤ pos (2 ^ j)) (2 ^ suc j)
