-- What is read from the tables of `specs/` at an angle.
use mathlib.Core.Path.{◌≡◌, refl, sym, ap, ◌∙◌}
use mathlib.Core.List.{map}
use Prim.Native.Nat.{ℕ, ◌/◌, ◌%◌, ◌≤◌, ◌<◌}
use native.Mathlib.Omega.{arith}
use lib.IntN.{pos}
use lib.ListN.{get_or, get_or-map}
use Rattle.integers.specs.Places.{tab, places, at}
use Rattle.integers.proofs.PlaceLaws.{at_places}
use Rattle.tables.specs.Widths.{half_width}
use Rattle.tables.specs.Angles.{half_turn, reflected, below_zero, signed}
use Rattle.tables.specs.Numbers.{sines, cosine_of, sine_of}
use Rattle.tables.proofs.Quadrants.{same_turn}
use Rattle.tables.proofs.ByWidth.{at_each}

-- a cosine counts by what is left of its angle within a turn
pub cosine-turn : (x y : ℕ) → x % 1024 ≡ y % 1024 → cosine_of x ≡ cosine_of y
unfolding cosine_of
cosine-turn x y e = let s = same_turn 256 x y e in rw (s.0, s.1)

-- the first quadrant of sines is the table
sines-are : places 257 sine_of ≡ map pos sines
unfolding tab sine_of cosine_of sines half_turn reflected below_zero signed
sines-are = refl

pub sine-quarter : (j : ℕ) → j ≤ 256 → sine_of j ≡ pos (get_or sines j 0)
sine-quarter j h = sym (at_places 257 sine_of j (omega arith)) ∙ ap (λ l. at l j) sines-are ∙ get_or-map pos sines j 0

-- half a width, as the code has it
pub half_is : (n : ℕ) → 0 < half_width n → n / 2 ≡ half_width n
unfolding half_width
half_is = at_each (λ n m. 0 < m → n / 2 ≡ m) 4 16 64 0 (λ z. refl) (λ z. refl) (λ z. refl) (λ n x y w z. absurd (omega arith))
