-- What the code does at one place.
use Rattle.std.specs.Prelude.{Bool, true, false, cond, List, ℕ, ◌/◌, ◌%◌, eqb, ℤ, ◌+ℤ◌, ◌-ℤ◌}
use Rattle.integers.specs.Places.{at}

-- a step, or the step undone: a sum, or a difference
unfoldable pub moved : Bool → ℤ → ℤ → ℤ
moved true y amount = y -ℤ amount
moved false y amount = y +ℤ amount

unfoldable pub woven_at : List ℤ → List ℤ → ℕ → ℤ
woven_at top bottom i = cond (eqb (i % 2) 0) (at top (i / 2)) (at bottom (i / 2))
