-- Any angle by one of the first quadrant: document 01, "Tables". Whole turns come off, then it is reflected, and a cosine or a secant gets the
-- sign of its quadrant. q is how many parts the right angle has.
use Rattle.std.specs.Prelude.{Bool, true, false, cond, ℕ, ◌-◌, ◌*◌, ◌%◌, leb, ltb, ℤ, neg_ℤ}

-- whole turns off, and at most half a turn: a cosine is the same at a turn less the angle
unfoldable pub half_turn : ℕ → ℕ → ℕ
half_turn q x = let p = x % (4 * q) in cond (leb p (2 * q)) p (4 * q - p)

-- past the right angle: half a turn less the angle, and the cosine below zero
unfoldable pub reflected : ℕ → ℕ → ℕ
reflected q x = let h = half_turn q x in cond (leb h q) h (2 * q - h)

unfoldable pub below_zero : ℕ → ℕ → Bool
below_zero q x = ltb q (half_turn q x)

unfoldable pub signed : Bool → ℤ → ℤ
signed true z = neg_ℤ z
signed false z = z
