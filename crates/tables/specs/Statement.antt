-- What is shown of the tables and of the boxes: document 01, "Tables". n is a width; any other number has no half tangents and no secants.
-- `proofs/Nearest` and `proofs/BoxTable` prove it.
use Rattle.std.specs.Prelude.{◌≡◌, ℕ, ◌+◌, ◌*◌, ◌/◌, ◌^◌, ◌<◌, length, get_or, ◌≤ℤ◌}
use Rattle.tables.specs.Widths.{by_width}
use Rattle.tables.specs.Numbers.{sines, half_tangents, secants}
use Rattle.tables.specs.Boxes.{only, at_double, cosine_box, sine_box, Squares, Nearest}

-- how many entries each table has, and no more
pub record Counted (n : ℕ) : Type 0 where
  pub sines-counted : length sines ≡ 257
  pub half-tangents-counted : length (half_tangents n) ≡ by_width 4 16 64 0 n
  pub secants-counted : length (secants n) ≡ by_width 2 8 32 0 n

abbrev pub TablesCounted : Type 0
TablesCounted = (n : ℕ) → Counted n

-- Each entry is nearest whatever the true values between the ends of their boxes are. sin(jπ/512) is over 1, and its angle is 2j parts of π/1024.
abbrev pub SinesNearest : Type 0
SinesNearest = (j : ℕ) → j < 257 → Nearest (get_or sines j 0) (sine_box (2 * j)) (only (2 ^ 60))

-- tan((2m+1)π/(8N)) is sine over cosine at (2m+1)·128/N parts
abbrev pub HalfTangentsNearest : Type 0
HalfTangentsNearest =
    (n m : ℕ) → m < by_width 4 16 64 0 n → Nearest (get_or (half_tangents n) m 0) (sine_box ((2 * m + 1) * (128 / n))) (cosine_box ((2 * m + 1) * (128 / n)))

-- 1/cos(rπ/N), where entry i has the odd r = 2i+1, is 1 over the cosine at r·1024/N parts
abbrev pub SecantsNearest : Type 0
SecantsNearest = (n i : ℕ) → i < by_width 2 8 32 0 n → Nearest (get_or (secants n) i 0) (only (2 ^ 60)) (cosine_box ((2 * i + 1) * (1024 / n)))

-- The boxes: exact at angle 0 and at the right angle, with the square property between. Each of the 513 holds some value: its lower end is at
-- most its upper end.
pub record Boxed : Type 0 where
  pub angle-0 : cosine_box 0 ≡ only (2 ^ 60)
  pub right-angle : cosine_box 512 ≡ only 0
  pub squares : (a : ℕ) → 0 < a → a < 512 → Squares (at_double cosine_box a) (cosine_box a)
  pub ordered : (a : ℕ) → a < 513 → (cosine_box a).low ≤ℤ (cosine_box a).high
