-- What is filled for a width: one list, its parts one behind the other.
use Rattle.std.specs.Prelude.{◌≡◌, List, ℕ, ◌+◌, ◌*◌, ◌≤◌, ◌<◌, ℤ, pos, neg_ℤ, ◌*ℤ◌, length, take, drop}
use Rattle.integers.specs.Places.{places, at}
use Rattle.tables.specs.Widths.{by_width, half_width, scale}
use Rattle.steps.specs.Steps.{tangent, sine, alternate}
use Rattle.products.specs.Own.Whole.{LeafLists}
use Rattle.width_tables.specs.Orders.{angle_at, place_in, sign_in, place_out}
use Rattle.tables.specs.Numbers.{cosine_of, secant_of}

-- n numbers from place a on
abbrev pub part : ℕ → ℕ → List ℤ → List ℤ
part a n t = take n (drop a t)

-- how many numbers: of the leaf lists of one matrix, of all, and of room for the lists of a level and for a product
unfoldable pub leaves_long : ℕ → ℕ
leaves_long = by_width 9 81 729 0

unfoldable pub tables_long : ℕ → ℕ
tables_long N = 7 * half_width N + 2 * leaves_long N

unfoldable pub list_room : ℕ → ℕ
list_room = by_width 8 72 648 0

unfoldable pub product_room : ℕ → ℕ
product_room = by_width 4 36 324 0

-- the cosines at 3^e·π/(4M), and the secants at r = 2k + 1, 64/M times as large, for e and k below 2M
unfoldable pub cosine_list : ℕ → List ℤ
cosine_list N = places N (λ e. cosine_of (angle_at N e))

unfoldable pub secant_list : ℕ → List ℤ
secant_list N = places N (λ k. pos (scale N * scale N) *ℤ secant_of N (pos (2 * k + 1)))

pub record Filled (N : ℕ) (t : List ℤ) : Type 0 where
  pub long : length t ≡ tables_long N
  pub tangents : take (half_width N) t ≡ places (half_width N) (λ m. neg_ℤ (tangent N m))
  pub sines : part (half_width N) (half_width N) t ≡ places (half_width N) (sine N)
  pub places-in : part (2 * half_width N) (half_width N) t ≡ places (half_width N) (λ j. pos (place_in N j))
  pub signs : part (3 * half_width N) (half_width N) t ≡ places (half_width N) (sign_in N)
  pub alternated : part (4 * half_width N) (half_width N) t ≡ places (half_width N) (λ j. alternate (place_in N j) (sign_in N j))
  pub places-out : part (5 * half_width N) (half_width N) t ≡ places (half_width N) (λ m. pos (place_out N m))
  pub signs-out : part (6 * half_width N) (half_width N) t ≡ places (half_width N) (λ m. pos (scale N) *ℤ sign_in N (place_out N m))
  pub cosines : LeafLists (half_width N) (cosine_list N) (part (7 * half_width N) (leaves_long N) t)
  pub secants : LeafLists (half_width N) (secant_list N) (part (7 * half_width N + leaves_long N) (leaves_long N) t)

-- ---- on the way: the tangents and sines, and the leaf lists; nothing else changed
pub record LiftsFilled (N : ℕ) (t₀ t : List ℤ) : Type 0 where
  pub long : length t ≡ length t₀
  pub tangents : take (half_width N) t ≡ places (half_width N) (λ m. neg_ℤ (tangent N m))
  pub sines : part (half_width N) (half_width N) t ≡ places (half_width N) (sine N)
  pub behind : (p : ℕ) → N ≤ p → at t p ≡ at t₀ p

pub record ListsFilled (N : ℕ) (t₀ t : List ℤ) : Type 0 where
  pub long : length t ≡ length t₀
  pub cosines : LeafLists (half_width N) (cosine_list N) (part (7 * half_width N) (leaves_long N) t)
  pub secants : LeafLists (half_width N) (secant_list N) (part (7 * half_width N + leaves_long N) (leaves_long N) t)
  pub before : (p : ℕ) → p < 7 * half_width N → at t p ≡ at t₀ p
