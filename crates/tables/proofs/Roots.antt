-- `root n` is the greatest whole number whose square is at most n, and `root_up n` the least whose square is at least n.
use mathlib.Core.Path.{◌≡◌, refl}
use mathlib.Core.Bool.{Bool, true, false, cond}
use Prim.Native.Nat.{ℕ, zero, suc, ◌+◌, ◌-◌, ◌*◌, ◌/◌, ◌^◌, ◌≤◌, ◌<◌}
use native.Mathlib.Nat.{mul-le-mul, pow-suc}
use native.Mathlib.Omega.{arith}
use borrow.Author.Tests.{leb-true, leb-false}
use lib.Dec.{leb}
use Rattle.tables.specs.Boxes.{root_by, root, root_up}

pub square-lt : (a b : ℕ) → a * a < b * b → a < b
square-lt a b h = by (leb b a) refl
  where
    by : (t : Bool) → leb b a ≡ t → a < b
    by true e = let l = leb-true b a e in absurd (omega (arith, mul-le-mul l l))
    by false e = leb-false b a e

pub square_le : (a b : ℕ) → a * a ≤ b * b → a ≤ b
square_le a b h = let l : a < suc b = square-lt a (suc b) (omega arith) in omega arith

step-low : (q n : ℕ) (t : Bool) → leb ((2 * q + 1) * (2 * q + 1)) n ≡ t → q * q ≤ n / 4 → cond t (2 * q + 1) (2 * q) * cond t (2 * q + 1) (2 * q) ≤ n
step-low q n true e h = leb-true _ _ e
step-low q n false e h = omega arith

step-high : (q n : ℕ) (t : Bool) → leb ((2 * q + 1) * (2 * q + 1)) n ≡ t → n / 4 < suc q * suc q → n < suc (cond t (2 * q + 1) (2 * q)) * suc (cond t (2 * q + 1) (2 * q))
step-high q n true e h = omega arith
step-high q n false e h = let l = leb-false ((2 * q + 1) * (2 * q + 1)) n e in omega arith

root_by-low : (d n : ℕ) → root_by d n * root_by d n ≤ n
unfolding root_by
root_by-low zero n = omega arith
root_by-low (suc d) n = let q = root_by d (n / 4) in step-low q n (leb ((2 * q + 1) * (2 * q + 1)) n) refl (root_by-low d (n / 4))

root_by-high : (d n : ℕ) → n < 4 ^ d → n < suc (root_by d n) * suc (root_by d n)
unfolding root_by
root_by-high zero n h = omega arith
root_by-high (suc d) n h =
    let q = root_by d (n / 4) in
    step-high q n (leb ((2 * q + 1) * (2 * q + 1)) n) refl (root_by-high d (n / 4) (omega (arith, pow-suc 4 d)))

pub root-low : (n : ℕ) → root n * root n ≤ n
unfolding root
root-low n = root_by-low 61 n

pub root-high : (n : ℕ) → n < 4 ^ 61 → n < suc (root n) * suc (root n)
unfolding root
root-high n h = root_by-high 61 n h

-- the square property decides the number
pub root_is : (n l : ℕ) → n < 4 ^ 61 → l * l ≤ n → n < suc l * suc l → root n ≡ l
root_is n l s h k =
    let a = square-lt (root n) (suc l) (omega (arith, root-low n)) in
    let b = square-lt l (suc (root n)) (omega (arith, root-high n s)) in
    omega arith

-- two neighbours whose squares lie on both sides
up : (n r : ℕ) (t : Bool) → leb n (r * r) ≡ t → r * r ≤ n → n < suc r * suc r → (n ≤ cond t r (r + 1) * cond t r (r + 1)) × ((x : ℕ) → n ≤ x * x → cond t r (r + 1) ≤ x)
up n r true e h k = (leb-true n (r * r) e, λ x l. square_le r x (omega arith))
up n r false e h k = let f = leb-false n (r * r) e in (omega arith, λ x l. let s = square-lt r x (omega arith) in omega arith)

pub root_up-high : (n : ℕ) → n < 4 ^ 61 → n ≤ root_up n * root_up n
unfolding root_up
root_up-high n s = (up n (root n) (leb n (root n * root n)) refl (root-low n) (root-high n s)).0

pub root_up-least : (n : ℕ) → n < 4 ^ 61 → (x : ℕ) → n ≤ x * x → root_up n ≤ x
unfolding root_up
root_up-least n s = (up n (root n) (leb n (root n * root n)) refl (root-low n) (root-high n s)).1

pub root_up-is : (n u : ℕ) → n < 4 ^ 61 → n ≤ u * u → (u - 1) * (u - 1) < n → root_up n ≡ u
root_up-is n u s h k =
    let a = root_up-least n s u h in
    let b = square-lt (u - 1) (root_up n) (omega (arith, root_up-high n s)) in
    omega arith
