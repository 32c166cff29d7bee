-- Parts of a list that start at its front, and what was stored there.
use mathlib.Core.Path.{◌≡◌, sym, ap, ◌∙◌}
use mathlib.Core.List.{List, ◌++◌, append-nil}
use Prim.Native.Nat.{ℕ, ◌-◌, ◌≤◌}
use native.Mathlib.Nat.{le_refl}
use native.Mathlib.Omega.{arith}
use lib.IntN.{ℤ}
use lib.ListN.{length, take, drop, length-append, length-drop, drop_of_length-le}
use lib.Seq.{length-take-le, take-append_seam}
use borrow.Rule.Slice.PartMut.{mid_of, put_mid, mid_len}

pub part-long : (n : ℕ) (l : List ℤ) → n ≤ length l → n ≡ length (take n l)
part-long n l h = sym (length-take-le n l h)

-- what was stored in front is read back
pub front : (n : ℕ) (xs d : List ℤ) → length xs ≡ n → take n (xs ++ d) ≡ xs
front n xs d e = ap (λ k. take k (xs ++ d)) (sym e) ∙ take-append_seam xs d

pub front_long : (n : ℕ) (xs d : List ℤ) → length xs ≡ n → n ≡ length (take n (xs ++ d))
front_long n xs d e = sym (ap length (front n xs d e) ∙ e)

pub front-le : (n : ℕ) (xs d : List ℤ) → length xs ≡ n → n ≤ length (xs ++ d)
front-le n xs d e = omega (arith, length-append xs d)

-- all behind the front: how long it is, and the list with other numbers there
module _ (n : ℕ) (xs d : List ℤ) (e : length xs ≡ n) where
  pub rest-long : length (mid_of n (length (xs ++ d) - n) (xs ++ d)) ≡ length d
  rest-long = mid_len n (length (xs ++ d)) (xs ++ d) (le_refl (length (xs ++ d))) ∙ omega (arith, length-append xs d)

  pub rest_put : (ys : List ℤ) → put_mid n (length (xs ++ d) - n) (xs ++ d) ys ≡ xs ++ ys
  rest_put ys =
      let l : length (drop n (xs ++ d)) ≤ length (xs ++ d) - n = omega (arith, length-drop n (xs ++ d)) in
      ap (λ (zs : List ℤ). take n (xs ++ d) ++ (ys ++ zs)) (drop_of_length-le (drop n (xs ++ d)) l)
      ∙ ap (λ (zs : List ℤ). take n (xs ++ d) ++ zs) (append-nil ys)
      ∙ ap (λ (zs : List ℤ). zs ++ ys) (front n xs d e)
