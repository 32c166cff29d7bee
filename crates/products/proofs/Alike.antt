-- A number has one number of levels, so the leaf lists of a table are filled in one way.
use mathlib.Core.Path.{◌≡◌, ap, path_j}
use denote.Struct.Props.{props}
use Prim.Native.Nat.{ℕ, ◌*◌, ◌^◌}
use mathlib.Core.List.{List}
use lib.IntN.{ℤ}
use Rattle.products.specs.Own.Products.{Power}
use Rattle.products.specs.Own.Whole.{LeafLists}
use Rattle.products.proofs.LevelRooms.{power-same}

same-number : (a b : ℕ) → IsProp (a ≡ b)
same-number a b = hlevel props

pub power-alike : (m : ℕ) → IsProp (Power m)
power-alike m p q = path_j (λ (b : ℕ) h. (f : m ≡ 4 * 2 ^ b) → p ≡ record { levels = b; is = f }) (λ f. ap (λ e. record { levels = p.levels; is = e }) (same-number m (4 * 2 ^ p.levels) p.is f)) (power-same p q) q.is

pub leaf-lists-alike : (m : ℕ) (table lists : List ℤ) → IsProp (LeafLists m table lists)
leaf-lists-alike m table lists = hlevel (power-alike, props)
