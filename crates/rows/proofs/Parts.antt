-- The front of a room, in which a list is put for its product: as long as half of a width.
use mathlib.Core.Path.{◌≡◌, sym, ap}
use mathlib.Core.List.{List, ◌++◌}
use Prim.Native.Nat.{ℕ, ◌≤◌, zero-le}
use native.Mathlib.Omega.{arith}
use lib.Dec.{lit≤}
use lib.IntN.{ℤ}
use lib.ListN.{length, take, drop}
use lib.Seq.{length-take-le, length_front}
use Rattle.tables.specs.Widths.{by_width, half_width}
use Rattle.tables.proofs.ByWidth.{at_each}
use Rattle.width_tables.specs.Filled.{product_room}

pub room-le : (N : ℕ) → half_width N ≤ product_room N
unfolding half_width product_room by_width
room-le = at_each (λ N M. M ≤ product_room N) 4 16 64 0 (lit≤ tt) (lit≤ tt) (lit≤ tt) (λ N x y z. zero-le)

module _ (N h : ℕ) (half : h ≡ half_width N) (room : List ℤ) (fits : product_room N ≤ length room) where
  pub front-le : h ≤ length room
  front-le = omega (arith, half, room-le N, fits)

  pub front_long : length (take h room) ≡ h
  front_long = length-take-le h room front-le

  pub room-kept : (new : List ℤ) → length new ≡ length (take h room) → product_room N ≤ length (new ++ drop h room)
  room-kept new long = omega (arith, fits, length_front room new h long)
