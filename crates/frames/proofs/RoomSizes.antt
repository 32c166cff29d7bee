-- Room to work in: how much each width takes, and the parts of it that are lent.
use mathlib.Core.Path.{◌≡◌, sym, ◌∙◌}
use mathlib.Core.List.{List}
use Prim.Native.Nat.{ℕ, ◌/◌, ◌≤◌, ◌<◌}
use native.Mathlib.Omega.{arith}
use lib.IntN.{ℤ}
use lib.ListN.{length, take}
use Rattle.tables.specs.Widths.{half_width}
use Rattle.tables.proofs.ByWidth.{half-width-le}
use Rattle.tables.proofs.Reading.{half_is}
use Rattle.width_tables.specs.Filled.{tables_long, list_room, product_room}
use Rattle.width_tables.specs.Own.Parts.{TwoHalves, Room}
use Rattle.slices.proofs.Parts.{part-long}
use Rattle.runs.proofs.RecordLaws.{width-le}
use Rattle.frames.specs.Own.WideRoom.{WideRoom}
use Rattle.frames.proofs.RoomLaws.{tables-le, lists-le, product_le, halves-lent}

-- arrays of these lengths have room for all that a width takes, for half of it, and for a list, a product or a block
pub record Wide (N tables half list : ℕ) : Type 0 where
  pub wide : 0 < half_width N
  pub for-tables : tables_long N ≤ tables
  pub for-half : half_width N ≤ half
  pub for-list : list_room N ≤ list
  pub for-product : product_room N ≤ list
  pub for-block : N ≤ list

pub large-room : (N : ℕ) → 0 < half_width N → Wide N 1906 64 648
large-room N w = record { wide = w; for-tables = tables-le N; for-half = half-width-le N; for-list = lists-le N; for-product = product_le N; for-block = omega (arith, width-le N w) }

-- what the width takes is filled into the front of an array
module _ {N tables half list : ℕ} (r : Wide N tables half list) (long : ℕ) (e : long ≡ tables_long N) where
  pub tables-in : (t : List ℤ) → tables ≡ length t → long ≤ length t
  tables-in t l = omega (arith, r.for-tables)

  pub fill-asks : (t room : List ℤ) → tables ≡ length t → list ≡ length room → (0 < half_width N) × (length (take long t) ≡ tables_long N) × (list_room N ≤ length room)
  fill-asks t room l k = (r.wide, sym (part-long long t (tables-in t l)) ∙ e, omega (arith, r.for-list))

-- room in which another y stands is room where that is as long
pub same-room : {N : ℕ} {top bottom y z y₂ : List ℤ} → WideRoom N top bottom y z → length y₂ ≡ length y → WideRoom N top bottom y₂ z
same-room r e = record { halves = r.halves; products = record { y-long = omega (arith, e, r.products.y-long); z-long = r.products.z-long }; y-wide = omega (arith, e, r.y-wide); z-wide = r.z-wide }

-- ---- the room that a step is lent: halves, from the front of two arrays, and two arrays for a product each
pub record Lent (half list : ℕ) (top bottom y z : List ℤ) : Type 0 where
  pub top-long : half ≡ length top
  pub bottom-long : half ≡ length bottom
  pub y-long : list ≡ length y
  pub z-long : list ≡ length z

module _ {N tables half list : ℕ} (r : Wide N tables half list) {top bottom y z : List ℤ} (l : Lent half list top bottom y z) where
  pub top-le : N / 2 ≤ length top
  top-le = omega (arith, half_is N r.wide, r.for-half, l.top-long)

  pub bottom-le : N / 2 ≤ length bottom
  bottom-le = omega (arith, half_is N r.wide, r.for-half, l.bottom-long)

  pub lent-halves : TwoHalves N (take (N / 2) top) (take (N / 2) bottom)
  lent-halves = halves-lent N r.wide top bottom top-le bottom-le

  pub lent-room : Room N y z
  lent-room = record { y-long = omega (arith, r.for-product, l.y-long); z-long = omega (arith, r.for-product, l.z-long) }

  pub lent-wide : WideRoom N (take (N / 2) top) (take (N / 2) bottom) y z
  lent-wide = record { halves = lent-halves; products = lent-room; y-wide = omega (arith, r.for-block, l.y-long); z-wide = omega (arith, r.for-block, l.z-long) }
