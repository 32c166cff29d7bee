-- Room for a frame: for its halves and for two products, each of which has room for as many numbers as a block has.
use Rattle.std.specs.Prelude.{List, ℕ, ◌≤◌, ℤ, length}
use Rattle.width_tables.specs.Own.Parts.{TwoHalves, Room}

pub record WideRoom (N : ℕ) (top bottom y z : List ℤ) : Type 0 where
  pub halves : TwoHalves N top bottom
  pub products : Room N y z
  pub y-wide : N ≤ length y
  pub z-wide : N ≤ length z
