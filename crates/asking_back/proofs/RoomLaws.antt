-- Room keeps its length through the frames of a run.
use mathlib.Core.Path.{◌≡◌, sym, ap, subst, ◌∙◌}
use mathlib.Core.List.{List}
use Prim.Native.Nat.{ℕ, ◌≤◌, ◌<◌}
use native.Mathlib.Omega.{arith}
use lib.IntN.{ℤ, pos}
use lib.ListN.{length, take, length-replicate}
use Rattle.tables.specs.Widths.{half_width}
use Rattle.tables.proofs.ByWidth.{half-width-le}
use Rattle.tables.proofs.Reading.{half_is}
use Rattle.runs.specs.Record.{zeros}
use Rattle.gate.proofs.FaultLaws.{width_room}
use Rattle.gate.proofs.ReadyLaws.{none-held}
use Rattle.frames.proofs.RoomSizes.{Lent, large-room, lent-wide}
use Rattle.frames.specs.Own.WideRoom.{WideRoom}

pub record SameRoom (top₀ bottom₀ y₀ z₀ top bottom y z : List ℤ) : Type 0 where
  pub top-same : length top ≡ length top₀
  pub bottom-same : length bottom ≡ length bottom₀
  pub y-same : length y ≡ length y₀
  pub z-same : length z ≡ length z₀

pub still-room : {top₀ bottom₀ y₀ z₀ top bottom y z : List ℤ} → SameRoom top₀ bottom₀ y₀ z₀ top bottom y z → (N : ℕ) → WideRoom N top₀ bottom₀ y₀ z₀ → WideRoom N top bottom y z
still-room same N r = record {
  halves = record { top-long = same.top-same ∙ r.halves.top-long; bottom-long = same.bottom-same ∙ r.halves.bottom-long };
  products = record { y-long = omega (arith, same.y-same, r.products.y-long); z-long = omega (arith, same.z-same, r.products.z-long) };
  y-wide = omega (arith, same.y-same, r.y-wide);
  z-wide = omega (arith, same.z-same, r.z-wide);
}

-- ---- the room that a caller makes, and the parts of it that are lent: half the width, as the tables tell it
pub block_in : (N : ℕ) → 0 < half_width N → (xs : List ℤ) → xs ≡ zeros 128 → N ≤ length xs
block_in N w xs e = width_room N xs w (sym (ap length e ∙ length-replicate 128 (pos 0)))

module _ (N half : ℕ) (w : 0 < half_width N) (h : half ≡ half_width N) where
  pub half_in : (xs : List ℤ) → 64 ≡ length xs → half ≤ length xs
  half_in xs e = omega (arith, h, e, half-width-le N)

  pub held_in : (xs : List ℤ) → xs ≡ zeros 64 → half ≤ length xs
  held_in xs e = half_in xs (sym (ap length e ∙ length-replicate 64 (pos 0)))

  pub held_none : (xs : List ℤ) → xs ≡ zeros 64 → take half xs ≡ zeros (half_width N)
  held_none xs e = none-held N half xs h e

  pub lent : (top bottom y z : List ℤ) → 64 ≡ length top → 64 ≡ length bottom → 648 ≡ length y → 648 ≡ length z → WideRoom N (take half top) (take half bottom) y z
  lent top bottom y z a b c d =
      let l : Lent 64 648 top bottom y z = record { top-long = a; bottom-long = b; y-long = c; z-long = d } in
      subst (λ (n : ℕ). WideRoom N (take n top) (take n bottom) y z) (half_is N w ∙ sym h) (lent-wide (large-room N w) l)
