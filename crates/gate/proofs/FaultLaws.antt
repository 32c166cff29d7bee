-- The first fault of the blocks of a whole run, block by block; and parts of the readings that are blocks.
use mathlib.Core.Path.{◌≡◌, refl, sym, ap, ◌∙◌}
use mathlib.Core.Bool.{true}
use mathlib.Core.List.{List, ◌++◌}
use Prim.Native.Nat.{ℕ, zero, suc, ◌+◌, ◌-◌, ◌*◌, ◌≤◌, ◌<◌}
use native.Mathlib.Nat.{mul-le-mul_right}
use native.Mathlib.Omega.{arith}
use lib.IntN.{ℤ, pos}
use lib.ListN.{length, take, drop, length-append, length-drop}
use lib.Seq.{length-take-le, drop-drop}
use Rattle.tables.specs.Widths.{half_width}
use Rattle.tables.proofs.ByWidth.{half-width-le}
use Rattle.std.specs.Prelude.{Option, Some, None, Ok, Err}
use Rattle.gate.specs.declared.questions.Fault.TheVariants.{Dead, Beyond}
use Rattle.runs.specs.Gate.{inside, first_dead, first_out}
use Rattle.gate.specs.Own.Faults.{Checked, fault_by, fault_of, fault_from, first_fault}
use Rattle.runs.specs.Record.{block_limit}
use Rattle.gate.specs.Own.Ready.{WholeBlocks}
use Rattle.steps.specs.Limits.{reading_limit}
use Rattle.runs.proofs.Searches.{place_found, found-place}
use Rattle.runs.proofs.RecordLaws.{width-le}
use Rattle.gate.proofs.GateLaws.{inside_take, inside-drop}
use Rattle.gate.proofs.BlockLaws.{range_clear}

-- ---- a fault's place is in its block
place_of : Checked → ℕ
place_of (Err (Dead place)) = place
place_of (Err (Beyond place)) = place
place_of (Ok x) = 0

fault-place : (xs : List ℤ) → place_of (fault_of xs) ≤ length xs
unfolding fault_of fault_by place_of place_found
fault-place xs = by (first_dead xs 0) (first_out xs 0) (found-place _ xs 0) (found-place _ xs 0)
  where
    by : (f g : Option ℕ) → place_found f ≤ 0 + length xs → place_found g ≤ 0 + length xs → place_of (fault_by f g) ≤ length xs
    by (Some place) g h k = omega arith
    by None (Some place) h k = omega arith
    by None None h k = omega arith

pub dead-place : (xs : List ℤ) (place : ℕ) → fault_of xs ≡ Err (Dead place) → place ≤ length xs
unfolding place_of
dead-place xs place e = omega (arith, fault-place xs, ap place_of e)

pub beyond-place : (xs : List ℤ) (place : ℕ) → fault_of xs ≡ Err (Beyond place) → place ≤ length xs
unfolding place_of
beyond-place xs place e = omega (arith, fault-place xs, ap place_of e)

-- ---- blocks of readings
-- room for a width, and for half of it
pub width_room : (N : ℕ) (xs : List ℤ) → 0 < half_width N → 128 ≡ length xs → N ≤ length xs
width_room N xs w e = omega (arith, width-le N w)

pub half_room : (N half : ℕ) (xs : List ℤ) → half ≡ half_width N → length xs ≡ 64 → half ≤ length xs
half_room N half xs h e = omega (arith, half-width-le N)

-- a list whose front was written is as long as it was
pub front_same : (n : ℕ) (xs ys : List ℤ) → n ≤ length xs → length ys ≡ length (take n xs) → length (ys ++ drop n xs) ≡ length xs
front_same n xs ys h e = omega (arith, length-append ys (drop n xs), length-take-le n xs h, length-drop n xs)

pub few-readings : (N : ℕ) (xs : List ℤ) → WholeBlocks N xs → length xs ≤ block_limit * 128
few-readings N xs h = omega (arith, h.whole, mul-le-mul_right N h.some, width-le N h.wide)

-- one block of those left
module _ (place left N all : ℕ) (e : place + left * N ≡ all) (h : 0 < left) where
  pub block-next : place + N + (left - 1) * N ≡ all
  block-next = by left e h
    where
      by : (l : ℕ) → place + l * N ≡ all → 0 < l → place + N + (l - 1) * N ≡ all
      by zero e h = absurd (omega arith)
      by (suc l) e h = let d : suc l - 1 ≡ l = omega arith in rw d (omega arith)

  pub block_in : place + N ≤ all
  block_in = omega (arith, block-next)

-- behind the last block
pub no_block : (place left N all : ℕ) → place + left * N ≡ all → left ≡ 0 → place ≡ all
no_block place left N all e z = let d = rw z at e in omega arith

-- the part that the code lends
pub part-is : (place N : ℕ) (xs : List ℤ) → take (place + N - place) (drop place xs) ≡ take N (drop place xs)
part-is place N xs = let e : place + N - place ≡ N = omega arith in ap (λ n. take n (drop place xs)) e

pub block-long : (place N : ℕ) (xs : List ℤ) → place + N ≤ length xs → length (take N (drop place xs)) ≡ N
block-long place N xs h = length-take-le N (drop place xs) (omega (arith, length-drop place xs))

-- ---- the first fault of the blocks left: of the next one, or of those after it
module _ (N before left : ℕ) (readings : List ℤ) (h : 0 < left) where
  abbrev later : Checked
  later = first_fault N (before + N) (left - 1) (drop (before + N) readings)

  fault-next : first_fault N before left (drop before readings) ≡ fault_from before (fault_of (take N (drop before readings))) later
  unfolding first_fault
  fault-next = by left h
    where
      by : (l : ℕ) → 0 < l → first_fault N before l (drop before readings) ≡ fault_from before (fault_of (take N (drop before readings))) (first_fault N (before + N) (l - 1) (drop (before + N) readings))
      by zero h = absurd (omega arith)
      by (suc l) h = let d : suc l - 1 ≡ l = omega arith in rw (d, ← drop-drop N before readings)

  -- without a fault among them, the next one has none and those after it have none
  pub both-clear : first_fault N before left (drop before readings) ≡ Ok tt → (fault_of (take N (drop before readings)) ≡ Ok tt) × (later ≡ Ok tt)
  unfolding fault_from
  both-clear e = by (fault_of (take N (drop before readings))) (sym fault-next ∙ e)
    where
      by : (f : Checked) → fault_from before f later ≡ Ok tt → (f ≡ Ok tt) × (later ≡ Ok tt)
      by (Err (Dead place)) e = (cc, cc)
      by (Err (Beyond place)) e = (cc, cc)
      by (Ok x) e = (refl, e)

module _ (N before left b : ℕ) (readings : List ℤ) (h : 0 < left) (e : first_fault N 0 b readings ≡ first_fault N before left (drop before readings)) where
  fault-here : (f : Checked) → fault_of (take N (drop before readings)) ≡ f → first_fault N 0 b readings ≡ fault_from before f (later N before left readings h)
  fault-here f d = e ∙ fault-next N before left readings h ∙ ap (λ g. fault_from before g (later N before left readings h)) d

  pub dead-here : (place : ℕ) → fault_of (take N (drop before readings)) ≡ Err (Dead place) → Err (Dead (before + place)) ≡ first_fault N 0 b readings
  unfolding fault_from
  dead-here place d = sym (fault-here (Err (Dead place)) d)

  pub beyond-here : (place : ℕ) → fault_of (take N (drop before readings)) ≡ Err (Beyond place) → Err (Beyond (before + place)) ≡ first_fault N 0 b readings
  unfolding fault_from
  beyond-here place d = sym (fault-here (Err (Beyond place)) d)

  pub clear-here : fault_of (take N (drop before readings)) ≡ Ok tt → first_fault N 0 b readings ≡ (later N before left readings h)
  unfolding fault_from
  clear-here d = fault-here (Ok tt) d

pub none_left : (N before left : ℕ) (xs : List ℤ) → left ≡ 0 → Ok tt ≡ first_fault N before left xs
unfolding first_fault
none_left N before left xs e = rw e

-- readings that are all in range have no fault
pub none_at_all : (N before b : ℕ) (readings : List ℤ) → inside (pos reading_limit) readings ≡ true → first_fault N before b readings ≡ Ok tt
unfolding first_fault fault_from
none_at_all N before zero readings e = refl
none_at_all N before (suc b) readings e =
    rw (sym (range_clear (take N readings) (inside_take reading_limit N readings e))) (none_at_all N (before + N) b (drop N readings) (inside-drop reading_limit N readings e))
