-- The numbers that the code has read of the fields of a line, and the fields left.
use mathlib.Core.Path.{◌≡◌, refl, sym, ap, ◌∙◌}
use mathlib.Core.List.{List, [], ◌∷◌, ◌++◌, append_assoc, append-nil}
use Rattle.std.specs.Prelude.{Option, None, Some}
use Prim.Native.Nat.{ℕ, zero, suc, ◌+◌, ◌-◌, ◌^◌, ◌≤◌, ◌<◌}
use native.Mathlib.Numerals.{add-one}
use native.Mathlib.Omega.{arith}
use lib.IntN.{ℤ}
use lib.ListN.{length, take, drop, set, drop_of_length-le, length-drop}
use lib.Seq.{drop-cons, drop-drop, take-suc-set}
use lib.Signed.{mag}
use mir.Syntax.{w32, w64}
use mir.Val.{SFits, to_z, of_z}
use mir.ValLaws.{to_z-of_z}
use Rattle.integers.proofs.Held.{held-ok, asks-cast, h-cast}
use Rattle.text_runs.specs.Decimal.{signed_in, number_in}
use Rattle.text_runs.specs.Lines.{comma, fields, up_to, number_in_front, all_numbers, numbers_in}
use Rattle.text_runs.proofs.UpToLaws.{part_length, part_cut}
use Rattle.text_runs.proofs.FieldLaws.{behind, fields_split}
use Rattle.text_runs.proofs.Inverse.{number_fits}

-- ---- the fields left
-- the fields from a place on; beyond the end there is none
unfoldable pub fields_from : ℕ → List ℕ → List (List ℕ)
fields_from zero s = fields s
fields_from (suc i) s = behind (drop i s)

from_place : (i : ℕ) (s : List ℕ) → i ≤ length s → fields_from i s ≡ fields (drop i s)
unfolding fields_from behind
from_place zero s h = refl
from_place (suc i) s h = rw (drop-cons s i 0 h)

pub fields-from : (i : ℕ) (s : List ℕ) → i ≤ length s → fields_from i s ≡ up_to comma (drop i s) ∷ fields_from (i + length (up_to comma (drop i s)) + 1) s
unfolding fields_from
fields-from i s h = from_place i s h ∙ fields_split (drop i s) ∙ rw (add-one (i + length (up_to comma (drop i s))), drop-drop)

pub fields-over : (i : ℕ) (s : List ℕ) → length s < i → fields_from i s ≡ []
unfolding fields_from behind
fields-over zero s h = absurd (omega arith)
fields-over (suc i) s h = rw (drop_of_length-le s {i = i} (omega arith))

-- ---- the numbers read, and what is left
unfoldable pub ahead : List ℤ → Option (List ℤ) → Option (List ℤ)
ahead xs (Some ys) = Some (xs ++ ys)
ahead xs None = None

ahead_none : (o : Option (List ℤ)) → o ≡ ahead [] o
unfolding ahead
ahead_none (Some ys) = refl
ahead_none None = refl

pub from_start : (line : List ℕ) → numbers_in line ≡ ahead [] (all_numbers (fields_from 0 line))
unfolding numbers_in fields_from
from_start line = ahead_none (all_numbers (fields line))

ahead_more : (xs : List ℤ) (x : ℤ) (o : Option (List ℤ)) → ahead xs (number_in_front (Some x) o) ≡ ahead (xs ++ (x ∷ [])) o
unfolding ahead number_in_front
ahead_more xs x (Some ys) = ap Some (sym (append_assoc xs (x ∷ []) ys))
ahead_more xs x None = refl

pub number-long : (s : List ℕ) (x : ℤ) → number_in s ≡ Some x → 0 < length s
unfolding number_in signed_in
number-long [] x e = absurd (let z : ◌≡◌ {A = ℕ} 0 1 = cc in omega arith)
number-long (b ∷ bs) x e = omega arith

-- ---- the field from a place on, as the code cuts it
module _ (line : List ℕ) (at : ℕ) {end : ℕ} (e : end ≡ at + length (up_to comma (drop at line))) where
  pub field_ends : at ≤ length line → end ≤ length line
  field_ends h = omega (arith, part_length comma (drop at line), length-drop at line)

  pub field-read : {found : Option ℤ} → found ≡ number_in (take (end - at) (drop at line)) → number_in (up_to comma (drop at line)) ≡ found
  field-read f = sym (f ∙ ap number_in (part_cut comma line at end e))

  pub field-long : {found : Option ℤ} {x : ℤ} → found ≡ number_in (take (end - at) (drop at line)) → found ≡ Some x → at < end
  field-long f d = omega (arith, number-long _ _ (field-read f ∙ d))

-- a number read, as an i64
pub number-kept : (s : List ℕ) (x : ℤ) → number_in s ≡ Some x → to_z w64 (of_z w64 x) ≡ x
number-kept s x e = to_z-of_z w64 x (record { sfits = omega (arith, number_fits s x e) })

-- a number read, made an i32
module _ (s : List ℕ) (x : ℤ) (h : mag x < 2 ^ 63) (e : number_in s ≡ Some x) where
  narrow-fits : SFits w32 x
  narrow-fits = record { sfits = number_fits s x e }

  pub asks-narrow : SFits w32 (to_z w64 (of_z w64 x))
  asks-narrow = asks-cast w32 (held-ok w64 x h) narrow-fits

  pub narrow-is : to_z w32 (of_z w32 (to_z w64 (of_z w64 x))) ≡ x
  narrow-is = (h-cast w32 (held-ok w64 x h) narrow-fits).is

-- n numbers are read, and stand in the list `out`
module _ (line : List ℕ) (i : ℕ) (out : List ℤ) (n : ℕ) where
  pub read-bad : i ≤ length line → number_in (up_to comma (drop i line)) ≡ None → ahead (take n out) (all_numbers (fields_from i line)) ≡ None
  unfolding all_numbers number_in_front ahead
  read-bad h b = rw (fields-from i line h) (rw b)

  -- one more, y, is stored
  pub read_number : i ≤ length line → {j : ℕ} → j ≡ i + length (up_to comma (drop i line)) → n < length out → {x y : ℤ} → y ≡ x → number_in (up_to comma (drop i line)) ≡ Some x
      → ahead (take n out) (all_numbers (fields_from i line)) ≡ ahead (take (n + 1) (set out n y)) (all_numbers (fields_from (j + 1) line))
  unfolding all_numbers
  read_number h e l {x} d b = rw (fields-from i line h, b, e, d, add-one n, take-suc-set out n x l) (ahead_more (take n out) x _)

  pub read_all : length line < i → ahead (take n out) (all_numbers (fields_from i line)) ≡ Some (take n out)
  unfolding all_numbers ahead
  read_all h = rw (fields-over i line h) (ap Some (append-nil (take n out)))
