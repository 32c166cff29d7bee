-- The end line as the code reads it: its tag, and the two fields behind that.
use mathlib.Core.Path.{◌≡◌, refl, sym, ap, ◌∙◌}
use mathlib.Core.Bool.{true, false}
use mathlib.Core.List.{List, ◌∷◌}
use Prim.Native.Nat.{ℕ, ◌+◌, ◌≤◌, ◌<◌}
use native.Mathlib.Omega.{arith}
use lib.Dec.{eqb}
use lib.IntN.{ℤ, pos, negsuc, nat_abs}
use lib.ListN.{length, take, drop, length-drop}
use lib.Signed.{mag}
use Rattle.std.specs.Int.{FitsUnsignedBits}
use Rattle.text_runs.specs.Decimal.{least32, number_in, total_in}
use Rattle.text_runs.specs.Lines.{comma, end_tag, fields, up_to, is_count, count_and_total, end_total}
use Rattle.std.specs.Prelude.{Some, None}
use Rattle.std.specs.Cmp.Lexicographic.{pointwise}
use Rattle.text_runs.proofs.UpToLaws.{part_length}
use Rattle.decimal.proofs.CompareLaws.{pointwise-same}
use Rattle.decimal.proofs.FieldsRead.{fields_from, fields-from, fields-over}

-- ---- the tag
module _ (count : ℕ) (line : List ℕ) where
  pub end-other : pointwise eqb (take 4 line) end_tag ≡ false → None ≡ end_total count line
  unfolding end_total
  end-other e = rw (sym (pointwise-same (take 4 line) end_tag) ∙ e)

  pub end-tagged : pointwise eqb (take 4 line) end_tag ≡ true → count_and_total count (fields (drop 4 line)) ≡ end_total count line
  unfolding end_total
  end-tagged e = rw (sym (pointwise-same (take 4 line) end_tag) ∙ e)

-- ---- a number that is the count: a `usize` holds it
pub count-held : (count : ℕ) (x : ℤ) → FitsUnsignedBits 64 x → eqb (nat_abs x) count ≡ is_count count (Some x)
unfolding is_count
count-held count (pos n) f = refl
count-held count (negsuc n) f = absurd f

pub count_below : (count : ℕ) (x : ℤ) → mag x < least32 → (FitsUnsignedBits 64 x → ⊥) → false ≡ is_count count (Some x)
unfolding is_count
count_below count (pos n) h f = absurd (f (omega arith))
count_below count (negsuc n) h f = refl

-- ---- the fields: the first ends at `end`,
module _ (count : ℕ) (line : List ℕ) {end : ℕ} (e : end ≡ 0 + length (up_to comma line)) where
  pub end-within : end ≤ length line
  end-within = omega (arith, part_length comma line)

  behind-first : fields line ≡ up_to comma line ∷ fields_from (end + 1) line
  unfolding fields_from
  behind-first = fields-from 0 line (omega arith) ∙ ap (λ (n : ℕ). up_to comma line ∷ fields_from (n + 1) line) (sym e)

  pub one_field : end ≡ length line → count_and_total count (fields line) ≡ None
  unfolding count_and_total
  one_field h = rw (behind-first, fields-over (end + 1) line (omega arith))

  -- and the second, which begins behind it, at `stop`
  module _ (inner : end ≡ length line → ⊥) where
    pub next-within : end + 1 ≤ length line
    next-within = omega (arith, inner, end-within)

    module _ {stop : ℕ} (s : stop ≡ end + 1 + length (up_to comma (drop (end + 1) line))) where
      pub stop-within : stop ≤ length line
      stop-within = omega (arith, next-within, part_length comma (drop (end + 1) line), length-drop (end + 1) line)

      behind-second : fields line ≡ up_to comma line ∷ up_to comma (drop (end + 1) line) ∷ fields_from (stop + 1) line
      behind-second = rw (behind-first, fields-from (end + 1) line next-within, s)

      pub third-field : stop < length line → count_and_total count (fields line) ≡ None
      unfolding count_and_total
      third-field h = rw (behind-second, fields-from (stop + 1) line (omega arith))

      module _ (h : length line ≤ stop) where
        pub other-count : is_count count (number_in (up_to comma line)) ≡ false → count_and_total count (fields line) ≡ None
        unfolding count_and_total
        other-count c = rw (behind-second, fields-over (stop + 1) line (omega arith), c)

        pub this-count : is_count count (number_in (up_to comma line)) ≡ true → count_and_total count (fields line) ≡ total_in (up_to comma (drop (end + 1) line))
        unfolding count_and_total
        this-count c = rw (behind-second, fields-over (stop + 1) line (omega arith), c)
