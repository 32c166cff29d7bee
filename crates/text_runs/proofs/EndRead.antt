-- The end line, read: it is the only line with its count that has its total, and a row has none.
use mathlib.Core.Path.{◌≡◌, refl, sym, ap, ap₂, ◌∙◌}
use mathlib.Core.Bool.{Bool, true, false, cond, false≢true, and-eq-true_iff}
use mathlib.Core.List.{List, [], ◌∷◌, ◌++◌, append-nil}
use Prim.Native.Nat.{ℕ, ◌≤◌, ◌<◌}
use native.Mathlib.Omega.{arith}
use borrow.Author.Tests.{eqb-true, eq-eqb, ne_eqb}
use lib.Dec.{eqb}
use lib.IntN.{ℤ, pos, negsuc}
use lib.ListN.{length, take, drop, length-append, take-append-drop}
use Rattle.std.specs.Prelude.{Option, Some, None}
use Rattle.text_runs.specs.Decimal.{decimal, printed, all_digits, number_in, total_in, least32, fits, bits64}
use Rattle.text_runs.specs.Lines.{comma, end_tag, behind_commas, row, end_line, fields, same, is_count, count_and_total, end_total}
use Rattle.text_runs.proofs.DecimalLaws.{decimal-within, decimal-digits}
use Rattle.text_runs.proofs.SizeLaws.{digits-first}
use Rattle.text_runs.proofs.RowLaws.{total-length, decimal-lacks}
use Rattle.text_runs.proofs.Inverse.{read-printed, printed-read, total-printed, total-read, field-lone, field-comma, no-comma, joined, behind_each, joined-fields}

-- ---- two lines
pub same-is : (xs ys : List ℕ) → same xs ys ≡ true → xs ≡ ys
unfolding same
same-is [] [] e = refl
same-is [] (y ∷ ys) e = absurd (false≢true e)
same-is (x ∷ xs) [] e = absurd (false≢true e)
same-is (x ∷ xs) (y ∷ ys) e =
    let t = (and-eq-true_iff (eqb x y) (same xs ys)).0 e in
    rw (eqb-true x y t.0, same-is xs ys t.1)

-- ---- a row begins with no letter
digits-not-end : (bs : List ℕ) (xs : List ℤ) (count : ℕ) → all_digits bs ≡ true → end_total count (bs ++ behind_commas xs) ≡ None
unfolding end_total same behind_commas end_tag
digits-not-end [] [] count e = refl
digits-not-end [] (x ∷ xs) count e = refl
digits-not-end (b ∷ bs) xs count e = let t = digits-first b bs e in rw (ne_eqb b 101 (λ s. omega arith))

pub row-not-end : (xs : List ℤ) (count : ℕ) → end_total count (row xs) ≡ None
unfolding end_total same row printed end_tag
row-not-end [] count = refl
row-not-end (pos n ∷ xs) count = digits-not-end (decimal n) xs count (decimal-digits n)
row-not-end (negsuc n ∷ xs) count = refl

-- ---- the end line is short, and read as its total
pub end-length : (count : ℕ) (total : ℤ) → bits64 total → length (end_line count total) ≤ 45
unfolding end_line end_tag
end-length count total b = omega (arith, decimal-within count, length-append (decimal count) (comma ∷ printed total), total-length total b)

end-fields : (count : ℕ) (total : ℤ) → fields (decimal count ++ comma ∷ printed total) ≡ decimal count ∷ printed total ∷ []
end-fields count total =
    field-comma (decimal count) (printed total) (decimal-lacks comma (omega arith) count)
    ∙ ap (λ (fs : List (List ℕ)). decimal count ∷ fs) (ap fields (sym (append-nil (printed total))) ∙ field-lone (printed total) (no-comma total))

read_count : (count : ℕ) → count < least32 → number_in (decimal count) ≡ Some (pos count)
unfolding printed fits
read_count count h = read-printed (pos count) h

pub end_read : (count : ℕ) (total : ℤ) → count < least32 → bits64 total → end_total count (end_line count total) ≡ Some total
unfolding end_total same end_line end_tag count_and_total is_count
end_read count total h b = rw (end-fields count total, read_count count h, eq-eqb count count refl) (total-printed total b)

-- ---- and what is read so is the end line
counted : (count : ℕ) (f : Option ℤ) → is_count count f ≡ true → f ≡ Some (pos count)
unfolding is_count
counted count (Some (pos n)) e = ap (λ (m : ℕ). Some (pos m)) (eqb-true n count e)
counted count (Some (negsuc n)) e = absurd (false≢true e)
counted count None e = absurd (false≢true e)

not-bad : (total : ℤ) → None ≡ Some total → ⊥
not-bad total e = let z : ◌≡◌ {A = ℕ} 0 1 = cc in omega arith

when_true : (b : Bool) (f : Option ℤ) (total : ℤ) → cond b f None ≡ Some total → (b ≡ true) × (f ≡ Some total)
when_true true f total e = (refl, e)
when_true false f total e = absurd (not-bad total e)

two_fields : (count : ℕ) (total : ℤ) (fs : List (List ℕ)) → count_and_total count fs ≡ Some total → (fs ≡ decimal count ∷ printed total ∷ []) × bits64 total
unfolding count_and_total printed
two_fields count total [] e = absurd (not-bad total e)
two_fields count total (first ∷ []) e = absurd (not-bad total e)
two_fields count total (first ∷ second ∷ []) e =
    let t = when_true (is_count count (number_in first)) (total_in second) total e in
    let c : decimal count ≡ first = printed-read first (pos count) (counted count (number_in first) t.0) in
    let r = total-read second total t.1 in
    (ap₂ (λ (a b : List ℕ). a ∷ b ∷ []) (sym c) (sym r.0), r.1)
two_fields count total (first ∷ second ∷ third ∷ rest) e = absurd (not-bad total e)

pub end-only : (count : ℕ) (total : ℤ) (bytes : List ℕ) → end_total count bytes ≡ Some total → (bytes ≡ end_line count total) × bits64 total
unfolding end_total end_line joined behind_each
end-only count total bytes e =
    let t = when_true (same (take 4 bytes) end_tag) (count_and_total count (fields (drop 4 bytes))) total e in
    let f = two_fields count total (fields (drop 4 bytes)) t.1 in
    let rest : drop 4 bytes ≡ decimal count ++ comma ∷ printed total = sym (joined-fields (drop 4 bytes)) ∙ ap joined f.0 ∙ ap (λ (bs : List ℕ). decimal count ++ comma ∷ bs) (append-nil (printed total)) in
    (sym (take-append-drop 4 bytes) ∙ ap₂ (λ (a b : List ℕ). a ++ b) (same-is (take 4 bytes) end_tag t.0) rest, f.1)
