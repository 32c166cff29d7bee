-- Reading and printing are inverse, of a number and of a row of numbers.
use mathlib.Core.Path.{◌≡◌, refl, sym, ap, ap₂, ◌∙◌}
use mathlib.Core.Logic.{⊎_elim}
use mathlib.Core.Bool.{true, false≢true}
use mathlib.Core.List.{List, [], ◌∷◌, ◌++◌}
use Rattle.std.specs.Prelude.{Option, None, Some}
use Prim.Native.Nat.{ℕ, zero, suc, ◌-◌, ◌^◌, ◌<◌}
use native.Mathlib.Omega.{arith}
use borrow.Author.Tests.{eqb-true, ne_eqb}
use lib.Dec.{eqb}
use lib.IntN.{ℤ, pos, negsuc}
use lib.Signed.{mag}
use Rattle.text_runs.specs.Decimal.{decimal, printed, all_digits, leads, sized, negative, positive, signed_in, least32, least64, number_in, total_in, fits, bits32, bits64, all_bits}
use Rattle.text_runs.specs.Lines.{behind_commas, row, longer, fields, number_in_front, all_numbers, numbers_in}
use Rattle.text_runs.specs.Own.Lacks.{lacks}
use Rattle.text_runs.proofs.DecimalLaws.{decimal-digits}
use Rattle.text_runs.proofs.SizeLaws.{digits-first, decimal-leads, sized-decimal, decimal-sized}
use Rattle.text_runs.proofs.UpToLaws.{tested}
use Rattle.text_runs.proofs.FieldLaws.{fields_split}
use Rattle.text_runs.proofs.RowLaws.{fits-mag, printed-lacks}

-- ---- a number, signed, where `limit` is the size of the least
unsigned-digits : (limit : ℕ) (bs : List ℕ) → leads bs ≡ true → all_digits bs ≡ true → signed_in limit bs ≡ positive (sized (limit - 1) bs)
unfolding leads signed_in
unsigned-digits limit [] l e = absurd (false≢true l)
unsigned-digits limit (b ∷ bs) l e = let t = digits-first b bs e in rw (ne_eqb b 45 (λ s. omega arith))

signed-printed : (limit : ℕ) → limit < 10 ^ 19 → (x : ℤ) → fits limit x → signed_in limit (printed x) ≡ Some x
unfolding fits printed signed_in positive negative
signed-printed limit m (pos n) h =
    let l : n < 10 ^ 20 = omega arith in
    unsigned-digits limit (decimal n) (decimal-leads n l) (decimal-digits n) ∙ ap positive (sized-decimal n l (limit - 1) (omega arith))
signed-printed limit m (negsuc n) h = ap negative (sized-decimal (suc n) (omega arith) limit (omega arith))

minus-size : (s : Option ℕ) (x : ℤ) → negative s ≡ Some x → (n : ℕ) × (s ≡ Some (suc n)) × (x ≡ negsuc n)
unfolding negative
minus-size (Some zero) x e = absurd (let z : ◌≡◌ {A = ℕ} 0 1 = cc in omega arith)
minus-size (Some (suc n)) x e = (n, refl, cc)
minus-size None x e = absurd (let z : ◌≡◌ {A = ℕ} 0 1 = cc in omega arith)

plus-size : (s : Option ℕ) (x : ℤ) → positive s ≡ Some x → (n : ℕ) × (s ≡ Some n) × (x ≡ pos n)
unfolding positive
plus-size (Some n) x e = (n, refl, cc)
plus-size None x e = absurd (let z : ◌≡◌ {A = ℕ} 0 1 = cc in omega arith)

module _ (limit : ℕ) (p : 0 < limit) (m : limit < 10 ^ 19) where
  minus-read : (bs : List ℕ) (x : ℤ) → negative (sized limit bs) ≡ Some x → (printed x ≡ 45 ∷ bs) × fits limit x
  unfolding printed fits
  minus-read bs x e =
      let t = minus-size (sized limit bs) x e in
      let u = decimal-sized limit (suc t.0) bs m t.1 in
      rw t.2 (ap (λ ds. 45 ∷ ds) u.0, omega arith)

  plus-read : (bs : List ℕ) (x : ℤ) → positive (sized (limit - 1) bs) ≡ Some x → (printed x ≡ bs) × fits limit x
  unfolding printed fits
  plus-read bs x e =
      let t = plus-size (sized (limit - 1) bs) x e in
      let u = decimal-sized (limit - 1) t.0 bs (omega arith) t.1 in
      rw t.2 (u.0, omega arith)

  signed-read : (bs : List ℕ) (x : ℤ) → signed_in limit bs ≡ Some x → (printed x ≡ bs) × fits limit x
  unfolding signed_in
  signed-read [] x e = absurd (let z : ◌≡◌ {A = ℕ} 0 1 = cc in omega arith)
  signed-read (b ∷ bs) x e =
      ⊎_elim (λ t. rw (eqb-true b 45 t) (minus-read bs x (rw t at e))) (λ t. plus-read (b ∷ bs) x (rw t at e)) (tested (eqb b 45))

-- of 32 bits, and of 64
pub read-printed : (x : ℤ) → bits32 x → number_in (printed x) ≡ Some x
unfolding number_in
read-printed = signed-printed least32 (omega arith)

both_read : (bs : List ℕ) (x : ℤ) → number_in bs ≡ Some x → (printed x ≡ bs) × bits32 x
unfolding number_in
both_read = signed-read least32 (omega arith) (omega arith)

pub printed-read : (bs : List ℕ) (x : ℤ) → number_in bs ≡ Some x → printed x ≡ bs
printed-read bs x e = (both_read bs x e).0

pub read-bits : (bs : List ℕ) (x : ℤ) → number_in bs ≡ Some x → bits32 x
read-bits bs x e = (both_read bs x e).1

pub number_fits : (bs : List ℕ) (x : ℤ) → number_in bs ≡ Some x → mag x < least32
number_fits bs x e = fits-mag least32 x (read-bits bs x e)

pub total-printed : (x : ℤ) → bits64 x → total_in (printed x) ≡ Some x
unfolding total_in
total-printed = signed-printed least64 (omega arith)

pub total-read : (bs : List ℕ) (x : ℤ) → total_in bs ≡ Some x → (printed x ≡ bs) × bits64 x
unfolding total_in
total-read = signed-read least64 (omega arith) (omega arith)

-- ---- the fields of a row
pub field-lone : (f : List ℕ) → lacks 44 f → fields (f ++ []) ≡ f ∷ []
unfolding fields lacks longer
field-lone [] h = refl
field-lone (b ∷ bs) h = rw (ne_eqb b 44 h.0, field-lone bs h.1)

pub field-comma : (f rest : List ℕ) → lacks 44 f → fields (f ++ 44 ∷ rest) ≡ f ∷ fields rest
unfolding fields lacks longer
field-comma [] rest h = refl
field-comma (b ∷ bs) rest h = rw (ne_eqb b 44 h.0, field-comma bs rest h.1)

pub no-comma : (x : ℤ) → lacks 44 (printed x)
no-comma x = printed-lacks 44 (omega arith) (λ e. omega arith) x

pub read-row : (x : ℤ) (xs : List ℤ) → all_bits (x ∷ xs) → numbers_in (row (x ∷ xs)) ≡ Some (x ∷ xs)
unfolding numbers_in row all_bits behind_commas all_numbers number_in_front
read-row x [] h = rw (field-lone (printed x) (no-comma x), read-printed x h.0)
read-row x (y ∷ ys) h = rw (field-comma (printed x) (row (y ∷ ys)) (no-comma x), read-printed x h.0, read-row y ys h.1)

-- ---- the row of the fields
unfoldable pub behind_each : List (List ℕ) → List ℕ
behind_each [] = []
behind_each (f ∷ fs) = 44 ∷ f ++ behind_each fs

unfoldable pub joined : List (List ℕ) → List ℕ
joined [] = []
joined (f ∷ fs) = f ++ behind_each fs

joined-longer : (b : ℕ) (fs : List (List ℕ)) → joined (longer b fs) ≡ b ∷ joined fs
unfolding longer joined behind_each
joined-longer b [] = refl
joined-longer b (f ∷ fs) = refl

behind-fields : (bs : List ℕ) → behind_each (fields bs) ≡ 44 ∷ joined (fields bs)
unfolding joined behind_each
behind-fields bs = rw (fields_split bs)

pub joined-fields : (bs : List ℕ) → joined (fields bs) ≡ bs
unfolding fields joined behind_each
joined-fields [] = refl
joined-fields (b ∷ bs) =
    ⊎_elim (λ t. rw t (behind-fields bs ∙ ap₂ (λ c cs. c ∷ cs) (sym (eqb-true b 44 t)) (joined-fields bs)))
    (λ t. rw t (joined-longer b (fields bs) ∙ ap (λ cs. b ∷ cs) (joined-fields bs)))
    (tested (eqb b 44))

-- the first field's number, and those of the others
in-front : (f : Option ℤ) (o : Option (List ℤ)) (xs : List ℤ) → number_in_front f o ≡ Some xs → (x : ℤ) × (ys : List ℤ) × (f ≡ Some x) × (o ≡ Some ys) × (xs ≡ x ∷ ys)
unfolding number_in_front
in-front (Some x) (Some ys) xs e = (x, ys, refl, refl, cc)
in-front (Some x) None xs e = absurd (let z : ◌≡◌ {A = ℕ} 0 1 = cc in omega arith)
in-front None o xs e = absurd (let z : ◌≡◌ {A = ℕ} 0 1 = cc in omega arith)

behind-read : (fs : List (List ℕ)) (xs : List ℤ) → all_numbers fs ≡ Some xs → (behind_commas xs ≡ behind_each fs) × all_bits xs
unfolding all_numbers behind_commas behind_each all_bits
behind-read [] xs e = let n : xs ≡ [] = cc in rw n (refl, tt)
behind-read (f ∷ fs) xs e =
    let t = in-front (number_in f) (all_numbers fs) xs e in
    let u = behind-read fs t.1 t.3 in
    rw t.4 (ap₂ (λ p q. 44 ∷ p ++ q) (printed-read f t.0 t.2) u.0, (read-bits f t.0 t.2, u.1))

line_read : (bs : List ℕ) (xs : List ℤ) → numbers_in bs ≡ Some xs → behind_commas xs ≡ 44 ∷ bs
unfolding numbers_in
line_read bs xs e = (behind-read (fields bs) xs e).0 ∙ behind-fields bs ∙ ap (λ cs. 44 ∷ cs) (joined-fields bs)

pub row_read : (bs : List ℕ) (xs : List ℤ) → numbers_in bs ≡ Some xs → row xs ≡ bs
unfolding row behind_commas
row_read bs [] e = absurd (let z : ◌≡◌ {A = ℕ} 0 1 = cc (line_read bs [] e) in omega arith)
row_read bs (x ∷ xs) e = cc (line_read bs (x ∷ xs) e)

pub row-bits : (bs : List ℕ) (xs : List ℤ) → numbers_in bs ≡ Some xs → all_bits xs
unfolding numbers_in
row-bits bs xs e = (behind-read (fields bs) xs e).1
