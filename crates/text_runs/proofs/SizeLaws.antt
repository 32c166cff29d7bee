-- Digits and what they spell are inverse: the digits of n spell n, and digits without a leading zero are those of what they spell.
use mathlib.Core.Path.{◌≡◌, refl, sym, ap, ap₂, ◌∙◌}
use mathlib.Core.Logic.{⊎_elim}
use mathlib.Core.Bool.{Bool, true, false, cond, ◌&&◌, false≢true}
use mathlib.Core.List.{List, [], ◌∷◌}
use Prim.Native.Nat.{ℕ, zero, suc, ◌+◌, ◌-◌, ◌*◌, ◌/◌, ◌%◌, ◌^◌, ◌≤◌, ◌<◌}
use native.Mathlib.Nat.{eq-zero-or-pos}
use native.Mathlib.Omega.{arith}
use borrow.Author.Tests.{lt-ltb, le-ltb, le-leb, leb-true, ne_eqb, eqb-false, not-true}
use lib.Dec.{leb, eqb}
use Rattle.text_runs.specs.Decimal.{spelled, decimal, is_digit, all_digits, value_of, valued, leads, sized}
use Rattle.std.specs.Prelude.{Option, Some, None}
use Rattle.text_runs.proofs.DecimalLaws.{spelled-last, spelled-more, one-or-more, tenth, more_left, decimal-digits}

-- ---- digits behind a number spell no less
pub value-least : (n : ℕ) (bs : List ℕ) → n ≤ value_of n bs
unfolding value_of
value-least n [] = omega arith
value-least n (b ∷ bs) = omega (arith, value-least (n * 10 + (b - 48)) bs)

-- ---- the digits of n spell n
spelled-value : (k n : ℕ) (after : List ℕ) → n < 10 ^ k → 0 < k → value_of 0 (spelled k n after) ≡ value_of n after
unfolding spelled value_of
spelled-value zero n after h p = absurd (omega arith)
spelled-value (suc k) n after h p =
    ⊎_elim (λ l. rw (lt-ltb n 10 l) (ap (λ m. value_of m after) (omega arith)))
    (λ l. rw (le-ltb n 10 l) (spelled-value k (n / 10) ((48 + n % 10) ∷ after) (tenth k n h) (more_left k n h l) ∙ ap (λ m. value_of m after) (omega arith)))
    (one-or-more n)

first-leads : (n : ℕ) (after : List ℕ) → 0 < n → leads ((48 + n) ∷ after) ≡ true
unfolding leads
first-leads n [] p = refl
first-leads n (c ∷ cs) p = rw (ne_eqb (48 + n) 48 (λ e. omega (arith, e)))

spelled-leads : (k n : ℕ) (after : List ℕ) → n < 10 ^ k → 0 < k → 0 < n → leads (spelled k n after) ≡ true
unfolding spelled
spelled-leads zero n after h p q = absurd (omega arith)
spelled-leads (suc k) n after h p q =
    ⊎_elim (λ l. rw (lt-ltb n 10 l) (first-leads n after q)) (λ l. rw (le-ltb n 10 l) (spelled-leads k (n / 10) _ (tenth k n h) (more_left k n h l) (omega arith))) (one-or-more n)

module _ (n : ℕ) (h : n < 10 ^ 20) where
  decimal-value : value_of 0 (decimal n) ≡ n
  unfolding decimal value_of
  decimal-value = spelled-value 20 n [] h (omega arith)

  pub decimal-leads : leads (decimal n) ≡ true
  unfolding decimal leads spelled
  decimal-leads = ⊎_elim (λ e. rw e) (λ p. spelled-leads 20 n [] h (omega arith) p) (eq-zero-or-pos n)

  pub sized-decimal : (limit : ℕ) → n ≤ limit → sized limit (decimal n) ≡ Some n
  unfolding sized valued
  sized-decimal limit l = rw (decimal-leads, decimal-digits n, decimal-value, le-leb n limit l)

-- ---- digits are those of what they spell
spelled-enough : (k n : ℕ) (after : List ℕ) → n < 10 ^ k → 0 < k → spelled (suc k) n after ≡ spelled k n after
unfolding spelled
spelled-enough zero n after h p = absurd (omega arith)
spelled-enough (suc k) n after h p =
    ⊎_elim (λ l. rw (lt-ltb n 10 l)) (λ l. rw (le-ltb n 10 l) (spelled-enough k (n / 10) _ (tenth k n h) (more_left k n h l))) (one-or-more n)

both : (a b : Bool) → (a && b) ≡ true → (a ≡ true) × (b ≡ true)
both true b e = (refl, e)
both false b e = absurd (false≢true e)

digit-bounds : (b : ℕ) → is_digit b ≡ true → (48 ≤ b) × (b ≤ 57)
unfolding is_digit
digit-bounds b e = let t = both (leb 48 b) (leb b 57) e in (leb-true 48 b t.0, leb-true b 57 t.1)

pub digits-first : (b : ℕ) (bs : List ℕ) → all_digits (b ∷ bs) ≡ true → (48 ≤ b) × (b ≤ 57) × (all_digits bs ≡ true)
unfolding all_digits
digits-first b bs e = let t = both (is_digit b) (all_digits bs) e in let u = digit-bounds b t.0 in (u.0, u.1, t.1)

spelled-again : (m : ℕ) (bs : List ℕ) → 0 < m → all_digits bs ≡ true → value_of m bs < 10 ^ 19 → spelled 20 (value_of m bs) [] ≡ spelled 20 m bs
unfolding value_of
spelled-again m [] p e h = refl
spelled-again m (b ∷ bs) p e h =
    let t = digits-first b bs e in
    spelled-again (m * 10 + (b - 48)) bs (omega arith) t.2 h ∙ spelled-more 19 (m * 10 + (b - 48)) bs (omega arith)
    ∙ ap₂ (λ q c. spelled 19 q (c ∷ bs)) (omega arith) (omega arith)
    ∙ sym (spelled-enough 19 m (b ∷ bs) (omega (arith, value-least (m * 10 + (b - 48)) bs)) (omega arith))

decimal-again : (bs : List ℕ) → leads bs ≡ true → all_digits bs ≡ true → value_of 0 bs < 10 ^ 19 → decimal (value_of 0 bs) ≡ bs
unfolding leads value_of decimal
decimal-again [] l e h = absurd (false≢true l)
decimal-again (b ∷ []) l e h = let t = digits-first b [] e in spelled-last 19 (0 * 10 + (b - 48)) [] (omega arith) ∙ ap (λ c. c ∷ []) (omega arith)
decimal-again (b ∷ c ∷ cs) l e h =
    let t = digits-first b (c ∷ cs) e in
    let z = eqb-false b 48 (not-true (eqb b 48) l) in
    spelled-again (0 * 10 + (b - 48)) (c ∷ cs) (omega (arith, z)) t.2 h ∙ spelled-last 19 (0 * 10 + (b - 48)) (c ∷ cs) (omega arith) ∙ ap (λ d. d ∷ c ∷ cs) (omega arith)

pub decimal-sized : (limit n : ℕ) (bs : List ℕ) → limit < 10 ^ 19 → sized limit bs ≡ Some n → (decimal n ≡ bs) × (n ≤ limit)
unfolding sized valued
decimal-sized limit n bs h e = by-test (leads bs) (all_digits bs) (leb (value_of 0 bs) limit) refl refl refl e
  where
    by-test : (l d t : Bool) → leads bs ≡ l → all_digits bs ≡ d → leb (value_of 0 bs) limit ≡ t → cond l (cond (d && t) (Some (value_of 0 bs)) None) None ≡ Some n → (decimal n ≡ bs) × (n ≤ limit)
    by-test true true true p q r e =
        let v : value_of 0 bs ≡ n = cc in
        let w = leb-true (value_of 0 bs) limit r in (rw (← v) (decimal-again bs p q (omega arith)), omega arith)
    by-test true true false p q r e = absurd (let z : ◌≡◌ {A = ℕ} 0 1 = cc in omega arith)
    by-test true false t p q r e = absurd (let z : ◌≡◌ {A = ℕ} 0 1 = cc in omega arith)
    by-test false d t p q r e = absurd (let z : ◌≡◌ {A = ℕ} 0 1 = cc in omega arith)
