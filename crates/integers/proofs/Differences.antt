-- Every integer as a difference of two naturals. `p ⊖ n` is p − n and shut, so `simp zs` rewrites sums, products and negations of
-- differences to one difference, and an equation or an order between two of them to one between naturals, which `omega arith` proves.
-- The form is `rw (dif a, dif b) (simp zs (omega arith))`, with the goal's hypotheses not yet bound; `zb` in place of `zs` for bounds on sizes.
use mathlib.Core.Path.{◌≡◌, refl, sym, ◌∙◌, ap, subst}
use mathlib.Core.Logic.{◌↔◌}
use mathlib.Core.Bool.{Bool, true, false, not, cond}
use Prim.Native.Nat.{ℕ, zero, suc, ◌+◌, ◌*◌, ◌-◌, ◌≤◌, ◌<◌}
use native.Mathlib.Omega.{arith}
use native.Mathlib.Nat.{add-sub_of_le}
use lib.Dec.{T, leb, ltb, leb→le, le→leb, ltb→lt, lt→ltb, nltb→le}
use lib.IntN.{ℤ, pos, negsuc, neg_ℤ, nat_abs, sub_ℕ, ◌+ℤ◌, ◌-ℤ◌, ◌*ℤ◌}
use Rattle.integers.specs.Floor.{above, below}
use lib.Signed.{◌≤ℤ◌, ◌<ℤ◌, le_z, lt_z, mag, ≤ℤ_refl}

infix 60 ◌⊖◌
pub ◌⊖◌ : ℕ → ℕ → ℤ
p ⊖ n = sub_ℕ p n

-- a difference is (n + k) − n or p − (p + k + 1)
⊖-cond : (Q : ℕ → ℕ → ℤ → Type 0) (f : (n k : ℕ) → Q (n + k) n (pos k)) (g : (p k : ℕ) → Q p (p + suc k) (negsuc k)) (p n : ℕ) (c : Bool)
    → (T c → p < n) → (T (not c) → n ≤ p) → Q p n (cond c (negsuc (n - suc p)) (pos (p - n)))
⊖-cond Q f g p n true h k = let lt = h tt in subst (λ m. Q p m (negsuc (n - suc p))) (omega arith) (g p (n - suc p))
⊖-cond Q f g p n false h k = let le = k tt in subst (λ m. Q m n (pos (p - n))) (omega arith) (f n (p - n))

pub ⊖-ind : (Q : ℕ → ℕ → ℤ → Type 0) → ((n k : ℕ) → Q (n + k) n (pos k)) → ((p k : ℕ) → Q p (p + suc k) (negsuc k)) → (p n : ℕ) → Q p n (p ⊖ n)
unfolding ◌⊖◌
⊖-ind Q f g p n = ⊖-cond Q f g p n (ltb p n) (ltb→lt p n) (nltb→le p n)

⊖-pos : (n k : ℕ) {p : ℕ} → p ≡ n + k → p ⊖ n ≡ pos k
⊖-pos n k {p} e = ⊖-ind (λ p n z. (k : ℕ) → p ≡ n + k → z ≡ pos k) (λ n j k e. ap pos (omega arith)) (λ p j k e. let z : ⊥ = omega arith in absurd z) p n k e

⊖-neg : (p k : ℕ) {n : ℕ} → n ≡ p + suc k → p ⊖ n ≡ negsuc k
⊖-neg p k {n} e = ⊖-ind (λ p n z. (k : ℕ) → n ≡ p + suc k → z ≡ negsuc k) (λ n j k e. let z : ⊥ = omega arith in absurd z) (λ p j k e. ap negsuc (omega arith)) p n k e

pub ⊖-eq : (p n p' n' : ℕ) → p + n' ≡ p' + n → p ⊖ n ≡ p' ⊖ n'
⊖-eq p n p' n' = ⊖-ind (λ p n z. p + n' ≡ p' + n → z ≡ p' ⊖ n') (λ n k e. sym (⊖-pos n' k (omega arith))) (λ p k e. sym (⊖-neg p' k (omega arith))) p n

pub pos⊖ : (k : ℕ) → pos k ≡ k ⊖ 0
pos⊖ k = sym (⊖-pos 0 k (omega arith))

pub negsuc⊖ : (k : ℕ) → negsuc k ≡ 0 ⊖ suc k
negsuc⊖ k = sym (⊖-neg 0 k (omega arith))

pub dif : (z : ℤ) → z ≡ above z ⊖ below z
unfolding above below
dif (pos n) = pos⊖ n
dif (negsuc n) = negsuc⊖ n

pub negpos⊖ : (k : ℕ) → neg_ℤ (pos k) ≡ 0 ⊖ k
negpos⊖ zero = pos⊖ 0
negpos⊖ (suc k) = negsuc⊖ k

pub neg⊖ : (p n : ℕ) → neg_ℤ (p ⊖ n) ≡ n ⊖ p
neg⊖ = ⊖-ind (λ p n z. neg_ℤ z ≡ n ⊖ p) (λ n k. negpos⊖ k ∙ ⊖-eq _ _ _ _ (omega arith)) (λ p k. pos⊖ (suc k) ∙ ⊖-eq _ _ _ _ (omega arith))

pub sub⊖ : (k j : ℕ) → sub_ℕ k j ≡ k ⊖ j
unfolding ◌⊖◌
sub⊖ k j = refl

pub +⊖ : (p n p' n' : ℕ) → (p ⊖ n) +ℤ (p' ⊖ n') ≡ (p + p') ⊖ (n + n')
+⊖ p n p' n' = ⊖-ind (λ p n z. z +ℤ (p' ⊖ n') ≡ (p + p') ⊖ (n + n'))
    (λ n k. ⊖-ind (λ p' n' z. pos k +ℤ z ≡ (n + k + p') ⊖ (n + n')) (λ n' j. pos⊖ (k + j) ∙ ⊖-eq _ _ _ _ (omega arith)) (λ p' j. sub⊖ k (suc j) ∙ ⊖-eq _ _ _ _ (omega arith)) p' n')
    (λ p k. ⊖-ind (λ p' n' z. negsuc k +ℤ z ≡ (p + p') ⊖ (p + suc k + n')) (λ n' j. sub⊖ j (suc k) ∙ ⊖-eq _ _ _ _ (omega arith)) (λ p' j. negsuc⊖ (suc (k + j)) ∙ ⊖-eq _ _ _ _ (omega arith)) p' n') p n

pub *⊖ : (p n p' n' : ℕ) → (p ⊖ n) *ℤ (p' ⊖ n') ≡ (p * p' + n * n') ⊖ (p * n' + n * p')
*⊖ p n p' n' = ⊖-ind (λ p n z. z *ℤ (p' ⊖ n') ≡ (p * p' + n * n') ⊖ (p * n' + n * p'))
    (λ n k. ⊖-ind (λ p' n' z. pos k *ℤ z ≡ ((n + k) * p' + n * n') ⊖ ((n + k) * n' + n * p')) (λ n' j. pos⊖ (k * j) ∙ ⊖-eq _ _ _ _ (omega arith)) (λ p' j. negpos⊖ (k * suc j) ∙ ⊖-eq _ _ _ _ (omega arith)) p' n')
    (λ p k. ⊖-ind (λ p' n' z. negsuc k *ℤ z ≡ (p * p' + (p + suc k) * n') ⊖ (p * n' + (p + suc k) * p')) (λ n' j. negpos⊖ (suc k * j) ∙ ⊖-eq _ _ _ _ (omega arith)) (λ p' j. pos⊖ (suc k * suc j) ∙ ⊖-eq _ _ _ _ (omega arith)) p' n') p n

pub ≤⊖ : (p n p' n' : ℕ) → (p ⊖ n ≤ℤ p' ⊖ n') ↔ (p + n' ≤ p' + n)
≤⊖ p n p' n' = ⊖-ind (λ p n z. (z ≤ℤ p' ⊖ n') ↔ (p + n' ≤ p' + n))
    (λ n k. ⊖-ind (λ p' n' z. (pos k ≤ℤ z) ↔ (n + k + n' ≤ p' + n)) (λ n' j. ((λ h. omega (arith, leb→le)), (λ h. record { le = omega (arith, le→leb) })))
    (λ p' j. ((λ h. absurd h.le), (λ h. record { le = omega arith }))) p' n')
    (λ p k. ⊖-ind (λ p' n' z. (negsuc k ≤ℤ z) ↔ (p + n' ≤ p' + (p + suc k))) (λ n' j. ((λ h. omega arith), (λ h. record { le = tt })))
    (λ p' j. ((λ h. omega (arith, leb→le)), (λ h. record { le = omega (arith, le→leb) }))) p' n') p n

pub <⊖ : (p n p' n' : ℕ) → (p ⊖ n <ℤ p' ⊖ n') ↔ (p + n' < p' + n)
<⊖ p n p' n' = ⊖-ind (λ p n z. (z <ℤ p' ⊖ n') ↔ (p + n' < p' + n))
    (λ n k. ⊖-ind (λ p' n' z. (pos k <ℤ z) ↔ (n + k + n' < p' + n)) (λ n' j. ((λ h. omega (arith, ltb→lt)), (λ h. record { lt = omega (arith, lt→ltb) })))
    (λ p' j. ((λ h. absurd h.lt), (λ h. record { lt = omega arith }))) p' n')
    (λ p k. ⊖-ind (λ p' n' z. (negsuc k <ℤ z) ↔ (p + n' < p' + (p + suc k))) (λ n' j. ((λ h. omega arith), (λ h. record { lt = tt })))
    (λ p' j. ((λ h. omega (arith, ltb→lt)), (λ h. record { lt = omega (arith, lt→ltb) }))) p' n') p n

pub nat_abs⊖ : (p n : ℕ) → nat_abs (p ⊖ n) ≡ (p - n) + (n - p)
nat_abs⊖ = ⊖-ind (λ p n z. nat_abs z ≡ (p - n) + (n - p)) (λ n k. omega arith) (λ p k. omega arith)

≤-of-≡ : {a b : ℤ} → a ≡ b → a ≤ℤ b
≤-of-≡ {a} e = subst (λ z. a ≤ℤ z) e (≤ℤ_refl a)

pub ≡⊖ : (p n p' n' : ℕ) → (p ⊖ n ≡ p' ⊖ n') ↔ (p + n' ≡ p' + n)
≡⊖ p n p' n' = ((λ e. omega (arith, (≤⊖ p n p' n').0 (≤-of-≡ e), (≤⊖ p' n' p n).0 (≤-of-≡ (sym e)))), ⊖-eq p n p' n')

-- `mag z < 2 ^ 63` is the range of an i64 (`SFits`)
pub mag⊖ : (p n : ℕ) → mag (p ⊖ n) ≡ (p - n) + (n - suc p)
mag⊖ = ⊖-ind (λ p n z. mag z ≡ (p - n) + (n - suc p)) (λ n k. omega arith) (λ p k. omega arith)

pub mag<⊖ : (p n H : ℕ) → (mag (p ⊖ n) < H) ↔ ((p < n + H) × (n ≤ p + H))
mag<⊖ p n H = rw mag⊖ (omega arith)

-- a bound on an absolute value, with no case to split (nat_abs⊖ splits omega's proof in four)
pub abs≤⊖ : (p n B : ℕ) → (nat_abs (p ⊖ n) ≤ B) ↔ ((p ≤ n + B) × (n ≤ p + B))
abs≤⊖ p n B = rw nat_abs⊖ (omega arith)

pub ruleset zb = (+⊖, *⊖, neg⊖, negpos⊖, pos⊖, negsuc⊖, abs≤⊖, mag<⊖, ≡⊖, ≤⊖, <⊖)

pub ruleset zs = (+⊖, *⊖, neg⊖, negpos⊖, pos⊖, negsuc⊖, nat_abs⊖, mag⊖, ≡⊖, ≤⊖, <⊖)
