-- A loop that stores at four places a turn what stands there, moved by a rule: the invariant, and what it comes to.
use mathlib.Core.Path.{◌≡◌, refl, sym, ap, ap₂, subst, ◌∙◌}
use mathlib.Core.Bool.{Bool}
use mathlib.Core.List.{List}
use Prim.Native.Nat.{ℕ, ◌+◌, ◌-◌, ◌%◌, ◌^◌, ◌≤◌, ◌<◌}
use native.Mathlib.Omega.{arith}
use lib.IntN.{ℤ, nat_abs, ◌*ℤ◌}
use lib.ListN.{length}
use lib.Signed.{mag}
use mir.Syntax.{w64}
use mir.Val.{to_z, of_z}
use Rattle.integers.specs.Floor.{round}
use Rattle.integers.specs.Places.{tab, places, at, Within}
use Rattle.integers.proofs.PlaceLaws.{within_all}
use Rattle.integers.proofs.Fills.{Filling, filling-none, filling-four, filling-all}
use Rattle.slices.specs.declared.fours.Four.{Four}
use Rattle.slices.specs.Own.Fours.{listed, stored}
use Rattle.slices.proofs.FourLaws.{stored-out, listed-within}
use Rattle.slices.specs.Own.Moves.{moved}
use Rattle.lifts.specs.Own.Moves.{moved_four, rounded_products}
use Rattle.lifts.proofs.NumLaws.{call-is}

-- F n j z is what takes the place of z at j, in a list of n numbers
abbrev Rule : Type 0
Rule = ℕ → ℕ → ℤ → ℤ

abbrev pub made : Rule → List ℤ → ℕ → ℤ
made F d j = F (length d) j (at d j)

-- four results of calls, as their bits
abbrev pub called : ℤ → ℤ → ℤ → ℤ → Four
called p q r s = record { a = to_z w64 (of_z w64 p); b = to_z w64 (of_z w64 q); c = to_z w64 (of_z w64 r); d = to_z w64 (of_z w64 s) }

-- i of them are done
pub record Turns (F : Rule) (d₀ : List ℤ) (i : ℕ) (d : List ℤ) : Type 0 where
  pub fours : i % 4 ≡ 0
  pub upto : i ≤ length d₀
  pub filling : Filling (made F d₀) d₀ i d
  rest : (p : ℕ) → i ≤ p → at d p ≡ at d₀ p

pub turns-none : (F : Rule) (d : List ℤ) → Turns F d 0 d
turns-none F d = record { fours = refl; upto = omega arith; filling = filling-none _ _; rest = λ p h. refl }

module _ {F : Rule} {d₀ : List ℤ} {i : ℕ} {d : List ℤ} (h : Turns F d₀ i d) where
  pub turns-long : length d ≡ length d₀
  turns-long = h.filling.long

  -- four places are left
  turns-left : length d₀ % 4 ≡ 0 → i < length d₀ → i + 4 ≤ length d
  turns-left e l = omega (arith, turns-long, h.fours)

  -- what is still to be read
  pub turns-size : {B : ℕ} → Within B d₀ → (j : ℕ) → i ≤ j → nat_abs (at d j) ≤ B
  turns-size w j l = rw (h.rest j l) (w.size j)

  same : (j : ℕ) → i ≤ j → made F d j ≡ made F d₀ j
  same j l = ap (λ n. F n j (at d j)) turns-long ∙ ap (F (length d₀) j) (h.rest j l)

  -- the next four are made
  turns-four : length d₀ % 4 ≡ 0 → i < length d₀ → (f : Four) → f.a ≡ made F d i → f.b ≡ made F d (i + 1) → f.c ≡ made F d (i + 2) → f.d ≡ made F d (i + 3)
      → {d' : List ℤ} → d' ≡ stored d i f → Turns F d₀ (i + 4) d'
  unfolding stored
  turns-four e l f a b c g q = rw q (record {
    fours = omega (arith, h.fours);
    upto = omega (arith, turns-left e l, turns-long);
    filling = filling-four h.filling (a ∙ same i (omega arith)) (b ∙ same (i + 1) (omega arith)) (c ∙ same (i + 2) (omega arith)) (g ∙ same (i + 3) (omega arith));
    rest = λ k m. stored-out d i f k (λ z. m) ∙ h.rest k (omega arith);
  })

  -- by four calls
  pub turns_next : length d₀ % 4 ≡ 0 → i < length d₀ → {p q r s : ℤ}
      → mag p < 2 ^ 63 → p ≡ made F d i → mag q < 2 ^ 63 → q ≡ made F d (i + 1) → mag r < 2 ^ 63 → r ≡ made F d (i + 2) → mag s < 2 ^ 63 → s ≡ made F d (i + 3)
      → {d' : List ℤ} → d' ≡ stored d i (called p q r s) → Turns F d₀ (i + 4) d'
  turns_next e l {p} {q} {r} {s} a a' b b' c c' f f' = turns-four e l (called p q r s) (call-is w64 a a') (call-is w64 b b') (call-is w64 c c') (call-is w64 f f')

  pub turns-all : length d₀ ≤ i → d ≡ places (length d₀) (made F d₀)
  turns-all n = filling-all h.filling (omega (arith, h.upto))

-- a call gave this amount
pub record Gave (r a : ℤ) : Type 0 where
  pub ok : mag r < 2 ^ 63
  pub is : r ≡ a
  pub small : nat_abs r ≤ 2 ^ 61

gave-is : {r a : ℤ} → Gave r a → to_z w64 (of_z w64 r) ≡ a
gave-is g = call-is w64 g.ok g.is

pub gave-size : {r a : ℤ} → Gave r a → nat_abs (to_z w64 (of_z w64 r)) ≤ 2 ^ 61
gave-size {r} g = subst (λ z. nat_abs z ≤ 2 ^ 61) (sym (call-is w64 {r = r} g.ok refl)) g.small

pub called_is : (f : Four) {p q r s : ℤ} → Gave p f.a → Gave q f.b → Gave r f.c → Gave s f.d → called p q r s ≡ f
called_is f a b c d = rw (gave-is a, gave-is b, gave-is c, gave-is d)

pub gave : {r a : ℤ} → mag r < 2 ^ 63 → (r ≡ a) × (nat_abs r ≤ 2 ^ 61) → Gave r a
gave ok e = record { ok = ok; is = e.0; small = e.1 }

-- the amounts of four calls are taken or given back, A n j at place j of n numbers
pub called-within : {p q r s a b c d : ℤ} → Gave p a → Gave q b → Gave r c → Gave s d → Within (2 ^ 61) (listed (called p q r s))
called-within p q r s = within_all (2 ^ 61) _ (gave-size p, (gave-size q, (gave-size r, (gave-size s, tt))))

pub turns-moved : (undo : Bool) (A : ℕ → ℕ → ℤ) {d₀ : List ℤ} {i : ℕ} {d : List ℤ} → Turns (λ n j z. moved undo z (A n j)) d₀ i d → length d₀ % 4 ≡ 0 → i < length d₀ → {p q r s : ℤ}
    → Gave p (A (length d) i) → Gave q (A (length d) (i + 1)) → Gave r (A (length d) (i + 2)) → Gave s (A (length d) (i + 3))
    → {d' : List ℤ} → d' ≡ stored d i (moved_four undo d i (called p q r s)) → Turns (λ n j z. moved undo z (A n j)) d₀ (i + 4) d'
turns-moved undo A {i = i} {d = d} h e l {p} {q} {r} {s} a b c f =
    turns-four h e l (moved_four undo d i (called p q r s))
    (ap (moved undo (at d i)) (gave-is a))
    (ap (moved undo (at d (i + 1))) (gave-is b))
    (ap (moved undo (at d (i + 2))) (gave-is c))
    (ap (moved undo (at d (i + 3))) (gave-is f))

-- ---- rounded products of c and x for the numbers y: at place j of n x is read from its end, and c at `place n j`
abbrev pub product_at : (ℕ → ℕ → ℕ) → List ℤ → List ℤ → ℕ → ℕ → ℤ
product_at place c x n j = round 28 (at c (place n j) *ℤ at x (n - 1 - j))

-- what a turn comes to
module _ (undo : Bool) (place : ℕ → ℕ → ℕ) (c x : List ℤ) {d₀ : List ℤ} {i : ℕ} {d : List ℤ} (h : Turns (λ n j z. moved undo z (product_at place c x n j)) d₀ i d) (e : length d₀ % 4 ≡ 0) (l : i < length d₀) {f g : Four} (a : listed f ≡ places 4 (λ j. at c (place (length d) (i + j)))) (b : listed g ≡ places 4 (λ j. at x (length d - 4 - i + j))) where
  product_is : {u v : ℤ} (p j : ℕ) → u ≡ at c (place (length d) j) → v ≡ at x p → p ≡ length d - 1 - j → round 28 (u *ℤ v) ≡ product_at place c x (length d) j
  product_is p j q r s = ap₂ (λ u v. round 28 (u *ℤ v)) q (r ∙ ap (at x) s)

  pub products-next : {d' : List ℤ} → d' ≡ stored d i (moved_four undo d i (rounded_products f g)) → Turns (λ n j z. moved undo z (product_at place c x n j)) d₀ (i + 4) d'
  unfolding tab
  products-next =
      let n = turns-left h e l in
      let zero : i + 0 ≡ i = omega arith in
      turns-four h e l (moved_four undo d i (rounded_products f g))
      (ap (moved undo (at d i)) (product_is (length d - 4 - i + 3) i (ap (λ t. at t 0) a ∙ ap (λ j. at c (place (length d) j)) zero) (ap (λ t. at t 3) b) (omega (arith, n))))
      (ap (moved undo (at d (i + 1))) (product_is (length d - 4 - i + 2) (i + 1) (ap (λ t. at t 1) a) (ap (λ t. at t 2) b) (omega (arith, n))))
      (ap (moved undo (at d (i + 2))) (product_is (length d - 4 - i + 1) (i + 2) (ap (λ t. at t 2) a) (ap (λ t. at t 1) b) (omega (arith, n))))
      (ap (moved undo (at d (i + 3))) (product_is (length d - 4 - i + 0) (i + 3) (ap (λ t. at t 3) a) (ap (λ t. at t 0) b) (omega (arith, n))))
