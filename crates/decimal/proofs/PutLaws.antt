-- Text put behind text in a buffer.
use mathlib.Core.Path.{◌≡◌, refl, sym, ap, subst, ◌∙◌}
use mathlib.Core.List.{List, [], ◌++◌, append_assoc, append-nil}
use Prim.Native.Nat.{ℕ, ◌+◌}
use native.Mathlib.Omega.{arith}
use lib.ListN.{length, take, length-append}
use Rattle.decimal.specs.Own.Put.{Put}

-- ---- one behind the other
pub put-none : (at : ℕ) (out : List ℕ) → Put at out [] at out
put-none at out = record { count = omega arith; is = sym (append-nil (take at out)) }

pub put_then : {at r r' : ℕ} {out₀ out out' text text' : List ℕ} → Put at out₀ text r out → Put r out text' r' out' → Put at out₀ (text ++ text') r' out'
put_then {at} {r} {r'} {out₀} {out} {out'} {text} {text'} p q = record {
  count = let l = length-append text text' in omega (arith, p.count, q.count, l);
  is = q.is ∙ ap (λ (xs : List ℕ). xs ++ text') p.is ∙ append_assoc (take at out₀) text text';
}

pub put_as : (at : ℕ) (out : List ℕ) (r : ℕ) (after : List ℕ) {text text' : List ℕ} → text ≡ text' → Put at out text r after → Put at out text' r after
put_as at out r after e = subst (λ (t : List ℕ). Put at out t r after) e

-- ---- a text put part by part: with what is left it is the whole
pub record Left (at : ℕ) (out₀ whole : List ℕ) (n : ℕ) (out left : List ℕ) : Type 0 where
  pub count : n + length left ≡ at + length whole
  is : take n out ++ left ≡ take at out₀ ++ whole

pub left-all : (at : ℕ) (out whole : List ℕ) → Left at out whole at out whole
left-all at out whole = record { count = refl; is = refl }

pub left_as : {at n : ℕ} {out₀ whole out left left' : List ℕ} → left ≡ left' → Left at out₀ whole n out left → Left at out₀ whole n out left'
left_as {at} {n} {out₀} {whole} {out} e = subst (Left at out₀ whole n out) e

pub left-put : {at n r : ℕ} {out₀ whole out after text left : List ℕ} → Left at out₀ whole n out (text ++ left) → Put n out text r after → Left at out₀ whole r after left
left-put {at} {n} {r} {out₀} {whole} {out} {after} {text} {left} p q = record {
  count = omega (arith, p.count, q.count, length-append text left);
  is = ap (λ (xs : List ℕ). xs ++ left) q.is ∙ append_assoc (take n out) text left ∙ p.is;
}

pub left-none : {at n : ℕ} {out₀ whole out : List ℕ} → Left at out₀ whole n out [] → Put at out₀ whole n out
left-none {n = n} {out = out} p = record { count = omega (arith, p.count); is = sym (append-nil (take n out)) ∙ p.is }
