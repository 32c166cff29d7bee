-- Digits written from the last one on, in a work array.
use mathlib.Core.Path.{◌≡◌, sym, ap, ◌∙◌}
use mathlib.Core.List.{List, ◌∷◌}
use Prim.Native.Nat.{ℕ, zero, suc, ◌+◌, ◌-◌, ◌/◌, ◌%◌, ◌^◌, ◌≤◌, ◌<◌}
use native.Mathlib.Omega.{arith}
use lib.ListN.{length, take, drop, set, length-set, length-drop}
use lib.Seq.{drop-cons, drop-set-lt, get_or-set_same, drop-length, take_all}
use Rattle.text_runs.specs.Decimal.{spelled, decimal}
use Rattle.text_runs.proofs.DecimalLaws.{spelled-last, spelled-more, tenth, more_left}

drop-set : (work : List ℕ) (k v : ℕ) → k < length work → drop k (set work k v) ≡ v ∷ drop (suc k) work
drop-set work k v h =
    drop-cons (set work k v) k 0 (omega (arith, length-set work k v))
    ∙ rw (get_or-set_same work k v 0 h, drop-set-lt (suc k) work k v (omega arith))

pub all-behind : (work : List ℕ) (n : ℕ) → length work ≡ 20 → spelled 20 n (drop 20 work) ≡ decimal n
unfolding decimal
all-behind work n h = ap (λ (k : ℕ). spelled 20 n (drop k work)) (sym h) ∙ ap (spelled 20 n) (drop-length work)

-- a turn writes the last digit of what is left
pub digits-left : (i n : ℕ) → n < 10 ^ i → 0 < i → 9 < n → 1 < i
digits-left zero n h l m = absurd (omega arith)
digits-left (suc k) n h l m = omega (arith, more_left k n h (omega arith))

pub fewer_digits : (i n : ℕ) → n < 10 ^ i → 0 < i → n / 10 < 10 ^ (i - 1)
fewer_digits zero n h l = absurd (omega arith)
fewer_digits (suc k) n h l = let e : suc k - 1 ≡ k = omega arith in rw e (tenth k n h)

pub digit-written : (i n : ℕ) (work : List ℕ) → 0 < i → i ≤ length work → 9 < n
    → spelled (i - 1) (n / 10) (drop (i - 1) (set work (i - 1) (48 + n % 10))) ≡ spelled i n (drop i work)
digit-written zero n work h l m = absurd (omega arith)
digit-written (suc k) n work h l m =
    let e : suc k - 1 ≡ k = omega arith in
    rw (e, drop-set work k (48 + n % 10) (omega arith)) (sym (spelled-more k n (drop (suc k) work) (omega arith)))

pub last_written : (i n : ℕ) (work : List ℕ) → 0 < i → i ≤ length work → n ≤ 9 → drop (i - 1) (set work (i - 1) (48 + n)) ≡ spelled i n (drop i work)
last_written zero n work h l m = absurd (omega arith)
last_written (suc k) n work h l m =
    let e : suc k - 1 ≡ k = omega arith in
    rw (e, drop-set work k (48 + n) (omega arith)) (sym (spelled-last k n (drop (suc k) work) (omega arith)))

-- what stands at the end of the work array
pub last-part : (r : ℕ) (work text : List ℕ) → length work ≡ 20 → drop r work ≡ text → take (20 - r) (drop r work) ≡ text
last-part r work text l e = take_all (20 - r) (drop r work) (omega (arith, length-drop r work, l)) ∙ e
