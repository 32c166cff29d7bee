-- The record as numbers: what the code's tests of them say, and that packing and unpacking are inverse.
use mathlib.Core.Path.{◌≡◌, refl, sym, ap, subst, ◌∙◌}
use mathlib.Core.Bool.{Bool, true, false, cond, ◌&&◌}
use mathlib.Core.List.{List, [], ◌∷◌, ◌++◌}
use Prim.Native.Nat.{ℕ, zero, suc, ◌≤◌, ◌<◌, ◌^◌}
use native.Mathlib.Omega.{arith}
use borrow.Author.Tests.{ltb-true, ltb-false, leb-true, le-leb, lt-leb, eqb-true, eq-eqb, ne_eqb}
use lib.Dec.{T, eqb, ltb, leb}
use lib.IntN.{ℤ, pos, negsuc, nat_abs}
use lib.ListN.{length, get_or, take, drop, set, length-set, length-append, length-drop}
use lib.Seq.{length-take-le, take_at}
use lib.Signed.{lt_z, non_neg}
use mir.Syntax.{w64}
use mir.Val.{to_z, of_z, bool_byte}
use borrow.Rule.Slice.PartMut.{put_mid}
use Rattle.integers.specs.Places.{at}
use Rattle.integers.proofs.Held.{held-ok}
use Rattle.runs.specs.declared.record.Run.{Run}
use Rattle.runs.specs.Record.{zeros, record_of, zero_padded, opened}
use Rattle.runs.specs.Gate.{all_yes}
use Rattle.runs.proofs.CallLaws.{every-answer}
use Rattle.c_record.specs.Record.{run_length, is_record, packed, unpacked}
use Rattle.c_record.specs.Ready.{Packable}

-- ---- signs
below : (x : ℤ) → lt_z x (pos 0) ≡ true → non_neg x ≡ false
below (pos n) e = absurd (omega (arith, ltb-true n 0 e))
below (negsuc n) e = refl

from : (x : ℤ) → lt_z x (pos 0) ≡ false → non_neg x ≡ true
from (pos n) e = refl
from (negsuc n) e = absurd (subst T e tt)

one : (x : ℤ) → non_neg x ≡ true → lt_z x (pos 2) ≡ (leb (nat_abs x) 1 && true)
one (pos n) e = by (ltb n 2) refl
  where
    by : (b : Bool) → ltb n 2 ≡ b → ltb n 2 ≡ (leb n 1 && true)
    by true t = t ∙ sym (ap (λ b. b && true) (le-leb n 1 (omega (arith, ltb-true n 2 t))))
    by false t = t ∙ sym (ap (λ b. b && true) (lt-leb n 1 (omega (arith, ltb-false n 2 t))))
one (negsuc n) e = absurd (subst T (sym e) tt)

pub natural : (x : ℤ) → non_neg x ≡ true → x ≡ pos (nat_abs x)
natural (pos n) e = refl
natural (negsuc n) e = absurd (subst T (sym e) tt)

-- ---- the tests, one after the other
module _ (numbers : List ℤ) where
  pub no_room : (length numbers ≡ run_length → ⊥) → false ≡ is_record numbers
  unfolding is_record all_yes
  no_room h = rw (ne_eqb _ _ h)

  module _ (l : length numbers ≡ run_length) where
    pub no-width : lt_z (at numbers 0) (pos 0) ≡ true → false ≡ is_record numbers
    unfolding is_record all_yes
    no-width h = rw (eq-eqb _ _ l, below (at numbers 0) h)

    module _ (w : lt_z (at numbers 0) (pos 0) ≡ false) where
      pub no-count : lt_z (at numbers 1) (pos 0) ≡ true → false ≡ is_record numbers
      unfolding is_record all_yes
      no-count h = rw (eq-eqb _ _ l, from (at numbers 0) w, below (at numbers 1) h)

      module _ (c : lt_z (at numbers 1) (pos 0) ≡ false) where
        pub no_flag : lt_z (at numbers 2) (pos 0) ≡ true → false ≡ is_record numbers
        unfolding is_record all_yes
        no_flag h = rw (eq-eqb _ _ l, from (at numbers 0) w, from (at numbers 1) c, below (at numbers 2) h)

        pub by_flag : lt_z (at numbers 2) (pos 0) ≡ false → lt_z (at numbers 2) (pos 2) ≡ is_record numbers
        unfolding is_record all_yes
        by_flag h = rw (eq-eqb _ _ l, from (at numbers 0) w, from (at numbers 1) c, from (at numbers 2) h) (one (at numbers 2) (from (at numbers 2) h))

-- ---- the held values lie behind the first three numbers, and the total behind them
pub held-long : (numbers : List ℤ) → length numbers ≡ run_length → length (take 64 (drop 3 numbers)) ≡ 64
held-long numbers l = length-take-le 64 (drop 3 numbers) (omega (arith, length-drop 3 numbers))

pub last-long : (numbers : List ℤ) → length numbers ≡ run_length → length (drop 64 (drop 3 numbers)) ≡ 1
last-long numbers l = omega (arith, length-drop 64 (drop 3 numbers), length-drop 3 numbers)

-- a number stored behind others, in the last place
stored_last : (xs ys : List ℤ) (t : ℤ) → length ys ≡ 1 → set (xs ++ ys) (length xs) t ≡ xs ++ t ∷ []
stored_last [] [] t l = absurd (omega arith)
stored_last [] (y ∷ []) t l = refl
stored_last [] (y ∷ z ∷ ys) t l = absurd (omega arith)
stored_last (x ∷ xs) ys t l = ap (λ (zs : List ℤ). x ∷ zs) (stored_last xs ys t l)

pub total-stored : (a b c : ℤ) (held rest : List ℤ) (t : ℤ) → length held ≡ 64 → length rest ≡ 1 → set (a ∷ b ∷ c ∷ held ++ rest) 67 t ≡ a ∷ b ∷ c ∷ held ++ t ∷ []
total-stored a b c held rest t l m = ap (λ (n : ℕ). a ∷ b ∷ c ∷ set (held ++ rest) n t) (sym l) ∙ ap (λ (zs : List ℤ). a ∷ b ∷ c ∷ zs) (stored_last held rest t m)

-- ---- numbers that are those of a record
module _ (numbers : List ℤ) (r : is_record numbers ≡ true) where
  pub has_room : length numbers ≡ run_length
  unfolding is_record
  has_room = eqb-true _ _ (every-answer _ r 0)

  pub has_width : non_neg (at numbers 0) ≡ true
  unfolding is_record
  has_width = every-answer _ r 1

  pub has-count : non_neg (at numbers 1) ≡ true
  unfolding is_record
  has-count = every-answer _ r 2

  flag : non_neg (at numbers 2) ≡ true
  unfolding is_record
  flag = every-answer _ r 3

finished : (x : ℤ) → non_neg x ≡ true → eqb (of_z w64 x) 1 ≡ eqb (nat_abs x) 1
finished (pos n) e = refl
finished (negsuc n) e = absurd (subst T (sym e) tt)

module _ (numbers : List ℤ) where
  pub no_record : (held : List ℤ) → held ≡ zeros 64 → is_record numbers ≡ false → record { width = 0; count = 0; held = held; finished = false; total = pos 0 } ≡ unpacked numbers
  unfolding unpacked opened zero_padded
  no_record held h e = rw e (ap (λ xs. record { width = 0; count = 0; held = xs; finished = false; total = pos 0 }) h)

  pub some-record : (w c t : ℤ) → w ≡ at numbers 0 → c ≡ at numbers 1 → t ≡ at numbers 67 → is_record numbers ≡ true
      → record_of (nat_abs w) (nat_abs c) (take 64 (drop 3 numbers)) (eqb (of_z w64 (at numbers 2)) 1) t ≡ unpacked numbers
  unfolding unpacked
  some-record w c t p q s e = rw (e, p, q, s, finished (at numbers 2) (flag numbers e))

last_of : (xs : List ℤ) (t : ℤ) → get_or (xs ++ t ∷ []) (length xs) (pos 0) ≡ t
last_of [] t = refl
last_of (x ∷ xs) t = last_of xs t

-- ---- there and back: a record with 64 held values, and numbers that are those of a record
pub unpacked-packed : (run : Run) → length run.held ≡ 64 → unpacked (packed run) ≡ run
unfolding unpacked packed is_record all_yes
unpacked-packed run l =
    let long : length (run.held ++ run.total ∷ []) ≡ 65 = omega (arith, length-append run.held (run.total ∷ []), l) in
    let front : take 64 (run.held ++ run.total ∷ []) ≡ run.held = take_at run.held (run.total ∷ []) 64 l in
    let last : get_or (run.held ++ run.total ∷ []) 64 (pos 0) ≡ run.total = ap (λ (n : ℕ). get_or (run.held ++ run.total ∷ []) n (pos 0)) (sym l) ∙ last_of run.held run.total in
    by long front last run.finished
  where
    by : length (run.held ++ run.total ∷ []) ≡ 65 → take 64 (run.held ++ run.total ∷ []) ≡ run.held → get_or (run.held ++ run.total ∷ []) 64 (pos 0) ≡ run.total
        → (f : Bool) → unpacked (packed (record { width = run.width; count = run.count; held = run.held; finished = f; total = run.total })) ≡ record { width = run.width; count = run.count; held = run.held; finished = f; total = run.total }
    by long front last true = rw (long, front, last)
    by long front last false = rw (long, front, last)

-- a list by all but its last number, and that
with-last : (l : List ℤ) (n : ℕ) → length l ≡ suc n → take n l ++ get_or l n (pos 0) ∷ [] ≡ l
with-last [] n e = absurd (omega arith)
with-last (x ∷ []) zero e = refl
with-last (x ∷ y ∷ l) zero e = absurd (omega arith)
with-last (x ∷ l) (suc n) e = ap (λ (zs : List ℤ). x ∷ zs) (with-last l n (omega arith))

bit-of : (n : ℕ) → n ≤ 1 → cond (eqb n 1) 1 0 ≡ n
bit-of zero h = refl
bit-of (suc zero) h = refl
bit-of (suc (suc n)) h = absurd (omega arith)

pub packed-unpacked : (numbers : List ℤ) → is_record numbers ≡ true → packed (unpacked numbers) ≡ numbers
unfolding unpacked packed is_record
packed-unpacked numbers r = rw r (by numbers (has_room numbers r) (every-answer _ r))
  where
    by : (l : List ℤ) → length l ≡ run_length → ((i : ℕ) → get_or (eqb (length l) run_length ∷ non_neg (at l 0) ∷ non_neg (at l 1) ∷ non_neg (at l 2) ∷ leb (nat_abs (at l 2)) 1 ∷ []) i true ≡ true)
        → pos (nat_abs (at l 0)) ∷ pos (nat_abs (at l 1)) ∷ pos (cond (eqb (nat_abs (at l 2)) 1) 1 0) ∷ take 64 (drop 3 l) ++ at l 67 ∷ [] ≡ l
    by [] h e = absurd (omega arith)
    by (x ∷ []) h e = absurd (omega arith)
    by (x ∷ y ∷ []) h e = absurd (omega arith)
    by (x ∷ y ∷ z ∷ l) h e =
        let p = natural x (e 1) in
        let q = natural y (e 2) in
        let b = ap pos (bit-of (nat_abs z) (leb-true (nat_abs z) 1 (e 4))) ∙ sym (natural z (e 3)) in
        let r : take 64 l ++ get_or l 64 (pos 0) ∷ [] ≡ l = with-last l 64 (omega (arith, h)) in
        cc

-- ---- packing
pub number : (n : ℕ) → n < 2 ^ 63 → to_z w64 n ≡ pos n
number n h = (held-ok w64 (pos n) h).is

bit : (b : Bool) → to_z w64 (bool_byte b) ≡ pos (cond b 1 0)
bit true = refl
bit false = refl

-- the first three numbers, stored, and what follows them
three : (l : List ℤ) (a b c : ℤ) (rest : List ℤ) → length l ≡ run_length → take 3 (set (set (set l 0 a) 1 b) 2 c) ++ rest ≡ a ∷ b ∷ c ∷ rest
three [] a b c rest e = absurd (omega arith)
three (x ∷ []) a b c rest e = absurd (omega arith)
three (x ∷ y ∷ []) a b c rest e = absurd (omega arith)
three (x ∷ y ∷ z ∷ l) a b c rest e = refl

module _ (run : Run) (numbers : List ℤ) (p : Packable run numbers) where
  -- as the code leaves the numbers before the held values are copied
  abbrev pub begun : List ℤ
  begun = set (set (set numbers 0 (to_z w64 run.width)) 1 (to_z w64 run.count)) 2 (to_z w64 (bool_byte run.finished))

  pub packed-is : (held : List ℤ) (t : ℤ) → held ≡ run.held → length held ≡ 64 → t ≡ run.total → set (put_mid 3 64 begun held) 67 t ≡ packed run
  unfolding packed
  packed-is held t h l q =
      let w = number run.width p.narrow in
      let c = number run.count p.few in
      let f = bit run.finished in
      let room : length begun ≡ run_length = simp length-set p.room in
      ap (λ (zs : List ℤ). set zs 67 t) (three numbers _ _ _ (held ++ drop 64 (drop 3 begun)) p.room)
      ∙ total-stored _ _ _ held (drop 64 (drop 3 begun)) t l (last-long begun room)
      ∙ cc
