-- What the tests of the code decide of the gate's questions.
use mathlib.Core.Path.{◌≡◌, refl, sym, ap, subst, ◌∙◌}
use mathlib.Core.Bool.{Bool, true, false, cond, ◌&&◌, and-false}
use mathlib.Core.List.{List, [], ◌∷◌}
use Prim.Native.Nat.{ℕ, zero, suc, ◌+◌, ◌-◌, ◌*◌, ◌≤◌, ◌<◌, zero-le}
use native.Mathlib.Omega.{arith}
use borrow.Author.Tests.{eqb-true, eqb-false, eq-eqb, ne_eqb, ltb-true, ltb-false, lt-ltb, le-ltb, le-leb, lt-leb}
use lib.Dec.{eqb, leb}
use lib.Bits.{bit_or, or_add_and, and_le_l, and_le_r}
use lib.IntN.{ℤ, pos, negsuc, nat_abs, ◌-ℤ◌}
use lib.Signed.{◌≤ℤ◌}
use mir.Syntax.{Width}
use mir.Val.{SFits}
use lib.ListN.{length, take, drop, length-drop, take-append-drop}
use lib.Seq.{take_all}
use Rattle.integers.specs.Places.{at}
use Rattle.integers.specs.Vectors.{AllAbs}
use Rattle.integers.proofs.Order.{nat_abs-zero}
use Rattle.integers.proofs.Words.{minus}
use Rattle.integers.proofs.PlaceLaws.{within_all, within-up}
use Rattle.integers.proofs.Products.{all_append, all_get_d}
use Rattle.tables.specs.Widths.{half_width}
use Rattle.steps.specs.Limits.{reading_limit, folded_limit}
use Rattle.runs.specs.Answers.{beyond, first_beyond}
use Rattle.std.specs.Prelude.{Some, None}
use Rattle.gate.proofs.LimitLaws.{stops, goes_on, ends}
use Rattle.runs.specs.declared.record.Run.{Run}
use Rattle.runs.specs.Gate.{nothing, inside, all_yes, blocks_behind, sound, dead, first_dead}
use Rattle.runs.proofs.Searches.{all-within, All, none_found, inside-all, all-inside}
use Rattle.runs.proofs.RecordLaws.{all_take, all_drop}

pub marked : (x : ℤ) → x ≡ negsuc 32767 → dead x ≡ true
unfolding dead
marked x e = ap dead e

pub unmarked : (x : ℤ) → (x ≡ negsuc 32767 → ⊥) → dead x ≡ false
unfolding dead
unmarked (pos n) h = refl
unmarked (negsuc n) h = ne_eqb n 32767 (λ e. h (ap negsuc e))

-- the dead mark is out of range
none-dead : (xs : List ℤ) → AllAbs reading_limit xs → All (λ x. dead x ≡ false) xs
none-dead [] h = tt
none-dead (x ∷ xs) h = (unmarked x (λ e. let d = ap nat_abs e in omega (arith, h.0, d)), none-dead xs h.1)

pub none-marked : (xs : List ℤ) → AllAbs reading_limit xs → first_dead xs 0 ≡ None
none-marked xs h = none_found dead xs 0 (none-dead xs h)

-- ---- a search that the code has made
pub outside : (limit : ℤ) (xs : List ℤ) (i : ℕ) → first_beyond limit xs 0 ≡ Some i → inside limit xs ≡ false
unfolding inside nothing
outside limit xs i e = ap nothing e

pub within : (limit : ℤ) (xs : List ℤ) → first_beyond limit xs 0 ≡ None → inside limit xs ≡ true
unfolding inside nothing
within limit xs e = ap nothing e

-- ---- the lower limit
pub minus-fits : (w : Width) (l : ℤ) → pos 0 ≤ℤ l → SFits w l → SFits w (pos 0 -ℤ l)
minus-fits w (pos zero) k f = f
minus-fits w (pos (suc n)) k f = subst (SFits w) (sym (minus (pos (suc n)))) (record { sfits = omega (arith, f.sfits) })
minus-fits w (negsuc n) k f = absurd k.le

-- ---- numbers beyond a limit, counted up to a place: where there is none yet, the search goes on from there
pub record Counted (limit : ℤ) (xs : List ℤ) (i out : ℕ) : Type 0 where
  pub none : out ≡ 0 → first_beyond limit xs 0 ≡ first_beyond limit (drop i xs) i
  pub some : (out ≡ 0 → ⊥) → inside limit xs ≡ false

pub counted_next : (limit : ℤ) (xs : List ℤ) (i out r : ℕ) → i < length xs → r ≡ cond (beyond limit (at xs i)) 1 0 → Counted limit xs i out → Counted limit xs (i + 1) (out + r)
counted_next limit xs i out r l e c = by (beyond limit (at xs i)) (eqb out 0) refl refl
  where
    by : (b t : Bool) → beyond limit (at xs i) ≡ b → eqb out 0 ≡ t → Counted limit xs (i + 1) (out + r)
    by true true b t =
        let one : r ≡ 1 = e ∙ ap (λ x. cond x 1 0) b in
        record { none = λ z. absurd (omega arith); some = λ f. outside _ xs i (c.none (eqb-true out 0 t) ∙ stops _ _ _ l b) }
    by true false b t =
        let one : r ≡ 1 = e ∙ ap (λ x. cond x 1 0) b in
        record { none = λ z. absurd (omega arith); some = λ f. c.some (eqb-false out 0 t) }
    by false t b u =
        let zero : r ≡ 0 = e ∙ ap (λ x. cond x 1 0) b in
        record { none = λ z. c.none (omega arith) ∙ goes_on _ _ _ l b; some = λ f. c.some (λ z. f (omega arith)) }

pub counted-end : (limit : ℤ) (xs : List ℤ) (i out : ℕ) → i ≡ length xs → Counted limit xs i out → eqb out 0 ≡ inside limit xs
counted-end limit xs i out l c = by (eqb out 0) refl
  where
    by : (t : Bool) → eqb out 0 ≡ t → t ≡ inside limit xs
    by true t = sym (within _ xs (c.none (eqb-true out 0 t) ∙ ends _ _ _ l))
    by false t = sym (c.some (eqb-false out 0 t))

-- ---- whether every number is zero
pub not-clear : (xs : List ℤ) → (((k : ℕ) → at xs k ≡ pos 0) → ⊥) → inside (pos 0) xs ≡ false
unfolding inside
not-clear xs h = by (inside (pos 0) xs) refl
  where
    by : (b : Bool) → inside (pos 0) xs ≡ b → b ≡ false
    by true e = absurd (h (λ k. nat_abs-zero _ (omega (arith, (within_all 0 xs (all-inside 0 xs e)).size k))))
    by false e = refl

pub all-clear : (xs : List ℤ) → ((k : ℕ) → k < length xs → at xs k ≡ pos 0) → inside (pos 0) xs ≡ true
all-clear xs h = inside-all 0 xs (all_get_d 0 xs (λ k l. let e = ap nat_abs (h k l) in omega arith))

-- bits of two numbers together
pub no_bits : (a b : ℕ) → bit_or a b ≡ 0 → (a ≡ 0) × (b ≡ 0)
no_bits a b e = (omega (arith, e, or_add_and a b, and_le_r a b), omega (arith, e, or_add_and a b, and_le_l a b))

-- ---- question 2, test by test
-- the part that the code lends, up to the end, is the rest of the list
pub rest_part : (all m n : ℕ) (xs : List ℤ) → length xs ≡ all → m ≡ n → take (all - m) (drop m xs) ≡ drop n xs
rest_part all m n xs l e = take_all (all - m) (drop m xs) (omega (arith, length-drop m xs, l)) ∙ ap (λ k. drop k xs) e

-- the numbers up to place n decide, where those behind them are zero
pub same_answer : (a b : Bool) → (a ≡ true → b ≡ true) → (b ≡ true → a ≡ true) → a ≡ b
same_answer true b h k = sym (h refl)
same_answer false true h k = k refl
same_answer false false h k = refl

inside-up : (l m : ℕ) (xs : List ℤ) → l ≤ m → inside (pos l) xs ≡ true → inside (pos m) xs ≡ true
unfolding inside
inside-up l m xs h e = inside-all m xs (all-within m xs (within-up (within_all l xs (all-inside l xs e)) h))

pub inside_take : (l n : ℕ) (xs : List ℤ) → inside (pos l) xs ≡ true → inside (pos l) (take n xs) ≡ true
unfolding inside
inside_take l n xs e = inside-all l (take n xs) (all_take l n xs (all-inside l xs e))

pub inside-drop : (l n : ℕ) (xs : List ℤ) → inside (pos l) xs ≡ true → inside (pos l) (drop n xs) ≡ true
unfolding inside
inside-drop l n xs e = inside-all l (drop n xs) (all_drop l n xs (all-inside l xs e))

inside-front : (l n : ℕ) (xs : List ℤ) → inside (pos 0) (drop n xs) ≡ true → inside (pos l) xs ≡ inside (pos l) (take n xs)
unfolding inside
inside-front l n xs r =
    same_answer _ _
    (λ e. inside-all l (take n xs) (all_take l n xs (all-inside l xs e)))
    (λ e. inside-all l xs (rw (← take-append-drop n xs) (all_append l (take n xs) (drop n xs) (all-inside l (take n xs) e) (all-inside l (drop n xs) (inside-up 0 l (drop n xs) zero-le r)))))

last-asked : (b : Bool) → b ≡ (b && true)
last-asked true = refl
last-asked false = refl

both-asked : (a b : Bool) → (a ≡ true → b ≡ true) → a ≡ (b && (a && true))
both-asked true b h = sym (h refl) ∙ last-asked b
both-asked false true h = refl
both-asked false false h = refl

module _ (top : ℕ) (run : Run) where
  abbrev M : ℕ
  M = half_width run.width

  abbrev front : List ℤ
  front = take M run.held

  pub no-width : M ≡ 0 → false ≡ sound top run
  unfolding sound all_yes
  no-width e = rw (le-ltb 0 M (omega (arith, e)))

  module _ (w : M ≡ 0 → ⊥) where
    wide : 0 < M
    wide = omega (arith, w)

    pub no-count : top < run.count → false ≡ sound top run
    unfolding sound all_yes
    no-count h = rw (lt-ltb 0 M wide, lt-leb _ _ h)

    module _ (n : run.count ≤ top) where
      abbrev most : ℕ
      most = blocks_behind top run.count * run.width * reading_limit

      pub no-total : beyond (pos most) run.total ≡ true → false ≡ sound top run
      unfolding sound all_yes beyond
      no-total b = rw (lt-ltb 0 M wide, le-leb _ _ n, lt-leb _ _ (ltb-true _ _ b), and-false, and-false, and-false)

      module _ (b : beyond (pos most) run.total ≡ false) where
        fits : leb (nat_abs run.total) most ≡ true
        unfolding beyond
        fits = le-leb (nat_abs run.total) most (ltb-false most (nat_abs run.total) b)

        pub rest-held : inside (pos 0) (drop M run.held) ≡ false → false ≡ sound top run
        unfolding sound all_yes
        rest-held r = rw (lt-ltb 0 M wide, le-leb _ _ n, fits, r, and-false)

        module _ (r : inside (pos 0) (drop M run.held) ≡ true) where
          pub none-taken : run.count ≡ 0 → inside (pos 0) front ≡ sound top run
          unfolding sound all_yes
          none-taken e =
              rw (lt-ltb 0 M wide, le-leb _ _ n, fits, r, eq-eqb _ _ e, inside-front folded_limit M run.held r, inside-front 0 M run.held r)
              (both-asked _ _ (inside-up 0 folded_limit front zero-le))

          module _ (k : run.count ≡ 0 → ⊥) where
            pub run-over : run.finished ≡ true → inside (pos 0) front ≡ sound top run
            unfolding sound all_yes
            run-over e =
                rw (lt-ltb 0 M wide, le-leb _ _ n, fits, r, ne_eqb _ _ k, e, inside-front folded_limit M run.held r, inside-front 0 M run.held r)
                (both-asked _ _ (inside-up 0 folded_limit front zero-le))

            pub run-open : run.finished ≡ false → inside (pos folded_limit) front ≡ sound top run
            unfolding sound all_yes
            run-open e = rw (lt-ltb 0 M wide, le-leb _ _ n, fits, r, ne_eqb _ _ k, e, inside-front folded_limit M run.held r) (last-asked _)
