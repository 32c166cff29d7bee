-- The outputs of a whole run, block by block, as the code writes them into parts of one list.
use mathlib.Core.Path.{◌≡◌, sym, ap, ◌∙◌}
use mathlib.Core.List.{List, ◌++◌, append_assoc, append-nil}
use Prim.Native.Nat.{ℕ, zero, suc, ◌+◌, ◌-◌, ◌≤◌, ◌<◌}
use native.Mathlib.Omega.{arith}
use lib.IntN.{ℤ}
use lib.ListN.{length, take, drop, length-append, length-drop, drop_of_length-le}
use lib.Seq.{length-take-le, take_at, drop-drop}
use borrow.Rule.Slice.PartMut.{put_mid, drop_put}
use Rattle.runs.specs.declared.record.Run.{Run}
use Rattle.runs.specs.Gate.{CallResult}
use Rattle.runs.specs.Forward.{taken, ended}
use Rattle.runs.specs.Calls.{give, made}
use Rattle.runs.specs.Whole.{calls_of, outputs}

-- ---- a part put back into its list
abbrev pub written : ℕ → ℕ → List ℤ → List ℤ → List ℤ
written place N xs ys = put_mid place (place + N - place) xs ys

module _ (place N : ℕ) (xs ys : List ℤ) (h : place + N ≤ length xs) (l : length ys ≡ N) where
  pub written-front : take (place + N) (written place N xs ys) ≡ take place xs ++ ys
  written-front =
      ap (take (place + N)) (sym (append_assoc (take place xs) ys _))
      ∙ take_at (take place xs ++ ys) _ (place + N) (omega (arith, length-append (take place xs) ys, length-take-le place xs (omega arith), l))

  pub written-rest : drop (place + N) (written place N xs ys) ≡ drop (place + N) xs
  written-rest = drop_put place (place + N) xs ys (omega arith) h (omega (arith, l))

pub written-end : (place : ℕ) (xs ys : List ℤ) → place ≤ length xs → put_mid place (length xs - place) xs ys ≡ take place xs ++ ys
written-end place xs ys h =
    ap (λ (zs : List ℤ). take place xs ++ (ys ++ zs)) (let e : length (drop place xs) ≤ length xs - place = omega (arith, length-drop place xs) in drop_of_length-le (drop place xs) e)
    ∙ ap (λ (zs : List ℤ). take place xs ++ zs) (append-nil ys)

-- ---- the outputs of the calls left
module _ (N : ℕ) (run : Run) (readings out : List ℤ) (g : CallResult) where
  outputs-next : (left : ℕ) → 0 < left → g ≡ taken run (take N readings) (take N out)
      → outputs (made run (calls_of N left readings out)) ≡ g.2 ++ outputs (made g.1 (calls_of N (left - 1) (drop N readings) (drop N out)))
  unfolding outputs made calls_of give
  outputs-next zero h e = absurd (omega arith)
  outputs-next (suc l) h e = let d : suc l - 1 ≡ l = omega arith in rw (d, e)

  outputs-end : g ≡ ended run out → outputs (made run (calls_of N 0 readings out)) ≡ g.2
  unfolding outputs made calls_of give
  outputs-end e = append-nil _ ∙ ap (λ (x : CallResult). x.2) (sym e)

module _ (N place left : ℕ) (run after : Run) (answer : ℕ × ℕ) (readings out ys : List ℤ) where
  pub frames-next : 0 < left → place + N ≤ length out → length ys ≡ N → (answer, after, ys) ≡ taken run (take N (drop place readings)) (take N (drop place out))
      → take place out ++ outputs (made run (calls_of N left (drop place readings) (drop place out)))
      ≡ take (place + N) (written place N out ys) ++ outputs (made after (calls_of N (left - 1) (drop (place + N) readings) (drop (place + N) (written place N out ys))))
  frames-next h i l e =
      ap (λ (zs : List ℤ). take place out ++ zs) (outputs-next N run (drop place readings) (drop place out) (answer, after, ys) left h e)
      ∙ rw (written-front place N out ys i l, written-rest place N out ys i l, drop-drop N place readings, drop-drop N place out, append_assoc)

  pub frames-end : left ≡ 0 → place ≤ length out → (answer, after, ys) ≡ ended run (drop place out)
      → put_mid place (length out - place) out ys ≡ take place out ++ outputs (made run (calls_of N left (drop place readings) (drop place out)))
  frames-end z h e =
      written-end place out ys h
      ∙ ap (λ (zs : List ℤ). take place out ++ zs) (sym (ap (λ n. outputs (made run (calls_of N n (drop place readings) (drop place out)))) z ∙ outputs-end N run (drop place readings) (drop place out) (answer, after, ys) e))
