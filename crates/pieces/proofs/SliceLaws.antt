-- Parts of a list, one behind the other.
use mathlib.Core.Path.{◌≡◌, sym, ap, ◌∙◌}
use mathlib.Core.Logic.{◌⊎◌, inl, inr, ⊎_elim}
use mathlib.Core.List.{List, ◌++◌}
use Prim.Native.Nat.{ℕ, ◌-◌, ◌≤◌, ◌<◌}
use native.Mathlib.Omega.{arith}
use borrow.Author.Tests.{leb-true, leb-false}
use lib.Dec.{leb}
use lib.ListN.{length, take, drop, length-append, length-drop, take-append-drop}
use lib.Seq.{slice, length-slice, length-take-le, take-take, take_all, take_at, drop-append-le}
use Rattle.text_runs.proofs.UpToLaws.{tested}

pub le-or-lt : (a b : ℕ) → (a ≤ b) ⊎ (b < a)
le-or-lt a b = ⊎_elim (λ e. inl (leb-true a b e)) (λ e. inr (leb-false a b e)) (tested (leb a b))

pub part-long : (n : ℕ) (l : List ℕ) → n ≤ length l → n ≡ length (take n l)
part-long n l h = sym (length-take-le n l h)

module _ (l : List ℕ) where
  pub take-slice : (a b : ℕ) → a ≤ b → take a l ++ slice a b l ≡ take b l
  take-slice a b h = ap (λ (t : List ℕ). t ++ slice a b l) (sym (take-take a b l h)) ∙ take-append-drop a (take b l)

  pub slice-append : (a b c : ℕ) → a ≤ b → b ≤ c → c ≤ length l → slice a b l ++ slice b c l ≡ slice a c l
  slice-append a b c ab bc cl =
      let m : List ℕ = take c l in
      let n : length (take b m) ≡ b = length-take-le b m (omega (arith, length-take-le c l cl)) in
      ap (λ (t : List ℕ). drop a t ++ drop b m) (sym (take-take b c l bc))
      ∙ sym (drop-append-le a (take b m) (drop b m) (omega arith))
      ∙ ap (drop a) (take-append-drop b m)

  -- what stands in front of the rest
  pub slice_front : (a b : ℕ) (u : List ℕ) → a ≤ b → b ≤ length l → drop a l ≡ u ++ drop b l → slice a b l ≡ u
  slice_front a b u ab bl e =
      let rest : slice b (length l) l ≡ drop b l = ap (drop b) (take_all (length l) l (omega arith)) in
      let all : slice a (length l) l ≡ drop a l = ap (drop a) (take_all (length l) l (omega arith)) in
      let same : slice a b l ++ drop b l ≡ u ++ drop b l =
      ap (λ (t : List ℕ). slice a b l ++ t) (sym rest) ∙ slice-append a b (length l) ab bl (omega arith) ∙ all ∙ e
      in
      let n : length u ≡ b - a = omega (arith, ap length e, length-append u (drop b l), length-drop a l, length-drop b l) in
      sym (take_at (slice a b l) (drop b l) (b - a) (length-slice a b l bl)) ∙ ap (take (b - a)) same ∙ take_at u (drop b l) (b - a) n
