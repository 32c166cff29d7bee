-- A frame counts once and in its own place: sums over frames one behind the other are added, so neither frames nor runs have an order.
use mathlib.Core.Path.{◌≡◌, refl, sym, ap, ap₂, ◌∙◌}
use mathlib.Core.List.{List, [], ◌∷◌, ◌++◌}
use Prim.Native.Nat.{ℕ, zero, suc}
use native.Mathlib.Omega.{arith}
use lib.IntN.{ℤ, pos, ◌+ℤ◌, +ℤ_idl}
use lib.ListN.{length, get_or, length-append}
use Rattle.integers.proofs.Ring.{ring}
use Rattle.reels.specs.Page.{squared, page, sum_of_squares, sums_from, page_of}
use Rattle.reels.specs.EveryReel.{all_frames}
use Rattle.reels.specs.Exchanged.{FramesExchanged, added, SumsAdded}

-- ---- frames one behind the other
grouped : (a b c : ℤ) → a +ℤ (b +ℤ c) ≡ (a +ℤ b) +ℤ c
grouped a b c = simp ring

pub sums-behind : (k : ℕ) (a b : List (List ℤ)) → sum_of_squares k (a ++ b) ≡ sum_of_squares k a +ℤ sum_of_squares k b
unfolding sum_of_squares
sums-behind k [] b = sym (+ℤ_idl (sum_of_squares k b))
sums-behind k (frame ∷ a) b =
    ap (λ (s : ℤ). squared (get_or frame k (pos 0)) +ℤ s) (sums-behind k a b) ∙ grouped (squared (get_or frame k (pos 0))) (sum_of_squares k a) (sum_of_squares k b)

pub sums-added : SumsAdded
unfolding all_frames added sum_of_squares
sums-added k [] = refl
sums-added k (run ∷ runs) = sums-behind k run.0 (all_frames runs) ∙ ap (λ (s : ℤ). sum_of_squares k run.0 +ℤ s) (sums-added k runs)

-- ---- a page is told by its sums and its count
sums_same : (k n : ℕ) (a b : List (List ℤ)) → ((i : ℕ) → sum_of_squares i a ≡ sum_of_squares i b) → sums_from k n a ≡ sums_from k n b
unfolding sums_from
sums_same k zero a b h = refl
sums_same k (suc n) a b h = ap₂ (λ (s : ℤ) (ss : List ℤ). s ∷ ss) (h k) (sums_same (suc k) n a b h)

pub page-same : (N : ℕ) (a b : List (List ℤ)) → ((i : ℕ) → sum_of_squares i a ≡ sum_of_squares i b) → length a ≡ length b → page_of N a ≡ page_of N b
unfolding page_of
page-same N a b h l = ap₂ page (sums_same 0 N a b h) l

-- ---- the second and the fourth of five parts are exchanged
sum-exchanged : (f x b y r : ℤ) → (f +ℤ (x +ℤ b)) +ℤ (y +ℤ r) ≡ (f +ℤ (y +ℤ b)) +ℤ (x +ℤ r)
sum-exchanged f x b y r = simp ring

module _ (f x b y r : List (List ℤ)) where
  sums-parted : (k : ℕ) → sum_of_squares k ((f ++ (x ++ b)) ++ (y ++ r)) ≡ (sum_of_squares k f +ℤ (sum_of_squares k x +ℤ sum_of_squares k b)) +ℤ (sum_of_squares k y +ℤ sum_of_squares k r)
  sums-parted k =
      sums-behind k (f ++ (x ++ b)) (y ++ r)
      ∙ ap₂ ◌+ℤ◌ (sums-behind k f (x ++ b) ∙ ap (λ (s : ℤ). sum_of_squares k f +ℤ s) (sums-behind k x b)) (sums-behind k y r)

pub parts-exchanged : (N : ℕ) (f x b y r : List (List ℤ)) → page_of N ((f ++ (x ++ b)) ++ (y ++ r)) ≡ page_of N ((f ++ (y ++ b)) ++ (x ++ r))
parts-exchanged N f x b y r =
    page-same N ((f ++ (x ++ b)) ++ (y ++ r)) ((f ++ (y ++ b)) ++ (x ++ r))
    (λ k.
    sums-parted f x b y r k
    ∙ sum-exchanged (sum_of_squares k f) (sum_of_squares k x) (sum_of_squares k b) (sum_of_squares k y) (sum_of_squares k r)
    ∙ sym (sums-parted f y b x r k))
    (simp length-append (omega arith))

pub frames-exchanged : FramesExchanged
frames-exchanged N x y front between behind = parts-exchanged N front (x ∷ []) between (y ∷ []) behind
