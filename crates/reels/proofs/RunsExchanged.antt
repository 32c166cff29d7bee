-- Two runs of a reel exchanged: it is a reel still, and prints the same page.
use mathlib.Core.Path.{◌≡◌, refl, sym, ap, ◌∙◌}
use mathlib.Core.List.{List, [], ◌∷◌, ◌++◌, append_assoc}
use Prim.Native.Nat.{ℕ}
use native.Mathlib.Omega.{arith}
use lib.IntN.{ℤ}
use lib.ListN.{length, length-append}
use Rattle.reels.specs.Page.{page_of}
use Rattle.reels.specs.EveryReel.{FramesAndTotal, EachRun, ReelOf, all_frames}
use Rattle.reels.specs.Exchanged.{RunsExchanged}
use Rattle.reels.proofs.Exchanged.{parts-exchanged}
use Rattle.reels.proofs.ReelTexts.{every-reel-printed}

-- ---- runs one behind the other
frames-behind : (a b : List FramesAndTotal) → all_frames (a ++ b) ≡ all_frames a ++ all_frames b
unfolding all_frames
frames-behind [] b = refl
frames-behind (run ∷ a) b = ap (λ (frames : List (List ℤ)). run.0 ++ frames) (frames-behind a b) ∙ sym (append_assoc run.0 (all_frames a) (all_frames b))

module _ (N : ℕ) where
  each-behind : (a b : List FramesAndTotal) → EachRun N a → EachRun N b → EachRun N (a ++ b)
  unfolding EachRun
  each-behind [] b h k = k
  each-behind (run ∷ a) b h k = (h.0, h.1, each-behind a b h.2 k)

  each-parted : (a b : List FramesAndTotal) → EachRun N (a ++ b) → EachRun N a × EachRun N b
  unfolding EachRun
  each-parted [] b h = (tt, h)
  each-parted (run ∷ a) b h = let t = each-parted a b h.2 in ((h.0, h.1, t.0), t.1)

  -- ---- the reel with two runs exchanged
  module _ (x y : FramesAndTotal) (front between behind : List FramesAndTotal) where
    each-exchanged : EachRun N (front ++ x ∷ between ++ y ∷ behind) → EachRun N (front ++ y ∷ between ++ x ∷ behind)
    unfolding EachRun
    each-exchanged h =
        let t = each-parted (front ++ x ∷ between) (y ∷ behind) h in
        let u = each-parted front (x ∷ between) t.0 in
        each-behind (front ++ y ∷ between) (x ∷ behind) (each-behind front (y ∷ between) u.0 (t.1.0, t.1.1, u.1.2)) (u.1.0, u.1.1, t.1.2)

    count-exchanged : length (front ++ x ∷ between ++ y ∷ behind) ≡ length (front ++ y ∷ between ++ x ∷ behind)
    count-exchanged = simp length-append

    reel-exchanged : ReelOf N (front ++ x ∷ between ++ y ∷ behind) → ReelOf N (front ++ y ∷ between ++ x ∷ behind)
    reel-exchanged r = record {
      wide = r.wide;
      each = each-exchanged r.each;
      some = omega (arith, count-exchanged, r.some);
      few = omega (arith, count-exchanged, r.few);
    }

    frames-parted : all_frames (front ++ x ∷ between ++ y ∷ behind) ≡ (all_frames front ++ (x.0 ++ all_frames between)) ++ (y.0 ++ all_frames behind)
    unfolding all_frames
    frames-parted = frames-behind (front ++ x ∷ between) (y ∷ behind) ∙ ap (λ (frames : List (List ℤ)). frames ++ (y.0 ++ all_frames behind)) (frames-behind front (x ∷ between))

pub runs-exchanged : RunsExchanged
runs-exchanged N x y front between behind r =
    every-reel-printed N (front ++ x ∷ between ++ y ∷ behind) r
    ∙ ap (page_of N) (frames-parted N x y front between behind)
    ∙ parts-exchanged N (all_frames front) x.0 (all_frames between) y.0 (all_frames behind)
    ∙ ap (page_of N) (sym (frames-parted N y x front between behind))
    ∙ sym (every-reel-printed N (front ++ y ∷ between ++ x ∷ behind) (reel-exchanged N x y front between behind r))
