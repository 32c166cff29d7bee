use Rattle.std.proofs.Common.{◌≡◌, ℕ, ◌+◌, ◌-◌, ◌≤◌, List, ◌++◌, length, take, drop, sym, ap, subst, ◌∙◌, arith, length-take, length-drop}
use lib.Seq.{take-take}
use Rattle.std.proofs.lemmas.List.{drop-take}
use Rattle.std.specs.Io.KnownBytes.{Appends}
use Rattle.std.proofs.KnownBytes.{Appends-trans}
use Rattle.pieces.proofs.SliceLaws.{take-slice}
use Rattle.pieces.proofs.writing.write_all.Goals as goal

-- what was written, and then n bytes more of the rest
more : (text : List ℕ) (done n : ℕ) → n ≤ length text - done → take done text ++ take n (take (length text - done) (drop done text)) ≡ take (done + n) text
more text done n h =
    ap (λ (t : List ℕ). take done text ++ t) (take-take n (length text - done) (drop done text) h ∙ sym (drop-take done n text))
    ∙ take-slice text done (done + n) (omega arith)

pub loop-done-preserved : goal.loop-done-preserved
loop-done-preserved g c =
    let text = c.args.text.now in
    let done = c.loop-done.done in
    let n = c.in-Ok.n in
    let fits : n ≤ length text - done = omega (arith, c.in-Ok.ensures.bound, length-take (length text - done) (drop done text), length-drop done text) in
    (omega (arith, fits, c.loop-done.invariant.0), subst (Appends _ _) (more text done n fits) (Appends-trans _ _ _ _ _ c.loop-done.invariant.1 c.in-Ok.ensures.bytes))
