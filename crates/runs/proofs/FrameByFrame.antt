-- The calls of a whole run back, over frames and an output as they lie, are those over their parts, frame by frame.
use mathlib.Core.Path.{◌≡◌, refl, sym, ap, ◌∙◌}
use mathlib.Core.List.{List, ◌++◌}
use Prim.Native.Nat.{ℕ, zero, suc, ◌+◌}
use lib.IntN.{ℤ}
use lib.ListN.{take, drop}
use Rattle.runs.specs.declared.record.Run.{Run}
use Rattle.runs.specs.Answers.{placed}
use Rattle.runs.specs.Whole.{parts_of, joined}
use Rattle.runs.specs.CallsReturn.{answers_back, outputs_back, AllTaken}
use Rattle.runs.specs.Back.{taken_back}
use Rattle.runs.specs.WholeBack.{answer_from, outputs_from}
use Rattle.runs.proofs.OneByOne.{answer-next, here-taken}

pub taken-parts : (N b before : ℕ) (run : Run) (frames out : List ℤ) → (answer_from N before run b frames out).0 ≡ 0 → AllTaken (answers_back run (parts_of N b frames) (parts_of N b out))
unfolding answer_from placed parts_of answers_back AllTaken
taken-parts N zero before run frames out e = (e, tt)
taken-parts N (suc b) before run frames out e =
    let z = here-taken N b run frames out refl refl before e in
    (z, taken-parts N b (before + N) _ (drop N frames) (drop N out) (ap (λ (a : ℕ × ℕ). a.0) (sym (answer-next N b run frames out refl refl before z)) ∙ e))

pub parts-taken : (N b before : ℕ) (run : Run) (frames out : List ℤ) → AllTaken (answers_back run (parts_of N b frames) (parts_of N b out)) → (answer_from N before run b frames out).0 ≡ 0
unfolding answer_from placed parts_of answers_back AllTaken
parts-taken N zero before run frames out z = z.0
parts-taken N (suc b) before run frames out z =
    ap (λ (a : ℕ × ℕ). a.0) (answer-next N b run frames out refl refl before z.0) ∙ parts-taken N b (before + N) _ (drop N frames) (drop N out) z.1

pub outputs-parts : (N b : ℕ) (run : Run) (frames out : List ℤ) → outputs_from N run b frames out ≡ joined (outputs_back run (parts_of N b frames) (parts_of N b out))
unfolding outputs_from parts_of outputs_back joined
outputs-parts N zero run frames out = refl
outputs-parts N (suc b) run frames out =
    ap (λ (ys : List ℤ). (taken_back run (take N frames) (take N out)).2 ++ ys) (outputs-parts N b (taken_back run (take N frames) (take N out)).1 (drop N frames) (drop N out))
