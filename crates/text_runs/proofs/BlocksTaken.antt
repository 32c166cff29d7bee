-- Blocks that a run forward takes, one after the other: each is in range, and the first of their frames are printed.
use mathlib.Core.Path.{◌≡◌, refl, sym, ap, ◌∙◌}
use mathlib.Core.Bool.{true, false}
use mathlib.Core.List.{List, [], ◌∷◌, ◌++◌}
use Prim.Native.Nat.{ℕ, suc, ◌+◌}
use native.Mathlib.Omega.{arith}
use lib.IntN.{ℤ, ◌+ℤ◌, +ℤ_assoc, +ℤ_idr}
use lib.ListN.{length, take}
use Rattle.integers.specs.Vectors.{sum_of, total_of}
use Rattle.steps.specs.Limits.{reading_limit}
use Rattle.steps.specs.Steps.{held, frame}
use Rattle.distance.specs.Statement.{Block}
use Rattle.runs.specs.declared.record.Run.{Run}
use Rattle.runs.specs.Record.{opened}
use Rattle.runs.specs.Calls.{block, accepted, block_at}
use Rattle.runs.proofs.RecordLaws.{Reached, reached-next}
use Rattle.runs.proofs.CallLaws.{answered-yes, taken-decided, accepted-below, accepted-block}
use Rattle.runs.proofs.EveryList.{AllBlocks, blocks-none, blocks-one}
use Rattle.runs.proofs.MadeFrames.{frames_after}
use Rattle.text_runs.specs.declared.state.Way.TheVariants.{Forward}
use Rattle.text_runs.specs.Way.{lent_output, taken_by, row_line, shown_row}
use Rattle.text_runs.specs.Return.{row_lines}
use Rattle.text_runs.proofs.AnyLines.{AllTaken, run_behind, shown_for, taken_next, run-next, shown-next}

pub record BlocksTaken (N b : ℕ) (t : ℤ) (previous : List ℤ) (rows : List (List ℤ)) : Type 0 where
  pub blocks : AllBlocks N rows
  pub count : ℕ
  pub counted : count ≡ b + length rows
  pub total : ℤ
  pub total-is : total ≡ t +ℤ total_of rows
  pub last : List ℤ
  pub behind : run_behind Forward (opened N b t (held N previous)) rows ≡ opened N count total (held N last)
  pub reached : Reached N count total last
  pub shown-are : shown_for Forward (opened N b t (held N previous)) rows ≡ row_lines (take (length rows) (frame N (held N previous) (block_at N rows 0) ∷ frames_after N rows))

module _ (N b : ℕ) (t : ℤ) (previous : List ℤ) (r : Reached N b t previous) (x : List ℤ)
    (worked : (taken_by Forward (opened N b t (held N previous)) x (lent_output (opened N b t (held N previous)))).0.0 ≡ 0) where
  abbrev run : Run
  run = opened N b t (held N previous)

  yes : accepted N b false (block x (lent_output run)) ≡ true
  unfolding taken_by
  yes = answered-yes (taken-decided N b t previous r x (lent_output run)) worked

  is_block : Block N reading_limit x
  is_block = accepted-block N b false x (lent_output run) yes

  reached-more : Reached N (suc b) (t +ℤ sum_of x) x
  reached-more = reached-next N b t previous x r (accepted-below N b false x (lent_output run) yes) is_block

  block-given : taken_by Forward run x (lent_output run) ≡ ((0, 0), opened N (suc b) (t +ℤ sum_of x) (held N x), frame N (held N previous) x)
  unfolding taken_by
  block-given = (taken-decided N b t previous r x (lent_output run)).when-yes yes

  block_more : (rows : List (List ℤ)) → BlocksTaken N (suc b) (t +ℤ sum_of x) x rows → BlocksTaken N b t previous (x ∷ rows)
  unfolding shown_row row_lines frames_after block_at total_of
  block_more rows rest = record {
    blocks = blocks-one N x rows is_block rest.blocks;
    count = rest.count;
    counted = omega (arith, rest.counted);
    total = rest.total;
    total-is = rest.total-is ∙ +ℤ_assoc t (sum_of x) (total_of rows);
    last = rest.last;
    behind = run-next Forward run x rows _ _ block-given ∙ rest.behind;
    reached = rest.reached;
    shown-are = shown-next Forward run x rows _ _ block-given ∙ ap (λ (text : List ℕ). row_line (frame N (held N previous) x) ++ text) rest.shown-are;
  }

pub blocks-taken : (N : ℕ) (rows : List (List ℤ)) (b : ℕ) (t : ℤ) (previous : List ℤ) → Reached N b t previous → AllTaken Forward (opened N b t (held N previous)) rows → BlocksTaken N b t previous rows
unfolding AllTaken run_behind shown_for row_lines total_of
blocks-taken N [] b t previous r all = record {
  blocks = blocks-none N;
  count = b;
  counted = omega arith;
  total = t;
  total-is = sym (+ℤ_idr t);
  last = previous;
  behind = refl;
  reached = r;
  shown-are = refl;
}
blocks-taken N (x ∷ rows) b t previous r all =
    block_more N b t previous r x all.0 rows
    (blocks-taken N rows (suc b) (t +ℤ sum_of x) x (reached-more N b t previous r x all.0) (taken_next Forward (opened N b t (held N previous)) x rows _ _ (block-given N b t previous r x all.0) all))
