-- A run forward, call by call: document 01, "Widths, readings, frames".
use Rattle.std.specs.Prelude.{cond, not, List, [], ℕ, eqb, ℤ, pos, length, take}
use Rattle.tables.specs.Widths.{half_width}
use Rattle.steps.specs.Steps.{frame}
use Rattle.runs.specs.declared.record.Run.{Run}
use Rattle.runs.specs.Record.{block_limit, zeros, opened, advanced, closed}
use Rattle.runs.specs.Gate.{CallResult, ask, ask_each, admitted, sound, first_dead, first_out}

-- a fresh start at a width; refused, the record has width 0, so that every later call with it is refused too
unfoldable pub started : ℕ → (ℕ × ℕ) × Run
started N = cond (eqb (half_width N) 0) ((1, 0), opened 0 0 (pos 0) []) ((0, 0), opened N 0 (pos 0) [])

-- the frame that a block makes with what the record holds
unfoldable pub frame_on : Run → List ℤ → List ℤ
frame_on run block = frame run.width (take (half_width run.width) run.held) block

-- take a block
unfoldable pub taken_in : Run → List ℤ → List ℤ → CallResult
taken_in run block out =
    ask_each 8 (first_dead block 0) run out (ask_each 9 (first_out block 0) run out ((0, 0), advanced run block, frame_on run block))

unfoldable pub taken : Run → List ℤ → List ℤ → CallResult
taken run block out = admitted block_limit run block out (taken_in run block out)

-- finish: the frame of one more block, of zeros
unfoldable pub ended : Run → List ℤ → CallResult
ended run out =
    ask 2 (sound block_limit run) run out
    (ask 3 (not run.finished) run out
    (ask 7 (eqb (length out) run.width) run out ((0, 0), closed run, frame_on run (zeros run.width))))
