-- A run back, call by call: document 01, "Widths, readings, frames" and the gate.
use Rattle.std.specs.Prelude.{cond, not, List, [], ℕ, suc, eqb, ltb, ℤ, pos, ◌+ℤ◌, take, drop, Option}
use Rattle.integers.specs.Vectors.{sum_of}
use Rattle.tables.specs.Widths.{half_width}
use Rattle.steps.specs.Limits.{folded_limit, coefficient_limit}
use Rattle.steps.specs.Steps.{unstages, unfolded}
use Rattle.runs.specs.Answers.{first_beyond}
use Rattle.runs.specs.declared.record.Run.{Run}
use Rattle.runs.specs.Record.{frame_limit, opened, closed}
use Rattle.runs.specs.Gate.{CallResult, ask, ask_each, admitted, sound, first_out}

-- a run that has taken one frame more, which gave these readings: it holds the lower half of the frame's folded values
unfoldable pub framed : Run → List ℤ → List ℤ → Run
framed run given folded = opened run.width (suc run.count) (run.total +ℤ sum_of given) (take (half_width run.width) folded)

-- the block between the lower half that is held and this frame's upper half
unfoldable pub block_on : Run → List ℤ → List ℤ
block_on run folded = unfolded run.width (take (half_width run.width) run.held) (drop (half_width run.width) folded)

-- A first frame: its upper half must be zero (11), and it gives no block. The place counts through all folded values.
unfoldable pub first_upper : Run → List ℤ → Option ℕ
first_upper run folded = first_beyond (pos 0) (drop (half_width run.width) folded) (half_width run.width)

unfoldable pub first_frame : Run → List ℤ → List ℤ → CallResult
first_frame run folded out = ask_each 11 (first_upper run folded) run out ((0, 0), framed run [] folded, out)

-- A later frame gives the block before it, whose readings must be in range (12).
unfoldable pub later_frame : Run → List ℤ → List ℤ → CallResult
later_frame run folded out = ask_each 12 (first_out (block_on run folded) 0) run out ((0, 0), framed run (block_on run folded) folded, block_on run folded)

unfoldable pub unfolded_in : Run → List ℤ → List ℤ → CallResult
unfolded_in run folded out = cond (eqb run.count 0) (first_frame run folded out) (later_frame run folded out)

-- 9, the stages undone, 10
unfoldable pub undone_in : Run → List ℤ → List ℤ → CallResult
undone_in run frame out =
    ask_each 9 (first_beyond (pos coefficient_limit) frame 0) run out
    (ask_each 10 (first_beyond (pos folded_limit) (unstages run.width frame) 0) run out (unfolded_in run (unstages run.width frame) out))

-- take a frame
unfoldable pub taken_back : Run → List ℤ → List ℤ → CallResult
taken_back run frame out = admitted frame_limit run frame out (undone_in run frame out)

-- finish back: 5, a frame has been taken; 11, the held lower half is zero. No output is lent.
unfoldable pub first_held : Run → Option ℕ
first_held run = first_beyond (pos 0) (take (half_width run.width) run.held) 0

unfoldable pub ended_back : Run → CallResult
ended_back run =
    ask 2 (sound frame_limit run) run []
    (ask 3 (not run.finished) run []
    (ask 5 (ltb 0 run.count) run [] (ask_each 11 (first_held run) run [] ((0, 0), closed run, []))))
