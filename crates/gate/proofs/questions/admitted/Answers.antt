-- Questions 2 and 3 are the record's; a refusal of theirs is handed on.
use Rattle.std.proofs.Common.{◌≡◌, ◌∙◌, sym, ℕ, ℤ, List, Bool, true, false, of_z, to_z, w64}
use Rattle.std.proofs.lemmas.Result.{err_from_is_err_and}
use mir.Val.{SFits}
use Rattle.integers.proofs.Held.{held}
use Rattle.runs.specs.Answers.{Answer, told}
use Rattle.runs.specs.Record.{record_of}
use Rattle.runs.proofs.AskLaws.{full-refused, input-refused, output-refused, lengths-passed}
use Rattle.gate.specs.Own.Asked.{answered, StillOpen}
use Rattle.gate.proofs.AskedLaws.{refusal-number, done-number, open-sound, open-unfinished, open-refused}
use Rattle.gate.proofs.questions.admitted.Goals as goal

-- the total is lent by its bits
of_number : (top width count : ℕ) (held-values : List ℤ) (finished : Bool) (total : ℤ) (answer : Answer) → SFits w64 total → StillOpen top (record_of width count held-values finished (to_z w64 (of_z w64 total))) answer → StillOpen top (record_of width count held-values finished total) answer
of_number top width count held-values finished total answer f s = rw (held w64 _ f).is at s

pub returns-in_err-still_open : goal.returns-in_err-still_open
returns-in_err-still_open c =
    let p = err_from_is_err_and c.from_residual.result c.from_residual.ensures.1 in
    rw (p.1, p.2) (open-refused (of_number _ _ _ _ _ _ _ c.ranges.total c.in_err-still_open.ensures) _ _ (refusal-number _))

pub returns-then-count-top : goal.returns-then-count-top
unfolding answered told
returns-then-count-top c =
    let o = of_number _ _ _ _ _ _ _ c.ranges.total c.in_ok-still_open.ensures in
    let run = record_of c.args.width c.args.count c.args.held.now c.args.finished c.args.total in
    record { asked = λ xs out next l m. full-refused c.args.top run xs out next (open-sound o (done-number _)) (open-unfinished o (done-number _)) c.if-count-top.true }

pub returns-then-given-width : goal.returns-then-given-width
unfolding answered told
returns-then-given-width c =
    let o = of_number _ _ _ _ _ _ _ c.ranges.total c.in_ok-still_open.ensures in
    let run = record_of c.args.width c.args.count c.args.held.now c.args.finished c.args.total in
    record { asked = λ xs out next l m. input-refused c.args.top run xs out next (open-sound o (done-number _)) (open-unfinished o (done-number _)) c.if-count-top.false (λ d. c.if-given-width.true (sym l ∙ d)) }

pub returns-then-out-width : goal.returns-then-out-width
unfolding answered told
returns-then-out-width c =
    let o = of_number _ _ _ _ _ _ _ c.ranges.total c.in_ok-still_open.ensures in
    let run = record_of c.args.width c.args.count c.args.held.now c.args.finished c.args.total in
    record { asked = λ xs out next l m. output-refused c.args.top run xs out next (open-sound o (done-number _)) (open-unfinished o (done-number _)) c.if-count-top.false (l ∙ c.if-given-width.false) (λ d. c.if-out-width.true (sym m ∙ d)) }

pub returns : goal.returns
unfolding answered told
returns c =
    let o = of_number _ _ _ _ _ _ _ c.ranges.total c.in_ok-still_open.ensures in
    let run = record_of c.args.width c.args.count c.args.held.now c.args.finished c.args.total in
    record { asked = λ xs out next l m. lengths-passed c.args.top run xs out next (open-sound o (done-number _)) (open-unfinished o (done-number _)) c.if-count-top.false (l ∙ c.if-given-width.false) (m ∙ c.if-out-width.false) }
