-- Where the call is refused, the count and the total that stand there are those that it keeps.
use Rattle.std.proofs.Common.{◌≡◌, ◌+◌, ◌<◌, ◌^◌, sym, ap, ap₂, ◌∙◌, arith, pos, set, ℤ, List, w64}
use lib.Seq.{set-get_or}
use Rattle.integers.proofs.Held.{held}
use Rattle.runs.specs.Answers.{told}
use Rattle.runs.specs.Record.{next_count}
use Rattle.runs.proofs.Refusals.{count_kept, count-raised}
use Rattle.c_record.proofs.AnswerLaws.{done_told, refused_told}
use Rattle.c_record.proofs.RecordLaws.{number}
use Rattle.c_record.proofs.record.store.Goals as goal

pub overflow_add-numbers : goal.overflow_add-numbers
overflow_add-numbers c = let few = c.requires.count_lt_frame_limit (done_told _ c.if-is_ok.ensures.value) in record { fits = omega (arith, few) }

pub overflow_cast-numbers : goal.overflow_cast-numbers
overflow_cast-numbers c = let few = c.requires.count_lt_frame_limit (done_told _ c.if-is_ok.ensures.value) in record { sfits = omega (arith, few) }

pub returns-then-is_ok : goal.returns-then-is_ok
returns-then-is_ok c =
    let worked = done_told _ c.if-is_ok.ensures.value in
    let few = c.requires.count_lt_frame_limit worked in
    let n : c.args.count + 1 < 2 ^ 63 = omega (arith, few) in
    ap₂ (λ (v t : ℤ). set (set c.args.numbers.now 1 v) 67 t) (number (c.args.count + 1) n ∙ ap pos (count-raised _ c.args.count worked)) (held w64 _ c.ranges.total).is

pub returns-else-is_ok : goal.returns-else-is_ok
returns-else-is_ok c =
    let l = c.args.numbers.now in
    let no = refused_told c.args.answer c.if-is_ok.ensures.value in
    let count : set l 1 (pos (next_count (told c.args.answer).0 c.args.count)) ≡ l =
    ap (λ n. set l 1 (pos n)) (sym (count_kept _ c.args.count no)) ∙ ap (set l 1) (sym c.requires.numbers_len.1) ∙ set-get_or l 1 (pos 0) in
    sym (ap (λ (xs : List ℤ). set xs 67 c.args.total) count ∙ ap (set l 67) (sym (c.requires.numbers_value no)) ∙ set-get_or l 67 (pos 0))
