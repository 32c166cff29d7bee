-- The numbers of the verdicts on a line of a reel: document 01's, and 14 and 15 of request 1.
use Rattle.std.specs.Prelude.{ℕ, Result, Ok, Err, ⊤}
use Rattle.reels.specs.declared.verdict.Refusal.{Refusal}
use Rattle.reels.specs.declared.verdict.Refusal.TheVariants.{Width, Full, Empty, Length, Range, Form, OtherWidth, RunTooMany}

-- a verdict: the line is taken, or a refusal
abbrev pub Verdict : Type 0
Verdict = Result ⊤ Refusal

-- the number of a verdict, 0 for a line that is taken, and its place, 0 where there is none
unfoldable pub verdict_told : Verdict → ℕ × ℕ
verdict_told (Ok x) = (0, 0)
verdict_told (Err Width) = (1, 0)
verdict_told (Err Full) = (4, 0)
verdict_told (Err Empty) = (5, 0)
verdict_told (Err Length) = (6, 0)
verdict_told (Err (Range i)) = (9, i)
verdict_told (Err Form) = (13, 0)
verdict_told (Err OtherWidth) = (14, 0)
verdict_told (Err RunTooMany) = (15, 0)
