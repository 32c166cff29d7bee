-- The numbers of the valve's answers: document 02, request 3.
use Rattle.std.specs.Prelude.{ℕ, Result, Ok, Err, ⊤}
use Rattle.valves.specs.declared.record.Ticket.{Ticket}
use Rattle.valves.specs.declared.answer.Refusal.{Refusal}
use Rattle.valves.specs.declared.answer.Refusal.TheVariants.{Width, InputLength, DeadMark, Range, Limits, AllMade, OtherCount}

-- an answer: work done, or a refusal
abbrev pub Answer : Type 0
Answer = Result ⊤ Refusal

-- what an ask gives: its ticket, or a refusal
abbrev pub Asked : Type 0
Asked = Result Ticket Refusal

-- the number of an answer, 0 for work done, and its place, 0 where there is none
unfoldable pub told : Answer → ℕ × ℕ
told (Ok x) = (0, 0)
told (Err Width) = (1, 0)
told (Err InputLength) = (6, 0)
told (Err (DeadMark i)) = (8, i)
told (Err (Range i)) = (9, i)
told (Err Limits) = (17, 0)
told (Err AllMade) = (18, 0)
told (Err OtherCount) = (19, 0)
