-- What is printed from now on does not depend on what was printed before: an output buffer may be written and emptied at any time.
use Rattle.std.specs.Prelude.{◌≡◌, List, ◌++◌, ℕ}
use Rattle.feeding.specs.Program.{Program}
use Rattle.feeding.specs.Feed.{Reader, fed, reader_ended}

-- the same reader behind bytes that were printed before
unfoldable pub behind : (P : Program) → List ℕ → Reader P → Reader P
behind P before r = record { state = r.state; had = r.had; printed = before ++ r.printed }

abbrev pub PrintedBehind : Type 1
PrintedBehind = (P : Program) (before : List ℕ) (r : Reader P) (bytes : List ℕ) → fed P (behind P before r) bytes ≡ behind P before (fed P r bytes)

abbrev pub EndedBehind : Type 1
EndedBehind = (P : Program) (before : List ℕ) (r : Reader P) → reader_ended P (behind P before r) ≡ ((reader_ended P r).0, before ++ (reader_ended P r).1)
