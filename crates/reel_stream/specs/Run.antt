-- A whole run of the squares over a reel.
use Rattle.std.specs.Prelude.{◌≡◌, ◌⊎◌, List, ℕ, Option}
use Rattle.feeding.specs.Feed.{reader_begun, fed, reader_ended}
use Rattle.pieces.specs.Run.{RanToTheEnd}
use Rattle.reels.specs.declared.reel.ReelPhase.{ReelPhase}
use Rattle.reels.specs.declared.reel.ReelPhase.TheVariants.{FirstRun}
use Rattle.reels.specs.declared.reel.Reel.{Reel}
use Rattle.reels.specs.Reel.{reel_begun}
use Rattle.reels.specs.Program.{reel_program}

-- the phase that the reel of an input comes to
unfoldable pub phase_of : List ℕ → ReelPhase
phase_of input = (reader_ended reel_program (fed reel_program (reader_begun reel_program reel_begun) input)).0.phase

-- A run that ended was fed with the bytes that it read, and wrote what its lines print.
pub record Finished (left left' written written' : Option (List ℕ)) (room : ℕ) (r : ReelPhase) : Type 0 where
  pub last : Reel
  pub whole : RanToTheEnd reel_program reel_begun left left' written written' room last
  pub phase : r ≡ phase_of whole.read

-- The input that was read decides how a run ended; one that could not be read or written did not end.
abbrev pub EndedAs : ReelPhase → Type 0
EndedAs r = (r ≡ FirstRun) ⊎ ((input : List ℕ) × (r ≡ phase_of input))
