-- The squares over a reel, as the code of every program over lines takes them.
use Rattle.std.specs.Prelude.{Bool, true, false, List, ℕ}
use Rattle.feeding.specs.Program.{handed}
use Rattle.pieces.specs.Piece.{Limits}
use Rattle.reels.specs.declared.reel.Reel.{Reel}
use Rattle.reels.specs.Reel.{reel_given}
use Rattle.reels.specs.Limits.{WithinLimits, most_printed}
use Rattle.reels.specs.Program.{reel_line, reel_cut, reel_program}
use Rattle.reels.proofs.LimitsKept.{limits-kept}

-- a line keeps the limits
pub handed-kept : (s : Reel) (whole : Bool) (bytes : List ℕ) → WithinLimits s → WithinLimits (handed reel_program s whole bytes).0
unfolding handed reel_line reel_cut reel_given
handed-kept s true bytes w = limits-kept.taken s bytes w
handed-kept s false bytes w = limits-kept.broken s w

abbrev pub reel_limits : Limits reel_program
reel_limits = record { most = most_printed; Sound = WithinLimits; kept = handed-kept }
