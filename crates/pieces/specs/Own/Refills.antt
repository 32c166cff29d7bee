-- The next piece in a buffer.
use Rattle.std.specs.Prelude.{◌≡◌, List, ℕ, ◌≤◌, ◌<◌, length, take, Option}
use Rattle.std.specs.Io.KnownBytes.{Keeps, Consumes, IsAtEnd}
use Rattle.pieces.specs.declared.reading.PieceRead.{PieceRead}

-- the piece that a read of n bytes gives
abbrev pub piece_given : ℕ → PieceRead
piece_given n = record { count = n; at = 0 }

-- A piece that is not used up stays as it is; behind it comes another, from its first byte. Of the bytes that an input has left, where they
-- are known, that takes the first; one with no byte in it is the end of the input.
pub record Refills (left left' : Option (List ℕ)) (before : List ℕ) (count at : ℕ) (r : PieceRead) (after : List ℕ) : Type 0 where
  pub stays : at < count → (after ≡ before) × (r.count ≡ count) × (r.at ≡ at)
  pub next : count ≤ at → r.at ≡ 0
  pub fits : r.count ≤ length before
  pub place : r.at ≤ r.count
  pub more : 0 < r.count → r.at < r.count
  pub unread : at < count → Keeps left left'
  pub reads : count ≤ at → Consumes left left' (take r.count after)
  pub ended : r.count ≡ 0 → 0 < length after → IsAtEnd left'
