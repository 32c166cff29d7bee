-- A line gathered byte by byte into a buffer.
use mathlib.Core.Path.{◌≡◌}
use mathlib.Core.List.{List}
use Prim.Native.Nat.{ℕ, ◌+◌, ◌≤◌, ◌<◌}
use native.Mathlib.Numerals.{add-one}
use native.Mathlib.Omega.{arith}
use borrow.Author.Tests.{eq-eqb, ne_eqb, lt-ltb, le-ltb}
use lib.ListN.{length, take, drop, get_or, set, drop_of_length-le}
use lib.Seq.{drop-cons, take-suc-set, length-take-le}
use Rattle.text_runs.specs.Lines.{line_feed}
use Rattle.text_runs.specs.Line.{line_limit}
use Rattle.pieces.specs.declared.line.LineEnd.TheVariants.{Open, Whole, Broken}
use Rattle.pieces.specs.Own.Gathers.{line_gathered}

module _ (line : List ℕ) (n : ℕ) (piece : List ℕ) (at : ℕ) where
  pub at-end : length piece ≤ at → line_gathered (take n line) (drop at piece) ≡ (take n line, drop at piece, Open)
  unfolding line_gathered
  at-end h = rw (drop_of_length-le piece h)

  module _ (within : at < length piece) where
    pub at-feed : get_or piece at 0 ≡ line_feed → line_gathered (take n line) (drop at piece) ≡ (take n line, drop (at + 1) piece, Whole)
    unfolding line_gathered
    at-feed e = rw (add-one at, drop-cons piece at 0 within, eq-eqb (get_or piece at 0) line_feed e)

    module _ (other : get_or piece at 0 ≡ line_feed → ⊥) (long : length line ≡ line_limit) where
      pub at-full : n ≡ length line → line_gathered (take n line) (drop at piece) ≡ (take n line, drop (at + 1) piece, Broken)
      unfolding line_gathered
      at-full e =
          let l : length (take n line) ≡ n = length-take-le n line (omega arith) in
          let h : line_limit ≤ length (take n line) = omega arith in
          rw (add-one at, drop-cons piece at 0 within, ne_eqb (get_or piece at 0) line_feed other, le-ltb (length (take n line)) line_limit h)

      pub at_more : n < line_limit
          → line_gathered (take (n + 1) (set line n (get_or piece at 0))) (drop (at + 1) piece) ≡ line_gathered (take n line) (drop at piece)
      unfolding line_gathered
      at_more h =
          let l : length (take n line) ≡ n = length-take-le n line (omega arith) in
          let short : length (take n line) < line_limit = omega arith in
          rw (
            add-one at,
            add-one n,
            take-suc-set line n (get_or piece at 0) (omega arith),
            drop-cons piece at 0 within,
            ne_eqb (get_or piece at 0) line_feed other,
            lt-ltb (length (take n line)) line_limit short,
          )
