-- The first frame of a fresh run, undone.
use Rattle.std.proofs.Common.{◌≡◌, ℕ, ◌<◌, List, ℤ, pos, length, arith, sym, ap, subst, ◌∙◌}
use lib.IntN.{◌+ℤ◌}
use lib.ListN.{length-replicate}
use Rattle.integers.specs.Places.{Within}
use Rattle.tables.specs.Widths.{half_width}
use Rattle.steps.specs.Limits.{folded_limit}
use Rattle.slices.proofs.Parts.{part-long}
use Rattle.runs.specs.Answers.{Answer, told}
use Rattle.runs.specs.declared.record.Run.{Run}
use Rattle.runs.specs.Record.{zeros, opened}
use Rattle.runs.specs.Gate.{CallResult}
use Rattle.runs.specs.Forward.{started}
use Rattle.runs.specs.Back.{undone_in, taken_back}
use Rattle.runs.proofs.BackLaws.{started-back, ReachedBack, back-first}
use Rattle.asking_back.proofs.RoomLaws.{block_in}
use Rattle.asking_back.proofs.Undoing.{low-within, record_then, first-total, frame-taken, run-after, reached-after}
use Rattle.asking_back.proofs.asking.first_frame.Goals as goal

module _ (N : ℕ) (w : 0 < half_width N) (low : List ℤ) (h : low ≡ zeros (half_width N)) where
  begun : ReachedBack N 0 (pos 0) low
  begun = subst (ReachedBack N 0 (pos 0)) (sym h) (back-first N w)

  started-is : (started N).1 ≡ opened N 0 (pos 0) low
  started-is = started-back N w ∙ ap (opened N 0 (pos 0)) (sym h)

  -- the frame undone, with any output
  module _ (frame kept out block : List ℤ) (answer : Answer) (l : length frame ≡ N) (k : length kept ≡ length low)
      (e : (told answer, record_then N 0 (pos 0) answer kept block, block) ≡ undone_in (opened N 0 (pos 0) low) frame out) where
    kept-long : length kept ≡ half_width N
    kept-long = k ∙ begun.long

    given : ◌≡◌ {A = CallResult} (taken_back (started N).1 frame (zeros N)) (told answer, record_then N 0 (pos 0) answer kept block, (taken_back (opened N 0 (pos 0) low) frame (zeros N)).2)
    given =
        ap (λ (r : Run). taken_back r frame (zeros N)) started-is
        ∙ frame-taken N 0 (pos 0) low kept frame out block answer begun (omega arith) kept-long e (zeros N) l (length-replicate N (pos 0))

    held-then : (taken_back (started N).1 frame (zeros N)).0.0 ≡ 0 → (opened N 1 (pos 0) kept ≡ (taken_back (started N).1 frame (zeros N)).1) × Within folded_limit kept
    held-then z =
        let none : (told answer).0 ≡ 0 = sym (ap (λ (g : CallResult). g.0.0) given) ∙ z in (
          sym
              (ap (λ (g : CallResult). g.1) given
              ∙ run-after N 0 (pos 0) low kept frame out block answer begun (omega arith) kept-long e none
              ∙ ap (λ (t : ℤ). opened N 1 t kept) (first-total block)),
          low-within (reached-after N 0 (pos 0) low kept frame out block answer begun (omega arith) kept-long e none),
        )

pub slice_bounds-block-end : goal.slice_bounds-block-end
slice_bounds-block-end c = block_in c.args.t.now.width c.args.t.now.known c.zero_block-block.result c.zero_block-block.ensures

pub slice_bounds-undo-end : goal.slice_bounds-undo-end
slice_bounds-undo-end c = part-long _ c.zero_block-block.result (block_in c.args.t.now.width c.args.t.now.known c.zero_block-block.result c.zero_block-block.ensures)

pub undo-requires : goal.undo-requires
undo-requires c =
    let N = c.args.t.now.width in
    let b = begun N c.args.t.now.known c.args.held.now c.requires.frame_len.1 in
    record {
      frame_len = (c.requires.frame_len.0, b.long, sym (part-long _ c.zero_block-block.result (block_in N c.args.t.now.known c.zero_block-block.result c.zero_block-block.ensures)));
      wide_room = c.requires.wide_room;
      within = low-within b;
    }

pub returns : goal.returns
returns c = held-then c.args.t.now.width c.args.t.now.known c.args.held.now c.requires.frame_len.1 c.args.frame.now c.undo.new.held _ c.undo.new.block c.undo.result c.requires.frame_len.0 c.undo.auto.held (c.undo.ensures (pos 0))
