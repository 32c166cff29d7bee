use Rattle.std.proofs.Common.{◌≡◌, ℕ, ◌+◌, ◌*◌, ◌/◌, ◌%◌, ◌∙◌, arith, ap, ap₂, length, get_or, pos, w64}
use Rattle.integers.proofs.Held.{held-ok}
use Rattle.integers.proofs.Fills.{filling-none, filling-next, filling-all}
use Rattle.tables.specs.Angles.{signed}
use Rattle.tables.specs.Numbers.{secants}
use Rattle.tables.proofs.ByWidth.{half-width-le}
use Rattle.tables.proofs.Reading.{half_is}
use Rattle.tables.proofs.Sizes.{secants-le}
use Rattle.constants.proofs.TableLaws.{secants-read, secant-place, secant-odd}
use Rattle.constants.proofs.secants.secants.Goals as goal

odd : (k : ℕ) → (2 * k + 1) % 2 ≡ 1
odd k = omega arith

pub overflow_cast-quarter : goal.overflow_cast-quarter
overflow_cast-quarter c = record { fits = omega (arith, half_is c.args.width c.requires.0, half-width-le c.args.width) }

pub loop-k-init : goal.loop-k-init
loop-k-init c = filling-none _ _

pub first_quadrant-folded-requires : goal.first_quadrant-folded-requires
first_quadrant-folded-requires c =
    let e = half_is c.args.width c.requires.0 in
    (omega (arith, e, c.requires.0), omega (arith, e, half-width-le c.args.width))

pub bounds-table-at : goal.bounds-table-at
bounds-table-at c =
    omega (arith, c.from-at.ensures, c.first_quadrant-folded.ensures.0, secant-place c.args.width _ c.requires.0 (odd c.loop-k.k), ap length c.table_of-table.ensures)

pub signed-requires : goal.signed-requires
signed-requires c =
    rw (secants-read c.args.width c.from-at.result _ c.table_of-table.ensures) (omega (arith, secants-le c.args.width c.from-at.result))

pub loop-k-preserved : goal.loop-k-preserved
loop-k-preserved c =
    filling-next c.loop-k.invariant
    ((held-ok w64 c.signed.result c.signed.type_inv).is ∙ c.signed.ensures
    ∙ ap₂ signed c.first_quadrant-folded.ensures.1
    (secants-read c.args.width c.from-at.result _ c.table_of-table.ensures
    ∙ ap (λ i. pos (get_or (secants c.args.width) i 0)) (c.from-at.ensures ∙ ap (λ a. a / 2) c.first_quadrant-folded.ensures.0))
    ∙ secant-odd c.args.width _ c.requires.0 (odd c.loop-k.k))

pub returns : goal.returns
returns c = filling-all c.loop-k.invariant (omega arith)
