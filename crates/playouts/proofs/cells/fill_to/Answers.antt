-- `playouts::cells::fill_to` meets its contract: the ticks passed are filled in, place by place.
use mathlib.Core.Path.{refl, ◌∙◌}
use native.Mathlib.Nat.{le_antisymm}
use native.Mathlib.Omega.{arith}
use lib.ListN.{length-set}
use Rattle.playouts.specs.inner.Steps.{laid_from}
use Rattle.playouts.proofs.Laid.{laid_next_lem, sub_zero, to_end}
use Rattle.playouts.proofs.cells.fill_to.Goals as goal

pub loop-j-init : goal.loop-j-init
unfolding laid_from
loop-j-init c = (omega arith, rw (sub_zero _ _ refl) refl, refl)

pub number_in-requires : goal.number_in-requires
number_in-requires c =
    record { sending = c.requires.sending; tick_le_tick_max = omega (arith, c.requires.row_to_fill.soon, c.requires.row_to_fill.short, c.min-end.ensures, c.loop-j-test.true) }

pub loop-j-preserved : goal.loop-j-preserved
loop-j-preserved c =
    let l = c.loop-j in (
      omega arith,
      laid_next_lem _ _ _ l.numbers l.j c.number_in.result l.auto.j l.invariant.1 c.number_in.ensures,
      length-set l.numbers l.j c.number_in.result ∙ l.invariant.2,
    )

pub shape_of-numbers : goal.shape_of-numbers
shape_of-numbers c = c.loop-j.invariant.2

pub returns : goal.returns
returns c =
    let l = c.loop-j in
    let all = le_antisymm l.invariant.0 (omega arith) in
    to_end c.args.t c.args.from c.args.upto c.args.numbers.now _ _ _ _ _ _ c.place_from-j.ensures.is c.tick_at.ensures.is
    c.min-end.ensures c.place_from.ensures.is all l.invariant.1
