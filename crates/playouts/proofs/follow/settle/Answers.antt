-- `playouts::follow::settle` meets its contract, by whether the title was open, and of the opening asked for.
use mathlib.Core.Logic.{⊎_elim}
use Rattle.playouts.proofs.Settled.{settled_own, settled_other, settled_opening}
use Rattle.playouts.proofs.follow.settle.Goals as goal

pub tick_at-requires : goal.tick_at-requires
tick_at-requires c = (c.requires.sending c.if-t-eq-OPEN.true).owing.film

pub fill_to-requires : goal.fill_to-requires
fill_to-requires c = record { sending = c.requires.sending c.if-t-eq-OPEN.true; row_to_fill = c.requires.row_to_fill }

pub returns-then-t-opening : goal.returns-then-t-opening
returns-then-t-opening c =
    settled_own _ _ _ _ _ _ _ c.if-t-eq-OPEN.true c.if-t-opening.true c.tick_at.ensures.is c.fill_to.ensures

pub returns-else-t-eq-OPEN : goal.returns-else-t-eq-OPEN
returns-else-t-eq-OPEN c =
    let x = c.args in
    ⊎_elim (λ a. settled_other _ _ _ _ _ a.0 a.1) (λ a. settled_opening x.opening x.from x.t x.time x.numbers.now a) c.else-t-eq-OPEN.either
