-- `playouts::cells::number_in` meets its contract: the cell of a lane that is held, which has few bits.
use Rattle.playouts.proofs.Numbers.{few_bits, number_held, number_none, number_beyond}
use Rattle.playouts.proofs.cells.number_in.Goals.{else-lane-film-via-then-lane-film+else-is_held, else-lane-film-via-else-lane-film}
use Rattle.playouts.proofs.cells.number_in.Goals as goal

pub overflow_cast-result : goal.overflow_cast-result
overflow_cast-result c =
    let cap = c.requires.sending.owing.film.cut.high in
    record { fits = few_bits _ _ cap c.lane_cell.ensures.within }

pub returns-then-is_held : goal.returns-then-is_held
returns-then-is_held c =
    number_held c.args.t _ _ _ _ _ c.if-lane-film.true c.is_held.ensures c.if-is_held.true c.shown_tick-shown.ensures.is c.lane_cell.ensures.is

pub returns : goal.returns
returns c =
    let x = c.args in
    elim c.else-lane-film.branch [
      | else-lane-film-via-then-lane-film+else-is_held w ↦ number_none x.t _ _ _ w.if-lane-film.true w.is_held.ensures w.if-is_held.false
      | else-lane-film-via-else-lane-film w ↦ number_beyond x.t _ _ w.if-lane-film.false
    ]
