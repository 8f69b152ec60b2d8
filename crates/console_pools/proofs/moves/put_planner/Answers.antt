-- `console_pools::moves::put_planner` meets its contract: the list that the line asks for, by its time, room and rates.
use mathlib.Core.Path.{refl}
use native.Mathlib.Omega.{arith}
use lib.ListN.{length-take, replicate}
use Rattle.console_commands.specs.Commands.{titles_most, room_most}
use Rattle.console_pools.specs.Moves.{rates_in, planner_in}
use Rattle.console_answers.proofs.Rows.{counted}
use Rattle.console_pools.proofs.Listed.{lent}
use Rattle.console_pools.proofs.moves.put_planner.Goals as goal

pub slice_bounds-put_rows-end : goal.slice_bounds-put_rows-end
slice_bounds-put_rows-end c =
    rw length-take (omega (arith, c.rates_of-n.ensures.1))

pub slice_bounds-put_rows-end-2 : goal.slice_bounds-put_rows-end-2
slice_bounds-put_rows-end-2 c =
    counted _ titles_most c.column-rates.result c.column-rates.ensures.1 c.rates_of-n.ensures.1

pub slice_bounds-put_rows-end-3 : goal.slice_bounds-put_rows-end-3
slice_bounds-put_rows-end-3 c =
    rw length-take (omega (arith, c.room_for-room.ensures.1))

pub slice_bounds-put_rows-end-4 : goal.slice_bounds-put_rows-end-4
slice_bounds-put_rows-end-4 c =
    rw length-take (omega (arith, c.room_for-room.ensures.1))

pub slice_bounds-put_rows-end-5 : goal.slice_bounds-put_rows-end-5
slice_bounds-put_rows-end-5 c =
    rw length-take (omega (arith, c.room_for-room.ensures.1))

pub returns : goal.returns
unfolding planner_in rates_in
returns c =
    let whole = lent c.room_for-room.result room_most (replicate room_most 0) refl c.room_for-room.ensures.1 in
    rw (← c.rates_of-n.ensures.0, ← c.column-rates.ensures.0, ← c.room_for-room.ensures.0) (rw whole at c.put_rows.ensures)
