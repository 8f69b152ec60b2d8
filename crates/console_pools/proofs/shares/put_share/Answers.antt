-- `console_pools::shares::put_share` meets its contract: the sharing of the four columns of the line.
use native.Mathlib.Omega.{arith}
use lib.ListN.{length-take}
use Rattle.console_pools.specs.Shares.{share_in}
use Rattle.console_answers.proofs.Rows.{counted}
use Rattle.console_commands.specs.Commands.{titles_most}
use Rattle.console_pools.proofs.shares.put_share.Goals as goal

pub slice_bounds-put_rows-end : goal.slice_bounds-put_rows-end
slice_bounds-put_rows-end c =
    rw length-take (omega (arith, c.titles_of-n.ensures.1, c.well_formed.1.1.0))

pub slice_bounds-put_rows-end-2 : goal.slice_bounds-put_rows-end-2
slice_bounds-put_rows-end-2 c =
    counted _ titles_most c.column-rates.result c.column-rates.ensures.1
    c.titles_of-n.ensures.1

pub slice_bounds-put_rows-end-3 : goal.slice_bounds-put_rows-end-3
slice_bounds-put_rows-end-3 c =
    counted _ titles_most c.column-lengths.result c.column-lengths.ensures.1
    c.titles_of-n.ensures.1

pub slice_bounds-put_rows-end-4 : goal.slice_bounds-put_rows-end-4
slice_bounds-put_rows-end-4 c =
    counted _ titles_most c.column-floors.result c.column-floors.ensures.1
    c.titles_of-n.ensures.1

pub slice_bounds-put_rows-end-5 : goal.slice_bounds-put_rows-end-5
slice_bounds-put_rows-end-5 c =
    counted _ titles_most c.column-caps.result c.column-caps.ensures.1
    c.titles_of-n.ensures.1

pub slice_bounds-put_rows-end-6 : goal.slice_bounds-put_rows-end-6
slice_bounds-put_rows-end-6 c =
    rw length-take (omega (arith, c.titles_of-n.ensures.1))

pub returns : goal.returns
unfolding share_in
returns c =
    rw (
      ← c.titles_of-n.ensures.0,
      ← c.column-rates.ensures.0,
      ← c.column-lengths.ensures.0,
      ← c.column-floors.ensures.0,
      ← c.column-caps.ensures.0,
    )
    c.put_rows.ensures
