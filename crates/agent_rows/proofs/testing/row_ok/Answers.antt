-- `row_ok` meets its contract: the head of the row, and then its titles in two parts.
use mathlib.Core.Path.{sym, ◌∙◌}
use lib.Dec.{leb}
use lib.ListN.{get_or}
use Rattle.rules.specs.Limits.{both, pool_max, asked_max}
use Rattle.agent_rows.specs.Layout.{pool_at, last_at}
use Rattle.agent_rows.specs.Packed.{row_sound}
use Rattle.agent_rows.proofs.Tested.{state_in_parts, head_in, head_out, smalls, times}
use Rattle.agent_rows.proofs.testing.row_ok.Goals as goal

pub returns-then-head_ok : goal.returns-then-head_ok
returns-then-head_ok c =
    let r = c.args.row.now in
    rw (state_in_parts r)
    (c.titles_ok.ensures
    ∙ head_in (row_sound r) (leb (get_or r pool_at 0) pool_max) (leb (get_or r last_at 0) asked_max) (smalls r) (times r)
    (sym c.head_ok.ensures ∙ c.if-head_ok.true))

pub returns-else-head_ok : goal.returns-else-head_ok
returns-else-head_ok c =
    let r = c.args.row.now in
    rw (state_in_parts r)
    (c.if-head_ok.false
    ∙ head_out (row_sound r) (leb (get_or r pool_at 0) pool_max) (leb (get_or r last_at 0) asked_max) (both (smalls r) (times r))
    (sym c.head_ok.ensures ∙ c.if-head_ok.false))
