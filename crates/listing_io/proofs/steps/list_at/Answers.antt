-- `listing_io::steps::list_at` meets its contract, by what its reader finds at the place.
use mathlib.Core.Path.{sym, ◌∙◌}
use Rattle.listing_io.proofs.Stepping.{end_step, last_step, found_step, notice_at}
use Rattle.listing_io.proofs.steps.list_at.Goals as goal

pub returns-in-At : goal.returns-in-At
returns-in-At c =
    let found = c in
    let is = sym found.next_in-found.ensures.is ∙ found.in-At.is in
    notice_at _ _ _ _ _ _ _ _ is c.list_notice.ensures

pub returns-in-End : goal.returns-in-End
returns-in-End c =
    found_step _ _ _ _ _ _ _ (sym c.next_in-found.ensures.is ∙ c.in-End.is) (end_step _ _ _)

pub returns-in-Malformed : goal.returns-in-Malformed
returns-in-Malformed c =
    let told = c in
    found_step _ _ _ _ _ _ _ (sym told.next_in-found.ensures.is ∙ told.in-Malformed.is)
    (last_step _ _ _ _ _ _ c.held_after.ensures c.put_last-size.ensures)
