-- `listing_io::steps::list_notice` meets its contract: the agent hears the notice, and the line tells its answer.
use Rattle.listing_io.proofs.Stepping.{notice_step}
use Rattle.listing_io.proofs.steps.list_notice.Goals as goal

pub returns : goal.returns
returns c =
    let lined = c in
    let held = lined in
    let told = held in
    let start = told in
    notice_step _ _ _ _ start.args.n start.args.end _ _ _ _ told.heed-followed.ensures held.held_after-held.ensures
    lined.kind_number.ensures lined.put_line-size.ensures
