-- `console_views::titles::put_pool` meets its contract: its parts are written one behind the other.
use Rattle.text.specs.Texts.{text}
use Rattle.text.proofs.Pages.{then}
use Rattle.measures.proofs.Within.{all_readable}
use Rattle.console_views.specs.Titles.{pool_text}
use Rattle.console_views.proofs.titles.put_pool.Goals as goal

pub titles_there-requires : goal.titles_there-requires
titles_there-requires c = c.requires

pub lanes_held-requires : goal.lanes_held-requires
lanes_held-requires c = all_readable c.args.s c.requires

pub returns : goal.returns
unfolding pool_text text
returns c =
    rw (← c.titles_there.ensures, ← c.lanes_held.ensures)
    (then
    (then
    (then (then (then (then c.put.ensures c.put_number.ensures) c.put-2.ensures) c.put_number-2.ensures) c.put-3.ensures)
    c.put_number-3.ensures)
    c.put-4.ensures)
