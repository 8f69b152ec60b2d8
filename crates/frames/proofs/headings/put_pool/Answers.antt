-- `frames::headings::put_pool` meets its contract: its parts are written one behind the other.
use Rattle.text.specs.Texts.{text}
use Rattle.text.proofs.Pages.{then}
use Rattle.frames.specs.Headings.{pool_lines}
use Rattle.frames.proofs.headings.put_pool.Goals as goal

pub returns : goal.returns
unfolding text pool_lines
returns c =
    rw (← c.height-top.ensures)
    (then (then (then (then (then (then (then (then c.put_across.ensures c.put_across-2.ensures) c.put_label.ensures) c.put.ensures)
    c.put_label_end.ensures) c.put_label-2.ensures) c.put-2.ensures) c.put_number.ensures) c.put_label_end-2.ensures)
