-- `marks::notices::put_notice` meets its contract: its parts are written one behind the other.
use Rattle.text.specs.Texts.{text}
use Rattle.text.proofs.Pages.{then}
use Rattle.marks.specs.Notices.{notice_hover}
use Rattle.marks.proofs.notices.put_notice.Goals as goal

pub returns : goal.returns
unfolding text notice_hover
returns c =
    then (then (then (then (then (then (then (then (then c.put.ensures c.put_number.ensures) c.put-2.ensures) c.put_number-2.ensures) c.put-3.ensures)
    c.put_kind.ensures) c.put-4.ensures) c.put_clock.ensures) c.put-5.ensures) c.put_meaning.ensures
