-- `marks::notices::put_kind` meets its contract: by the kind, its parts one behind the other.
use Rattle.text.specs.Texts.{text}
use Rattle.text.proofs.Pages.{then}
use Rattle.marks.specs.Notices.{act_label}
use Rattle.marks.proofs.notices.put_kind.Goals as goal

pub returns-in-Open : goal.returns-in-Open
unfolding act_label text
returns-in-Open c = rw c.in-Open.is (then c.put.ensures c.put_number.ensures)

pub returns-in-Change : goal.returns-in-Change
unfolding act_label text
returns-in-Change c = rw c.in-Change.is (then c.put-in-Change.ensures c.put_number-in-Change.ensures)

pub returns-in-Close : goal.returns-in-Close
unfolding act_label text
returns-in-Close c = rw c.in-Close.is c.put-in-Close.ensures

pub returns-in-Hold : goal.returns-in-Hold
unfolding act_label text
returns-in-Hold c = rw c.in-Hold.is c.put-in-Hold.ensures

pub returns-in-Lift : goal.returns-in-Lift
unfolding act_label text
returns-in-Lift c = rw c.in-Lift.is c.put-in-Lift.ensures

pub returns-in-Skip : goal.returns-in-Skip
unfolding act_label text
returns-in-Skip c = rw c.in-Skip.is (then c.put-in-Skip.ensures c.put_number-in-Skip.ensures)
