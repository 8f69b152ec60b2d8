-- `marks::lives::put_film` meets its contract: its parts are written one behind the other.
use Rattle.text.specs.Texts.{text}
use Rattle.text.proofs.Pages.{then}
use Rattle.marks.specs.Marks.{film_label}
use Rattle.marks.proofs.lives.put_film.Goals as goal

pub returns : goal.returns
unfolding text film_label
returns c =
    then (then (then (then (then c.put_label.ensures c.put.ensures) c.put_number.ensures) c.put_sort.ensures) c.put_clock.ensures) c.put_label_end.ensures
