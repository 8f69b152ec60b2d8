-- `logs::read_on` meets its contract, by what the reader finds at the place.
use mathlib.Core.Logic.{⊎_elim}
use mathlib.Core.Path.{sym, ◌∙◌}
use Rattle.logs.proofs.Own.{reads_notice, reads_end, reads_none}
use Rattle.logs.proofs.read_on.Goals as goal

pub returns-in-At : goal.returns-in-At
returns-in-At c =
    let at-heed = c in
    let read = at-heed in
    reads_notice _ _ _ _ _ _ _ (sym read.next_in-found.ensures.is ∙ read.in-At.is) at-heed.heed_tested-answer.ensures

pub returns-in-End : goal.returns-in-End
returns-in-End c =
    let is = sym c.next_in-found.ensures.is in
    ⊎_elim
    (λ e. reads_end _ _ _ c.requires _ (is ∙ e) c.nothing_read.ensures)
    (λ e. reads_none _ _ _ c.requires _ (is ∙ e) c.nothing_read.ensures)
    c.in-End.is
