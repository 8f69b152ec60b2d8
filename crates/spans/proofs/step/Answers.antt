-- `spans::step` meets its contract: by whether an event was accepted.
use mathlib.Core.Logic.{⊎_elim}
use native.Mathlib.Omega.{arith}
use Rattle.spans.proofs.Widened.{counts_all, counts_late, counts_refused, counts_none, steps_widened, steps_still}
use Rattle.spans.proofs.step.Goals as goal

pub title_at-t-requires : goal.title_at-t-requires
title_at-t-requires c = (c.read_on-read.ensures.row_read.is_row.long, omega arith)

pub returns-then-read-le-ID_MAX : goal.returns-then-read-le-ID_MAX
returns-then-read-le-ID_MAX c =
    steps_widened _ _ _ _ _ _ c.read_on-read.ensures
    (counts_all c.read_on-read.result (c.if-next.true, c.if-read-eq-DONE.true, c.if-read-le-ID_MAX.true))
    _ _ c.title_at-t.ensures c.widen.ensures

pub returns : goal.returns
returns c =
    let o = c.read_on-read.result in
    steps_still _ _ _ _ _ _ c.read_on-read.ensures
    (⊎_elim (counts_late o) (⊎_elim (counts_refused o) (counts_none o)) c.else-next.either)
