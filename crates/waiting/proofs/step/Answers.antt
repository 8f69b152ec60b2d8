-- `waiting::step` meets its contract, by whether the read was an accepted event of the title.
use mathlib.Core.Path.{◌≡◌}
use Rattle.logs.proofs.Own.{of_before, steps_own, steps_past}
use Rattle.admissions.specs.Stretches.{Playing}
use Rattle.waiting.proofs.step.Goals as goal

pub read_for-read-requires : goal.read_for-read-requires
read_for-read-requires c = let s = c in record { tested = s.requires.tested; title_le_id_max = s.requires.ready_to_tally.id }

pub count_event-requires : goal.count_event-requires
count_event-requires c = let at_read = c in
    let ready = at_read.requires.ready_to_tally in
    let met = at_read.read_for-read.ensures in
    record { playing = of_before (λ t. t.mode ≡ 1 → Playing t) _ _ _ _ _ _ met ready.playing; time_le_event_time_max = met.early c.if-read.true; few = ready.few }

pub returns-then-read : goal.returns-then-read
returns-then-read c =
    let at_read = c in
    steps_own _ _ _ _ _ _ _ _ at_read.read_for-read.ensures _ c.if-read.true c.count_event.ensures

pub returns : goal.returns
returns c = steps_past _ _ _ _ _ _ _ _ c.read_for-read.ensures c.if-read.false
