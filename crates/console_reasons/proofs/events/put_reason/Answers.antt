-- `console_reasons::events::put_reason` meets its contract: each answer has its own words, and any other none.
use borrow.Author.Tests.{eq-eqb, ne_eqb}
use Rattle.console_reasons.specs.Events.{reason_text}
use Rattle.text.proofs.Pages.{nothing}
use Rattle.console_reasons.proofs.events.put_reason.Goals as goal

pub returns-then-answer-eq-OUTSIDE_LIMITS : goal.returns-then-answer-eq-OUTSIDE_LIMITS
unfolding reason_text
returns-then-answer-eq-OUTSIDE_LIMITS c = rw (eq-eqb _ _ c.if-answer-eq-OUTSIDE_LIMITS.true) c.put_event_out.ensures

pub returns-then-answer-eq-TOO_EARLY : goal.returns-then-answer-eq-TOO_EARLY
unfolding reason_text
returns-then-answer-eq-TOO_EARLY c = rw (ne_eqb _ _ c.if-answer-eq-OUTSIDE_LIMITS.false, eq-eqb _ _ c.if-answer-eq-TOO_EARLY.true) c.put_last.ensures

pub returns-then-answer-eq-NOT_THERE : goal.returns-then-answer-eq-NOT_THERE
unfolding reason_text
returns-then-answer-eq-NOT_THERE c = rw (
  ne_eqb _ _ c.if-answer-eq-OUTSIDE_LIMITS.false,
  ne_eqb _ _ c.if-answer-eq-TOO_EARLY.false,
  eq-eqb _ _ c.if-answer-eq-NOT_THERE.true,
  ← c.presence.ensures,
) c.put_missing.ensures

pub returns-then-answer-eq-ID_TAKEN : goal.returns-then-answer-eq-ID_TAKEN
unfolding reason_text
returns-then-answer-eq-ID_TAKEN c = rw (
  ne_eqb _ _ c.if-answer-eq-OUTSIDE_LIMITS.false,
  ne_eqb _ _ c.if-answer-eq-TOO_EARLY.false,
  ne_eqb _ _ c.if-answer-eq-NOT_THERE.false,
  eq-eqb _ _ c.if-answer-eq-ID_TAKEN.true,
) c.put_taken.ensures

pub returns-then-answer-eq-NOT_AT_SLOT : goal.returns-then-answer-eq-NOT_AT_SLOT
unfolding reason_text
returns-then-answer-eq-NOT_AT_SLOT c = rw (
  ne_eqb _ _ c.if-answer-eq-OUTSIDE_LIMITS.false,
  ne_eqb _ _ c.if-answer-eq-TOO_EARLY.false,
  ne_eqb _ _ c.if-answer-eq-NOT_THERE.false,
  ne_eqb _ _ c.if-answer-eq-ID_TAKEN.false,
  eq-eqb _ _ c.if-answer-eq-NOT_AT_SLOT.true,
) c.put_start.ensures

pub returns-then-answer-eq-NO_LANES : goal.returns-then-answer-eq-NO_LANES
unfolding reason_text
returns-then-answer-eq-NO_LANES c = rw (
  ne_eqb _ _ c.if-answer-eq-OUTSIDE_LIMITS.false,
  ne_eqb _ _ c.if-answer-eq-TOO_EARLY.false,
  ne_eqb _ _ c.if-answer-eq-NOT_THERE.false,
  ne_eqb _ _ c.if-answer-eq-ID_TAKEN.false,
  ne_eqb _ _ c.if-answer-eq-NOT_AT_SLOT.false,
  eq-eqb _ _ c.if-answer-eq-NO_LANES.true,
) c.put_room.ensures

pub returns-else-answer-eq-NO_LANES : goal.returns-else-answer-eq-NO_LANES
unfolding reason_text
returns-else-answer-eq-NO_LANES c = rw (
  ne_eqb _ _ c.if-answer-eq-OUTSIDE_LIMITS.false,
  ne_eqb _ _ c.if-answer-eq-TOO_EARLY.false,
  ne_eqb _ _ c.if-answer-eq-NOT_THERE.false,
  ne_eqb _ _ c.if-answer-eq-ID_TAKEN.false,
  ne_eqb _ _ c.if-answer-eq-NOT_AT_SLOT.false,
  ne_eqb _ _ c.if-answer-eq-NO_LANES.false,
) nothing
