-- When an event is accepted (docs/CONSOLE.md, "Commands": when).
use Rattle.std.specs.Prelude.{ℕ, max, List, ◌++◌, eqb}
use Rattle.rules.specs.Refusals.{pick, not_there}
use Rattle.story.specs.declared.State.{State}
use Rattle.story.specs.declared.Event.{Event}
use Rattle.outlook.specs.Outlook.{when_answer, when_time, presence_of}
use Rattle.console_acts.specs.Named.{missed_by}
use Rattle.console_reasons.specs.Lanes.{missing_text}
use Rattle.console_reasons.specs.Events.{reason_text}
use Rattle.console_answers.specs.Outcomes.{value_text}

-- what stands behind the answer a: behind 3 what became of the title by the time from which on it is asked, which is no earlier than the
-- last event, and else what stands behind the event's own refusal
unfoldable pub when_reason : ℕ → State → Event → List ℕ
when_reason a s e =
    pick (eqb a not_there) (missing_text (presence_of s e.title (max e.time s.last))) (reason_text a s e)

-- the earliest time from its own on at which it is, or the refusal that no time mends, with the number that it names
unfoldable pub when_text : State → Event → List ℕ
when_text s e = value_text (when_answer s e) (when_time s e) (missed_by (when_answer s e) s e) ++ when_reason (when_answer s e) s e
