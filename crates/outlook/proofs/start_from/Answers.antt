-- `start_from` meets its contract: the first time that the title's rules permit, or past the clock.
use mathlib.Core.Path.{◌≡◌, ap, sym, ◌∙◌}
use mathlib.Core.Bool.{true}
use native.Mathlib.Omega.{arith}
use Rattle.story.specs.declared.Title.{Title}
use Rattle.story.specs.Kept.{absent_mode, title_at}
use Rattle.story.specs.Calls.{event_ok}
use Rattle.verdicts.proofs.Event.{event_id, event_title}
use Rattle.outlook.proofs.Starting.{start_outside, start_absent, start_found}
use Rattle.outlook.proofs.Freed.{on_clock}
use Rattle.outlook.proofs.start_from.Tie as tie
use Rattle.outlook.proofs.start_from.Lts as lts
use Rattle.outlook.proofs.start_from.Reads as reads
use Rattle.outlook.proofs.start_from.Goals as goal

-- past the first test the numbers are within their limits
fits : (c : lts.Then1 tie.the-claims reads.Pre reads.Post tie.handed_clauses) → let a = c.args in event_ok a.s a.e.title a.e.time ≡ true
fits c = sym c.event_ok.ensures ∙ c.if-event_ok.true

pub title_of-t-requires : goal.title_of-t-requires
title_of-t-requires c = let a = c.args in event_id a.s a.e.title a.e.time (fits c)

pub returns-then-t-eq-ABSENT : goal.returns-then-t-eq-ABSENT
returns-then-t-eq-ABSENT c =
    let at-title = c in
    let a = at-title.args in
    start_absent a.s a.e (fits at-title.before.before.before) (sym (ap (λ (t : Title). t.mode) at-title.title_of-t.ensures) ∙ c.if-t-eq-ABSENT.true)

pub allowed_from-requires : goal.allowed_from-requires
allowed_from-requires c = let at-title = c in
    let a = at-title.args in
    let ok = fits at-title.before.before.before in
    record { t_value = (rw at-title.title_of-t.ensures (event_title a.s a.e.title a.e.time ok), c.if-t-eq-ABSENT.false); from_le_event_time_max = on_clock a.s a.e.title a.e.time ok }

pub returns-then-event_ok : goal.returns-then-event_ok
returns-then-event_ok c =
    let at-title = c in
    let a = at-title.args in
    let ok = fits at-title.before.before.before.before.before in
    let there : (title_at a.s a.e.title).mode ≡ absent_mode → ⊥ =
    λ none. c.if-t-eq-ABSENT.false (ap (λ (t : Title). t.mode) at-title.title_of-t.ensures ∙ none) in
    c.min.ensures
    ∙ start_found a.s a.e ok there (omega (arith, on_clock a.s a.e.title a.e.time ok)) at-title.title_of-t.ensures
    c.allowed_from.ensures

pub returns : goal.returns
returns c =
    let a = c.args in
    start_outside a.s a.e (sym c.event_ok.ensures ∙ c.if-event_ok.false)
