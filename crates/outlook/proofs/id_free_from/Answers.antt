-- `id_free_from` meets its contract: never for an open title, at once for none, else once the title has gone.
use mathlib.Core.Path.{◌≡◌, sym, ◌∙◌}
use mathlib.Core.Bool.{true}
use native.Mathlib.Omega.{arith}
use Rattle.story.specs.Calls.{event_ok}
use Rattle.moments.proofs.Due.{timed}
use Rattle.verdicts.proofs.Event.{event_id, event_title}
use Rattle.outlook.proofs.Freed.{free_outside, free_open, free_absent, free_gone, on_clock}
use Rattle.outlook.proofs.id_free_from.Tie as tie
use Rattle.outlook.proofs.id_free_from.Lts as lts
use Rattle.outlook.proofs.id_free_from.Reads as reads
use Rattle.outlook.proofs.id_free_from.Goals as goal

-- past the first test the numbers are within their limits
fits : (c : lts.Then1 tie.the-claims reads.Pre reads.Post tie.handed_clauses) → let a = c.args in event_ok a.s a.id a.time ≡ true
fits c = sym c.event_ok.ensures ∙ c.if-event_ok.true

pub title_of-t-requires : goal.title_of-t-requires
title_of-t-requires c = let a = c.args in event_id a.s a.id a.time (fits c)

pub returns-then-t-eq-OPEN : goal.returns-then-t-eq-OPEN
returns-then-t-eq-OPEN c =
    let at-title = c in
    let a = at-title.args in
    let ok = fits at-title.before.before.before in
    free_open a.s a.id a.time ok (omega (arith, on_clock a.s a.id a.time ok)) at-title.title_of-t.result at-title.title_of-t.ensures
    c.if-t-eq-OPEN.true

pub returns-then-t-eq-ABSENT : goal.returns-then-t-eq-ABSENT
returns-then-t-eq-ABSENT c =
    let at-title = c in
    let a = at-title.args in
    let ok = fits at-title.before.before.before.before.before in
    free_absent a.s a.id a.time ok (omega (arith, on_clock a.s a.id a.time ok)) at-title.title_of-t.result at-title.title_of-t.ensures
    c.if-t-eq-ABSENT.true

pub gone_from-requires : goal.gone_from-requires
gone_from-requires c = let at-title = c in
    let a = at-title.args in
    let ok = fits at-title.before.before.before.before.before in
    let t = at-title.title_of-t in
    record { timed = timed t.result (rw t.ensures (event_title a.s a.id a.time ok)) c.if-t-eq-ABSENT.false; from_bound = omega (arith, on_clock a.s a.id a.time ok) }

pub returns-then-event_ok : goal.returns-then-event_ok
returns-then-event_ok c =
    let at-title = c in
    let a = at-title.args in
    let ok = fits at-title.before.before.before.before.before.before in
    free_gone a.s a.id a.time ok (omega (arith, on_clock a.s a.id a.time ok)) at-title.title_of-t.result at-title.title_of-t.ensures
    c.if-t-eq-OPEN.false c.gone_from.ensures

pub returns : goal.returns
returns c =
    let a = c.args in
    free_outside a.s a.id a.time (sym c.event_ok.ensures ∙ c.if-event_ok.false)
