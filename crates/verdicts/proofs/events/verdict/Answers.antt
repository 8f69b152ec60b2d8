-- `verdict` meets its contract: the numbers, the clock, and then what the title decides.
use Rattle.std.proofs.Common.{◌≡◌, ap, sym, ◌∙◌, true}
use borrow.Author.Tests.{lt-ltb, le-ltb}
use Rattle.rules.specs.Limits.{both}
use Rattle.rules.specs.Refusals.{first_hit}
use Rattle.rules.proofs.Tests.{both_l}
use Rattle.story.specs.declared.Title.{Title}
use Rattle.story.specs.Story.{act_limits}
use Rattle.story.specs.Calls.{event_ok}
use Rattle.title_verdicts.specs.Titled.{title_rules}
use Rattle.verdicts.proofs.Event.{out_by_numbers, out_by_clock, out_by_title, event_id, event_title}
use Rattle.verdicts.proofs.events.verdict.Goals as goal

pub returns-then-not-numbers_ok : goal.returns-then-not-numbers_ok
returns-then-not-numbers_ok c =
    let a = c.args in
    out_by_numbers a.s a.e.title a.e.time a.e.act (sym c.numbers_ok.ensures ∙ c.if-not-numbers_ok.true)

pub returns-then-e-s : goal.returns-then-e-s
returns-then-e-s c =
    let a = c.args in
    out_by_clock a.s a.e.title a.e.time a.e.act (sym c.numbers_ok.ensures ∙ c.if-not-numbers_ok.false) (lt-ltb _ _ c.if-e-s.true)

pub title_of-requires : goal.title_of-requires
title_of-requires c =
    let a = c.args in
    event_id a.s a.e.title a.e.time (both_l _ _ (sym c.numbers_ok.ensures ∙ c.if-not-numbers_ok.false))

pub title_verdict-requires : goal.title_verdict-requires
title_verdict-requires c =
    let a = c.args in
    rw c.title_of.ensures (event_title a.s a.e.title a.e.time (both_l _ _ (sym c.numbers_ok.ensures ∙ c.if-not-numbers_ok.false)))

pub returns : goal.returns
returns c =
    let a = c.args in
    c.title_verdict.ensures
    ∙ ap (λ (t : Title). first_hit (title_rules t a.e.time a.e.act)) c.title_of.ensures
    ∙ out_by_title a.s a.e.title a.e.time a.e.act (sym c.numbers_ok.ensures ∙ c.if-not-numbers_ok.false) (le-ltb _ _ c.if-e-s.false)
