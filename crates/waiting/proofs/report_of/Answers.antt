-- `waiting::report_of` meets its contract: the refusals in their order, then the tally of the log.
use mathlib.Core.Path.{◌≡◌, refl, sym, subst, ◌∙◌}
use native.Mathlib.Omega.{arith}
use Rattle.rules.specs.Refusals.{done}
use Rattle.notice.specs.Log.{Bytes}
use Rattle.story.specs.declared.Title.{Title}
use Rattle.admissions.specs.Stretches.{Playing}
use Rattle.waiting.specs.inner.Steps.{row_answer}
use Rattle.waiting.proofs.Answers.{Fits, passes, refused_first, not_whole, is_whole}
use Rattle.waiting.proofs.Telling.{reports_refusal, played_ready, reports_waits}
use borrow.Author.Rules.{rules}
use Rattle.waiting.proofs.report_of.Tie as tie
use Rattle.waiting.proofs.report_of.Lts as lts
use Rattle.waiting.proofs.report_of.Reads as reads
use Rattle.waiting.proofs.report_of.Goals as goal

none_first : (c : lts.After-play tie.the-claims reads.Pre reads.Post tie.handed_clauses) → row_answer c.args.pool c.args.title c.args.arrivals.now ≡ done
none_first c = sym c.refusal-answer.ensures ∙ c.if-answer-ne-DONE.false

fit : (c : lts.After-play tie.the-claims reads.Pre reads.Post tie.handed_clauses) → Fits c.args.pool c.args.title c.args.arrivals.now
fit c = passes _ _ _ (none_first c)

bytes : (c : lts.After-play tie.the-claims reads.Pre reads.Post tie.handed_clauses) → Bytes c.args.log.now
bytes c = let known = c in λ j. omega (arith, known.shared_slice_known-1.given j)

pub returns-then-answer-ne-DONE : goal.returns-then-answer-ne-DONE
returns-then-answer-ne-DONE c =
    let tested = c in
    let is = tested.refusal-answer.ensures in
    reports_refusal _ _ _ _ _ _ c.refused.ensures (is ∙ refused_first _ _ _ _ (λ h. c.if-answer-ne-DONE.true (is ∙ h))) c.if-answer-ne-DONE.true

pub play-counted-requires : goal.play-counted-requires
play-counted-requires c = let fit = passes _ _ _ (sym c.refusal-answer.ensures ∙ c.if-answer-ne-DONE.false) in
    record { row_len = refl; pool_value = fit.pool_in_holds; title_le_id_max = fit.id; arrivals_len_bound = fit.short }

pub returns-then-played-log : goal.returns-then-played-log
returns-then-played-log c =
    let at-play = c in
    reports_refusal _ _ _ _ _ _ c.refused-then-played-log.ensures (not_whole _ _ _ _ (none_first at-play.before.before.before.before.before.before) _ at-play.play-counted.ensures.place_is c.if-played-log.true) (λ h. omega arith)

pub title_at-t-requires : goal.title_at-t-requires
title_at-t-requires c = (search rules, (fit c.before.before.before.before.before.before.before).id)

pub endless-waits-requires : goal.endless-waits-requires
endless-waits-requires c = let at-play = c in
    let ready = played_ready _ _ _ _ _ _ _ at-play.play-counted.ensures (fit at-play.before.before.before.before.before.before.before.before) (bytes at-play.before.before.before.before.before.before.before.before) in
    record { playing = subst (λ (t : Title). t.mode ≡ 1 → Playing t) (sym c.title_at-t.ensures) ready.playing; few = ready.few }

pub returns : goal.returns
returns c =
    let at-play = c in
    let whole = is_whole _ _ _ _ (none_first at-play.before.before.before.before.before.before.before.before.before) _ at-play.play-counted.ensures.place_is c.if-played-log.false in
    reports_waits _ _ _ _ _ _ _ at-play.play-counted.ensures (fit at-play.before.before.before.before.before.before.before.before.before) (bytes at-play.before.before.before.before.before.before.before.before.before) _ _ whole c.title_at-t.ensures c.endless-waits.ensures
