-- `waiting::reasons::never_opened` meets its contract: the refusals in their order, then the title as the log leaves it.
use mathlib.Core.Path.{◌≡◌, refl, sym, ap, ◌∙◌}
use mathlib.Core.List.{[]}
use native.Mathlib.Omega.{arith}
use Rattle.rules.specs.Refusals.{done, malformed}
use Rattle.notice.specs.Log.{Bytes}
use Rattle.story.specs.Kept.{title_at}
use Rattle.agent.specs.declared.Agent.{Agent}
use Rattle.waiting.specs.inner.Steps.{row_answer}
use Rattle.waiting.proofs.Answers.{Fits, passes, refused_first, not_whole, is_whole}
use Rattle.waiting.proofs.Unopened.{never_refused, never_standing}
use borrow.Author.Rules.{rules}
use Rattle.waiting.proofs.reasons.never_opened.Tie as tie
use Rattle.waiting.proofs.reasons.never_opened.Lts as lts
use Rattle.waiting.proofs.reasons.never_opened.Reads as reads
use Rattle.waiting.proofs.reasons.never_opened.Goals as goal

none_first : (c : lts.After-play tie.the-claims reads.Pre reads.Post tie.handed_clauses) → row_answer c.args.pool c.args.title [] ≡ done
none_first c = sym c.refusal-answer.ensures ∙ c.if-answer-ne-DONE.false

fit : (c : lts.After-play tie.the-claims reads.Pre reads.Post tie.handed_clauses) → Fits c.args.pool c.args.title []
fit c = passes _ _ _ (none_first c)

bytes : (c : lts.After-play tie.the-claims reads.Pre reads.Post tie.handed_clauses) → Bytes c.args.log.now
bytes c = let known = c in λ j. omega (arith, known.shared_slice_known-1.given j)

pub returns-then-answer-ne-DONE : goal.returns-then-answer-ne-DONE
returns-then-answer-ne-DONE c =
    let is = c.refusal-answer.ensures in
    never_refused _ _ _
    (λ h. c.if-answer-ne-DONE.true (is ∙ refused_first _ _ _ _ (λ e. c.if-answer-ne-DONE.true (is ∙ e)) ∙ h))

pub play-counted-requires : goal.play-counted-requires
play-counted-requires c = let fit = passes _ _ _ (sym c.refusal-answer.ensures ∙ c.if-answer-ne-DONE.false) in
    record { row_len = refl; pool_value = fit.pool_in_holds; title_le_id_max = fit.id; arrivals_len_bound = fit.short }

pub returns-then-played-log : goal.returns-then-played-log
returns-then-played-log c =
    let at-play = c in
    let cut = not_whole _ _ _ _ (none_first at-play.before.before.before.before.before) _ at-play.play-counted.ensures.place_is c.if-played-log.true in
    never_refused _ _ _ (λ h. let wrong : malformed ≡ done = cut ∙ h in omega arith)

pub title_at-t-requires : goal.title_at-t-requires
title_at-t-requires c = (search rules, (fit c.before.before.before.before.before.before).id)

pub returns : goal.returns
returns c =
    let at-play = c in
    let whole = is_whole _ _ _ _ (none_first at-play.before.before.before.before.before.before.before) _ at-play.play-counted.ensures.place_is c.if-played-log.false in
    never_standing _ _ _ whole (fit at-play.before.before.before.before.before.before.before).id (bytes at-play.before.before.before.before.before.before.before) _
    (c.title_at-t.ensures ∙ ap (λ (g : Agent). title_at g.state at-play.args.title) at-play.play-counted.ensures.agent_is)
