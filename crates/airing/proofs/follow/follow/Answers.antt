-- `airing::follow::follow` meets its contract: the log played to its end, and the title as it stands then.
use native.Mathlib.Omega.{arith}
use Rattle.airing.proofs.Answers.{id_low, markable, follows_done, follows_refused}
use borrow.Author.Rules.{rules}
use Rattle.airing.proofs.follow.follow.Goals as goal

pub title_at-t-requires : goal.title_at-t-requires
title_at-t-requires c =
    let start = c in
    (search rules, id_low start.args.pool start.args.title start.requires)

pub mark_to-requires : goal.mark_to-requires
mark_to-requires c =
    let at-answer-of = c in
    let at-title-at = at-answer-of in
    let at-play = at-title-at in
    let known = at-play in
    markable _ _ known.requires _ _ _ _ _ at-play.play-played.ensures (λ j. omega (arith, known.shared_slice_known-1.given j)) _ at-title-at.title_at-t.ensures _ at-answer-of.answer_of-answer.ensures c.if-answer-eq-DONE.true

pub returns-then-answer-eq-DONE : goal.returns-then-answer-eq-DONE
returns-then-answer-eq-DONE c =
    let at-mark-to = c in
    let at-if1 = at-mark-to in
    let at-answer-of = at-if1 in
    let at-title-at = at-answer-of in
    let at-play = at-title-at in
    let known = at-play in
    follows_done _ _ known.requires _ _ _ _ _ at-play.play-played.ensures (λ j. omega (arith, known.shared_slice_known-1.given j)) _ at-title-at.title_at-t.ensures _ at-answer-of.answer_of-answer.ensures _ at-if1.if-answer-eq-DONE.true at-mark-to.mark_to.ensures

pub returns-else-answer-eq-DONE : goal.returns-else-answer-eq-DONE
returns-else-answer-eq-DONE c =
    let at-answer-of = c in
    let at-title-at = at-answer-of in
    let at-play = at-title-at in
    let known = at-play in
    follows_refused _ _ known.requires _ _ _ _ _ at-play.play-played.ensures (λ j. omega (arith, known.shared_slice_known-1.given j)) _ at-title-at.title_at-t.ensures _ at-answer-of.answer_of-answer.ensures c.if-answer-eq-DONE.false
