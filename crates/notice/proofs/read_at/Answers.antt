-- `notice::read_at` meets its contract: each way out has decided its case of the definition.
-- Rests on what is there where a whole notice stands.
use borrow.Author.Rules.{rules}
use mathlib.Core.Path.{sym, ◌∙◌}
use native.Mathlib.Omega.{arith}
use Rattle.notice_bytes.proofs.Whole.{Stood, stood}
use Rattle.notice.proofs.Answers.{finds}
use Rattle.notice.proofs.Cases.{at_end, at_whole, at_none}
use Rattle.notice.proofs.read_at.Tie as tie
use Rattle.notice.proofs.read_at.Lts as lts
use Rattle.notice.proofs.read_at.Reads as reads
use Rattle.notice.proofs.read_at.Goals as goal

-- where the test of a whole notice passed
here : (c : lts.Then2 tie.the-claims reads.Pre reads.Post) → Stood c.args.log.now c.args.place
here c = stood _ _ (sym c.whole_at.ensures ∙ c.if-whole_at.true)

pub returns-then-log-place : goal.returns-then-log-place
returns-then-log-place c = finds _ _ (at_end _ _ c.if-log-place.true)

pub bounds-log-place : goal.bounds-log-place
bounds-log-place c = omega (arith, (here c.before.before).fits, (here c.before.before).headed)

pub notice_in-requires : goal.notice_in-requires
notice_in-requires c = ((here c.before.before).fits, (here c.before.before).known)

pub overflow_add-result : goal.overflow_add-result
overflow_add-result c = omega (arith, c.start.ensures, (here c.before.before.before.before).fits)

pub returns-then-whole_at : goal.returns-then-whole_at
returns-then-whole_at c =
    let tested = c in
    let some = tested.if-log-place.false in
    finds _ _
    (rw (c.notice_in.ensures, c.start.ensures)
    (at_whole _ _ some (sym tested.whole_at.ensures ∙ tested.if-whole_at.true)))

pub returns-else-whole_at : goal.returns-else-whole_at
returns-else-whole_at c = finds _ _ (at_none _ _ c.if-log-place.false (sym c.whole_at.ensures ∙ c.if-whole_at.false))
