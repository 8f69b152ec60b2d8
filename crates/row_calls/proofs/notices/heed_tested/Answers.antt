-- `heed_tested` meets its contract: the notice's turn, and then its event.
use mathlib.Core.Path.{sym, ◌∙◌}
use borrow.Author.Rules.{rules}
use borrow.Author.Tests.{eqb-true, eqb-false}
use Rattle.row_calls.proofs.Heeded.{not_its_turn}
use Rattle.row_calls.proofs.TakenNotice.{takes_notice}
use Rattle.row_calls.proofs.notices.heed_tested.Goals as goal

pub follow-requires : goal.follow-requires
follow-requires c = record { tested = c.requires; sequence_value = eqb-true _ _ (sym c.is_next.ensures ∙ c.if-is_next.true) }

pub returns-then-is_next : goal.returns-then-is_next
returns-then-is_next c =
    takes_notice c.args.row.now c.requires c.args.n (search rules) _ _ (c.told.ensures ∙ c.follow.ensures.0, c.follow.ensures.1) (search rules)

pub returns : goal.returns
returns c =
    takes_notice c.args.row.now c.requires c.args.n (search rules) _ _
    (not_its_turn c.args.row.now c.requires.long c.args.n (eqb-false _ _ (sym c.is_next.ensures ∙ c.if-is_next.false)))
    c.requires.long
