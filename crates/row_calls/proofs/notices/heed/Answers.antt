-- `heed` meets its contract: the notice's turn, the row's numbers, and then its event.
use mathlib.Core.Path.{sym, ◌∙◌}
use borrow.Author.Tests.{eqb-true, eqb-false}
use Rattle.row_calls.proofs.Heeded.{not_its_turn, turn_out}
use Rattle.row_calls.proofs.Rows.{tested_row}
use Rattle.row_calls.proofs.notices.heed.Goals as goal

pub returns-then-not-is_next : goal.returns-then-not-is_next
returns-then-not-is_next c =
    not_its_turn c.args.row.now c.requires c.args.n (eqb-false _ _ (sym c.is_next.ensures ∙ c.if-not-is_next.true))

pub returns-then-not-row_ok : goal.returns-then-not-row_ok
returns-then-not-row_ok c =
    turn_out c.args.row.now c.requires c.args.n (eqb-true _ _ (sym c.is_next.ensures ∙ c.if-not-is_next.false))
    (sym c.row_ok.ensures ∙ c.if-not-row_ok.true)

pub follow-requires : goal.follow-requires
follow-requires c =
    record {
      tested = tested_row c.args.row.now c.requires (sym c.row_ok.ensures ∙ c.if-not-row_ok.false);
      sequence_value = eqb-true _ _ (sym c.is_next.ensures ∙ c.if-not-is_next.false);
    }
