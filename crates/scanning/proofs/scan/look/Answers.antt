-- `scanning::scan::look` meets its contract, by what the reader finds at the place and whether it is that notice's turn.
use mathlib.Core.Path.{sym, ◌∙◌}
use borrow.Author.Rules.{rules}
use Rattle.scanning.proofs.Moves.{in_turn, out_of_turn_lem, no_byte, no_notice}
use Rattle.scanning.proofs.scan.look.Goals as goal

pub returns-then-is_later : goal.returns-then-is_later
returns-then-is_later c =
    let turn = c in
    let read = turn in
    in_turn _ _ _ _ (sym read.next_in-found.ensures.is ∙ read.in-At.is)
    (sym turn.is_later.ensures ∙ c.if-is_later.true)

pub returns-else-is_later : goal.returns-else-is_later
returns-else-is_later c =
    let turn = c in
    let read = turn in
    out_of_turn_lem _ _ _ _ (sym read.next_in-found.ensures.is ∙ read.in-At.is)
    (sym turn.is_later.ensures ∙ c.if-is_later.false)

pub returns-in-End : goal.returns-in-End
returns-in-End c = no_byte _ _ (sym c.next_in-found.ensures.is ∙ c.in-End.is)

pub returns-in-Malformed : goal.returns-in-Malformed
returns-in-Malformed c = no_notice _ _ (sym c.next_in-found.ensures.is ∙ c.in-Malformed.is)
