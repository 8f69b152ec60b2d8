-- `fields::start` meets its contract: by the kind, and nothing for a number that is no kind's.
-- Rests on the table's law of such numbers.
use mathlib.Core.Path.{sym, ◌∙◌}
use native.Mathlib.Omega.{arith}
use Rattle.notice_fields.proofs.Table.{no_start}
use Rattle.notice_fields.proofs.fields.start.Goals as goal

pub returns-in-1 : goal.returns-in-1
returns-in-1 c = c.spans_before.ensures ∙ rw c.in-1.is

pub returns-in-2 : goal.returns-in-2
returns-in-2 c = c.spans_before-in-2.ensures ∙ rw c.in-2.is

pub returns-in-3 : goal.returns-in-3
returns-in-3 c = c.spans_before-in-3.ensures ∙ rw c.in-3.is

pub returns-in-4 : goal.returns-in-4
returns-in-4 c = c.spans_before-in-4.ensures ∙ rw c.in-4.is

pub returns-in-5 : goal.returns-in-5
returns-in-5 c = c.spans_before-in-5.ensures ∙ rw c.in-5.is

pub returns-in-6 : goal.returns-in-6
returns-in-6 c = c.spans_before-in-6.ensures ∙ rw c.in-6.is

pub returns-in_default : goal.returns-in_default
returns-in_default c =
    let none = c.in_default.in_default-own.rest in
    sym (no_start _ _ c.requires (λ some le. omega (arith, none.0.0.0.0.0.1, none.0.0.0.0.1, none.0.0.0.1, none.0.0.1, none.0.1, none.1)))
