-- `console_desk::whole` meets its contract: nothing asked, an act, or a question, with a newline behind its answer.
use mathlib.Core.Path.{refl, sym, ◌∙◌}
use Rattle.text.proofs.Pages.{then, nothing}
use Rattle.console_desk.specs.Desk.{after_whole, whole_text}
use Rattle.console_desk.proofs.Silent.{silent_stays}
use Rattle.console_desk.proofs.whole.Goals as goal

pub returns-then-is_silent : goal.returns-then-is_silent
unfolding after_whole whole_text
returns-then-is_silent c =
    let silent = sym c.is_silent.ensures ∙ c.if-is_silent.true in
    rw (silent, silent_stays _ silent) record { agent = refl; written = nothing }

pub returns-then-may_change : goal.returns-then-may_change
unfolding after_whole whole_text
returns-then-may_change c =
    rw (sym c.is_silent.ensures ∙ c.if-is_silent.false, sym c.may_change.ensures ∙ c.if-may_change.true)
    record { agent = c.act-next.ensures.agent; written = then c.act-next.ensures.written c.put.ensures }

pub returns : goal.returns
unfolding after_whole whole_text
returns c =
    rw (sym c.is_silent.ensures ∙ c.if-is_silent.false, sym c.may_change.ensures ∙ c.if-may_change.false)
    record { agent = refl; written = then c.ask.ensures c.put-2.ensures }
