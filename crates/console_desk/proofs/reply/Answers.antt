-- `console_desk::reply` meets its contract: a line with nothing wrong, or what is wrong with it.
use mathlib.Core.Path.{refl, sym, ◌∙◌, ap}
use borrow.Author.Tests.{eq-eqb, ne_eqb}
use Rattle.console_lines.specs.declared.lines.Line.{Line}
use Rattle.console_lines.proofs.Longest.{readable}
use Rattle.console_desk.specs.Desk.{after_line, line_text}
use Rattle.console_desk.proofs.reply.Goals as goal

pub whole-requires : goal.whole-requires
whole-requires c = readable c.args.s.now (sym (ap (λ (l : Line). l.fault) c.requires) ∙ c.if-fault-eq-NO_FAULT.true)

pub returns-then-fault-eq-NO_FAULT : goal.returns-then-fault-eq-NO_FAULT
unfolding after_line line_text
returns-then-fault-eq-NO_FAULT c = rw (← c.requires, eq-eqb _ _ c.if-fault-eq-NO_FAULT.true) c.whole.ensures

pub returns : goal.returns
unfolding after_line line_text
returns c = rw (← c.requires, ne_eqb _ _ c.if-fault-eq-NO_FAULT.false) record { agent = refl; written = c.put_fault_line.ensures }
