-- `console_reasons::events::put_taken` meets its contract: an open title, or one that is closing.
use mathlib.Core.Path.{sym, ◌∙◌}
use Rattle.text.specs.Texts.{text}
use Rattle.console_reasons.specs.Events.{taken_text}
use Rattle.console_reasons.proofs.events.put_taken.Goals as goal

pub returns-then-is_open : goal.returns-then-is_open
unfolding taken_text text
returns-then-is_open c = rw (sym c.is_open.ensures ∙ c.if-is_open.true) c.put.ensures

pub returns-else-is_open : goal.returns-else-is_open
unfolding taken_text text
returns-else-is_open c = rw (sym c.is_open.ensures ∙ c.if-is_open.false, ← c.id_free_from-free.ensures) c.put_clock_words.ensures
