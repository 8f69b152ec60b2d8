-- `console_reasons::events::put_start` meets its contract: the next start, in words.
use Rattle.text.specs.Texts.{text}
use Rattle.console_reasons.specs.Events.{start_text}
use Rattle.console_reasons.proofs.events.put_start.Goals as goal

pub returns : goal.returns
unfolding start_text text
returns c = rw (← c.start_from.ensures) c.put_clock_words.ensures
