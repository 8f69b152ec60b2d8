-- `console_acts::events::word_of` meets its contract: a written word stands behind its event by a fixed number.
use mathlib.Core.Path.{refl}
use borrow.Author.Tests.{lt-ltb, le-ltb}
use Rattle.console_acts.proofs.events.word_of.Goals as goal

pub returns-then-command-lt-WRITE_OPEN : goal.returns-then-command-lt-WRITE_OPEN
returns-then-command-lt-WRITE_OPEN c = rw (lt-ltb _ _ c.if-command-lt-WRITE_OPEN.true) refl

pub returns : goal.returns
returns c = rw (le-ltb _ _ c.if-command-lt-WRITE_OPEN.false) refl
