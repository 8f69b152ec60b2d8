-- `console_desk::act` meets its contract: what was answered, and behind it what to type next.
use mathlib.Core.Path.{refl}
use Rattle.text.proofs.Pages.{then}
use Rattle.console_desk.specs.Desk.{act_text}
use Rattle.console_desk.proofs.act.Goals as goal

pub returns : goal.returns
unfolding act_text
returns c = rw (← c.follow-f.ensures.0, ← c.follow-f.ensures.1) record { agent = refl; written = then c.put_told.ensures c.put_behind.ensures }
