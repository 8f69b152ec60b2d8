-- `console_acts::writing::kind_for` meets its contract: each act has the kind of its name.
use mathlib.Core.Path.{refl}
use Rattle.console_acts.proofs.writing.kind_for.Goals as goal

pub returns-in-Opens : goal.returns-in-Opens
returns-in-Opens c = rw c.in-Opens.is c.opening_kind.ensures

pub returns-in-Changes : goal.returns-in-Changes
returns-in-Changes c = rw (c.in-Changes.is, ← c.as_byte.ensures) refl
