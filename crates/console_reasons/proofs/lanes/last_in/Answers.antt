-- `console_reasons::lanes::last_in` meets its contract: the time of the id's slot, none past the last slot.
use mathlib.Core.Path.{refl}
use borrow.Author.Tests.{le-leb, lt-leb}
use Rattle.console_reasons.specs.Lanes.{last_in}
use Rattle.console_reasons.proofs.lanes.last_in.Goals as goal

pub returns-then-id-le-ID_MAX : goal.returns-then-id-le-ID_MAX
unfolding last_in
returns-then-id-le-ID_MAX c = rw (le-leb _ _ c.if-id-le-ID_MAX.true) refl

pub returns : goal.returns
unfolding last_in
returns c = rw (lt-leb _ _ c.if-id-le-ID_MAX.false) refl
