-- `charts::whole::coarser` meets its contract: by whether columns are the widest.
use mathlib.Core.Path.{refl}
use borrow.Author.Tests.{lt-ltb, le-ltb}
use Rattle.charts.specs.Charts.{coarser}
use Rattle.charts.proofs.whole.coarser.Goals as goal

pub returns-then-grain-lt-GRAIN_MOST : goal.returns-then-grain-lt-GRAIN_MOST
unfolding coarser
returns-then-grain-lt-GRAIN_MOST c = rw (lt-ltb _ _ c.if-grain-lt-GRAIN_MOST.true) refl

pub returns : goal.returns
unfolding coarser
returns c = rw (le-ltb _ _ c.if-grain-lt-GRAIN_MOST.false) refl
