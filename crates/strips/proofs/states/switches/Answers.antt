-- `strips::states::switches` meets its contract: by whether the lane is active.
use mathlib.Core.Path.{refl}
use borrow.Author.Tests.{lt-ltb, le-ltb}
use Rattle.strips.specs.States.{switches}
use Rattle.strips.proofs.states.switches.Goals as goal

pub returns-then-lane-ruling : goal.returns-then-lane-ruling
unfolding switches
returns-then-lane-ruling c =
    let at-ruling = c in
    rw (← at-ruling.ruling.ensures, lt-ltb _ _ c.if-lane-ruling.true) refl

pub returns : goal.returns
unfolding switches
returns c =
    let at-ruling = c in
    rw (← at-ruling.ruling.ensures, le-ltb _ _ c.if-lane-ruling.false) refl
