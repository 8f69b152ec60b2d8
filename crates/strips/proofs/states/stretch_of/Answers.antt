-- `strips::states::stretch_of` meets its contract: by whether the title is there, and the lane active.
use mathlib.Core.Path.{refl}
use borrow.Author.Tests.{eq-eqb, ne_eqb, lt-ltb, le-ltb}
use Rattle.strips.specs.States.{stretch_since}
use Rattle.strips.proofs.states.stretch_of.Goals as goal

pub returns-then-t-eq-ABSENT : goal.returns-then-t-eq-ABSENT
unfolding stretch_since
returns-then-t-eq-ABSENT c =
    let at-if1 = c in
    rw (eq-eqb _ _ at-if1.if-t-eq-ABSENT.true) refl

pub returns-then-lane-ruling : goal.returns-then-lane-ruling
unfolding stretch_since
returns-then-lane-ruling c =
    let at-ruling = c in
    let at-if1 = at-ruling in
    rw (ne_eqb _ _ at-if1.if-t-eq-ABSENT.false, ← at-ruling.ruling.ensures, lt-ltb _ _ c.if-lane-ruling.true) refl

pub returns : goal.returns
unfolding stretch_since
returns c =
    let at-if2 = c in
    let at-ruling = at-if2 in
    let at-if1 = at-ruling in
    rw (ne_eqb _ _ at-if1.if-t-eq-ABSENT.false, ← at-ruling.ruling.ensures, le-ltb _ _ at-if2.if-lane-ruling.false) c.sending.ensures
