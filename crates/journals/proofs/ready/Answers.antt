-- `ready` meets its contract: its tests are the definition's.
use mathlib.Core.Path.{refl}
use borrow.Author.Tests.{le-leb, lt-leb}
use Rattle.journals.specs.Start.{is_ready_at}
use Rattle.journals.proofs.ready.Goals.{then-going, else-going}
use Rattle.journals.proofs.ready.Goals as goal

pub returns-then-start : goal.returns-then-start
unfolding is_ready_at
returns-then-start c =
    elim c.if-going.branch [
      | then-going w ↦ rw (← c.going.ensures, w.if-going.true, ← w.far.ensures, ← w.value-is, c.if-far.true, le-leb _ _ c.if-start.true) refl
      | else-going w ↦ cc
    ]

pub returns-else-start : goal.returns-else-start
unfolding is_ready_at
returns-else-start c =
    elim c.if-going.branch [
      | then-going w ↦ rw (← c.going.ensures, w.if-going.true, ← w.far.ensures, ← w.value-is, c.if-far.true, lt-leb _ _ c.if-start.false) refl
      | else-going w ↦ cc
    ]

pub returns-else-far : goal.returns-else-far
unfolding is_ready_at
returns-else-far c =
    elim c.if-going.branch [
      | then-going w ↦ rw (c.if-far.false, ← c.going.ensures, w.if-going.true, ← w.far.ensures, ← w.value-is, c.if-far.false) refl
      | else-going w ↦ rw (w.value-is, ← c.going.ensures, w.if-going.false) refl
    ]
