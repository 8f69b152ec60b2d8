-- `title_held` meets its contract: a slot without a title holds none, another is counted at its tick.
use native.Mathlib.Omega.{arith}
use borrow.Author.Tests.{eq-eqb, ne_eqb}
use Rattle.story.specs.Kept.{title_held}
use Rattle.measures.proofs.lanes.title_held.Goals as goal

pub returns-then-t-eq-ABSENT : goal.returns-then-t-eq-ABSENT
unfolding title_held
returns-then-t-eq-ABSENT c = record { is = simp (eq-eqb _ _ c.if-t-eq-ABSENT.true); low = omega arith; high = omega arith }

pub tick_at-requires : goal.tick_at-requires
tick_at-requires c = c.requires c.if-t-eq-ABSENT.false

pub held_at-requires : goal.held_at-requires
held_at-requires c = (c.requires c.if-t-eq-ABSENT.false).cut.high

pub returns : goal.returns
unfolding title_held
returns c =
    record
    { is = simp (ne_eqb _ _ c.if-t-eq-ABSENT.false, ← c.tick_at.ensures.is) c.held_at.ensures.is; low = omega arith; high = omega arith }
