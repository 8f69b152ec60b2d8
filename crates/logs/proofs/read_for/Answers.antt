-- `logs::read_for` meets its contract: one read more, and whether it is an accepted event of the title.
use borrow.Author.Tests.{eq-eqb, ne_eqb}
use Rattle.logs.proofs.Own.{meets}
use Rattle.logs.proofs.read_for.Goals as goal

pub title_at-before-requires : goal.title_at-before-requires
title_at-before-requires c = let s = c in (s.requires.tested.long, s.requires.title_le_id_max)

pub returns-then-read-eq-DONE : goal.returns-then-read-eq-DONE
returns-then-read-eq-DONE c =
    meets _ _ _ _ _ _ _ _ c.title_at-before.ensures c.read_on-read.ensures (simp (eq-eqb _ _ c.if-read-eq-DONE.true))

pub returns-else-read-eq-DONE : goal.returns-else-read-eq-DONE
returns-else-read-eq-DONE c =
    meets _ _ _ _ _ _ _ _ c.title_at-before.ensures c.read_on-read.ensures (simp (ne_eqb _ _ c.if-read-eq-DONE.false))
