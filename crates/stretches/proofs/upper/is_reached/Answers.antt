-- `is_reached` meets its contract: each way out decides the tests up to it.
use mathlib.Core.Logic.{⊎_elim}
use native.Mathlib.Numerals.{add-one}
use borrow.Author.Tests.{eq-eqb, ne_eqb, le-leb, lt-leb}
use Rattle.stretches.specs.inner.Walk.{is_reached}
use Rattle.stretches.proofs.upper.is_reached.Goals as goal

pub returns-then-end-at : goal.returns-then-end-at
unfolding is_reached
returns-then-end-at c =
    let all = c.if-end-at.true in
    simp (ne_eqb _ _ all.0, le-leb _ _ all.1, le-leb _ _ all.2, c.slot.ensures.is, add-one)

pub returns-else-end-at : goal.returns-else-end-at
unfolding is_reached
returns-else-end-at c =
    let kind = c.args.film.kind in
    ⊎_elim (λ a. simp (ne_eqb kind 1 a.0, le-leb c.args.film.floor c.args.lane a.1, lt-leb c.args.end c.args.at a.2) (cc))
    (⊎_elim (λ a. simp (ne_eqb kind 1 a.0, lt-leb c.args.film.floor c.args.lane a.1) (cc)) (λ a. simp (eq-eqb kind 1 a) (cc))) c.if-end-at.either
