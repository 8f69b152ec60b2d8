-- `walk_of` meets its contract: each number is its part of the definition.
use Prim.Native.Nat.{◌+◌, ◌-◌, ◌^◌, ◌≤◌}
use mathlib.Core.Path.{sym, ◌∙◌}
use native.Mathlib.Omega.{arith}
use native.Mathlib.Nat.{div-le_self}
use lib.Pow.{pow_mono}
use lib.Dec.{eqb}
use borrow.Author.Tests.{eq-eqb, ne_eqb}
use Rattle.rules.proofs.Tests.{pick_true, pick_false}
use Rattle.grid.specs.Ticks.{rounded_up}
use Rattle.story.specs.Life.{tick_by}
use Rattle.stretches.proofs.Steps.{walk_parts}
use Rattle.stretches.proofs.upper.walk_of.Goals as goal

pub overflow_add-turn : goal.overflow_add-turn
overflow_add-turn c =
    record { fits = omega (arith, div-le_self c.args.at c.slot-width.result, c.requires.at_le_asked_max) }

pub overflow_sub-turn : goal.overflow_sub-turn
overflow_sub-turn c =
    let a = c.args in
    let m : 2 ^ (a.lane + 1 - a.film.floor) ≤ 2 ^ (a.lane + 1) = pow_mono (omega arith) in
    omega (arith, m, c.pow2-2.ensures.is, c.pow2.ensures.is)

pub overflow_add-turn-2 : goal.overflow_add-turn-2
overflow_add-turn-2 c =
    let s = c in
    record {
      fits = omega
          (arith, div-le_self s.args.at c.slot-width.result, s.requires.at_le_asked_max, c.pow2.ensures.high);
    }

pub returns-then-until-eq0 : goal.returns-then-until-eq0
returns-then-until-eq0 c =
    let v = c in
    let a = v.args in
    let b = c.pow2 in
    let d = c.pow2-2 in
    walk_parts a.film a.lane a.at a.until v.slot-width.result b.result d.result 0 v.slot-width.ensures.is b.ensures.is d.ensures.is
    (sym (pick_true (eqb a.until 0) 0 (rounded_up a.film.length (tick_by a.film)) (eq-eqb a.until 0 c.if-until-eq0.true)))

pub returns-else-until-eq0 : goal.returns-else-until-eq0
returns-else-until-eq0 c =
    let v = c in
    let a = v.args in
    let b = c.pow2 in
    let d = c.pow2-2 in
    walk_parts a.film a.lane a.at a.until v.slot-width.result b.result d.result c.film_cells-cells.result v.slot-width.ensures.is b.ensures.is d.ensures.is
    (c.film_cells-cells.ensures ∙ sym (pick_false (eqb a.until 0) 0 (rounded_up a.film.length (tick_by a.film)) (ne_eqb a.until 0 c.if-until-eq0.false)))
