-- `ticks_on` meets its contract: each way out decides a test of the step.
use mathlib.Core.Path.{◌∙◌}
use Prim.Native.Nat.{◌-◌, ◌*◌}
use native.Mathlib.Omega.{arith}
use Rattle.stretches.proofs.Steps.{ticks_short, ticks_past, ticks_here, small}
use Rattle.stretches.proofs.upper.ticks_on.Goals as goal

pub returns-then-span-rest : goal.returns-then-span-rest
returns-then-span-rest c =
    let a = c.args in
    record { is = ticks_short a.s a.channel (rw (c.rest_on-rest.ensures.is, c.pow2-span.ensures.is) at c.if-span-rest.true); low = omega arith; high = omega arith }

pub overflow_mul-until : goal.overflow_mul-until
overflow_mul-until c =
    let s = c in
    let r = c.rest_on-rest in
    record { fits = omega (arith, small r.result s.args.s.width (omega (arith, r.ensures.high)) s.requires.walk.width) }

pub overflow_add-until : goal.overflow_add-until
overflow_add-until c =
    let s = c in
    let r = c.rest_on-rest in
    record { fits = omega (arith, small r.result s.args.s.width (omega (arith, r.ensures.high)) s.requires.walk.width, s.requires.walk.until) }

pub returns-then-until-s : goal.returns-then-until-s
returns-then-until-s c =
    let a = c.args in
    let r = c.rest_on-rest in
    record { is = ticks_past a.s a.channel (rw r.ensures.is at c.if-until-s.true); low = omega arith; high = omega arith }

pub overflow_mul-span-2 : goal.overflow_mul-span-2
overflow_mul-span-2 c =
    let p = c.pow2-span in
    let s = c in
    record { fits = omega (arith, small (2 * p.result - 2) s.args.s.width (omega (arith, p.ensures.high)) s.requires.walk.width) }

pub returns : goal.returns
returns c =
    let late = c in
    let here = late in
    let s = here in
    let a = s.args in
    let r = here.rest_on-rest in
    let p = here.pow2-span in
    let e = ticks_here a.s a.channel (rw (r.ensures.is, p.ensures.is) at here.if-span-rest.false) (rw r.ensures.is at late.if-until-s.false) in
    record {
      is =
          c.min-2.ensures
          ∙ rw (c.min.ensures, c.saturating_sub-film.ensures, r.ensures.is, p.ensures.is) e;
      low = omega arith;
      high = omega (arith, c.min-2.ensures, s.requires.walk.width);
    }
