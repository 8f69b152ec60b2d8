-- `fill` meets its contract: the places passed have the counts, the lanes held and the marks of their ids.
use native.Mathlib.Omega.{arith}
use native.Mathlib.Nat.{le_antisymm}
use Rattle.story.specs.Calls.{status_count, status_held, status_mark}
use Rattle.measures.proofs.Within.{all_readable}
use Rattle.status.proofs.Filled.{filled_all, id_below}
use Rattle.status.proofs.fill.Goals as goal

pub title_of-t-requires : goal.title_of-t-requires
title_of-t-requires c = id_below c.args.ids.now c.loop-i.i c.requires.s_value.1 c.loop-i-test.true

pub title_held-requires : goal.title_held-requires
title_held-requires c =
    let below = id_below c.args.ids.now c.loop-i.i c.requires.s_value.1 c.loop-i-test.true in
    rw c.title_of-t.ensures (all_readable c.args.s c.requires.s_value.0 _ (omega arith))

pub returns : goal.returns
returns c =
    let l = c.loop-i in
    let a = c.args in
    let all = le_antisymm l.auto.i-end c.loop-i-test.false in
    record {
      counts_after = filled_all (λ j. status_count a.s j) a.ids.now l.counts l.invariant.0 (rw (← all) l.invariant.3);
      held_after = filled_all (λ j. status_held a.s j a.time) a.ids.now l.held l.invariant.1 (rw (← all) l.invariant.4);
      marks_after = filled_all (λ j. status_mark a.s j) a.ids.now l.marks l.invariant.2 (rw (← all) l.invariant.5);
    }
