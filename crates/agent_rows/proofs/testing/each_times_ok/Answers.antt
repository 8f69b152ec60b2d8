-- `each_times_ok` meets its contract: every title passed is within the limit, and the first that isn't decides.
use mathlib.Core.Path.{sym, ◌∙◌}
use native.Mathlib.Omega.{arith}
use native.Mathlib.Numerals.{add-one}
use native.Mathlib.Nat.{le_antisymm}
use Rattle.rules.specs.Search.{every}
use Rattle.agent_rows.proofs.Tested.{every_fails}
use borrow.Author.Rules.{rules}
use Rattle.agent_rows.proofs.testing.each_times_ok.Goals as goal

pub loop-i-init : goal.loop-i-init
unfolding every
loop-i-init c = search rules

pub title_times_ok-requires : goal.title_times_ok-requires
title_times_ok-requires c = omega arith

pub loop-i-preserved : goal.loop-i-preserved
unfolding every
loop-i-preserved c = rw (add-one c.loop-i.i, ← c.title_times_ok.ensures, c.if-not-title_times_ok.false, c.loop-i.invariant)

pub returns-then-not-title_times_ok : goal.returns-then-not-title_times_ok
returns-then-not-title_times_ok c =
    sym (every_fails _ 16 c.loop-i.i c.loop-i-test.true (sym c.title_times_ok.ensures ∙ c.if-not-title_times_ok.true))

pub returns : goal.returns
returns c = cc (le_antisymm c.loop-i.auto.i-end c.loop-i-test.false)
