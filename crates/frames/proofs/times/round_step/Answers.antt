-- `frames::times::round_step` meets its contract: by the span.
use mathlib.Core.Path.{refl}
use native.Mathlib.Omega.{arith}
use borrow.Author.Tests.{le-leb, lt-leb}
use Rattle.frames.specs.Times.{round_step}
use Rattle.frames.proofs.times.round_step.Goals as goal

pub returns-then-span-le12 : goal.returns-then-span-le12
unfolding round_step
returns-then-span-le12 c = rw (le-leb _ _ c.if-span-le12.true) (refl, (omega arith, omega arith))

pub returns-then-span-le1200 : goal.returns-then-span-le1200
unfolding round_step
returns-then-span-le1200 c =
    let at-if1 = c in
    rw (lt-leb _ _ at-if1.if-span-le12.false, le-leb _ _ c.if-span-le1200.true) (refl, (omega arith, omega arith))

pub returns-then-span-le12000 : goal.returns-then-span-le12000
unfolding round_step
returns-then-span-le12000 c =
    let at-if2 = c in
    let at-if1 = at-if2 in
    rw (lt-leb _ _ at-if1.if-span-le12.false, lt-leb _ _ at-if2.if-span-le1200.false, le-leb _ _ c.if-span-le12000.true) (refl, (omega arith, omega arith))

pub returns-then-span-le120000 : goal.returns-then-span-le120000
unfolding round_step
returns-then-span-le120000 c =
    let at-if3 = c in
    let at-if2 = at-if3 in
    let at-if1 = at-if2 in
    rw (lt-leb _ _ at-if1.if-span-le12.false, lt-leb _ _ at-if2.if-span-le1200.false, lt-leb _ _ at-if3.if-span-le12000.false, le-leb _ _ c.if-span-le120000.true) (refl, (omega arith, omega arith))

pub returns-then-span-le720000 : goal.returns-then-span-le720000
unfolding round_step
returns-then-span-le720000 c =
    let at-if4 = c in
    let at-if3 = at-if4 in
    let at-if2 = at-if3 in
    let at-if1 = at-if2 in
    rw (lt-leb _ _ at-if1.if-span-le12.false, lt-leb _ _ at-if2.if-span-le1200.false, lt-leb _ _ at-if3.if-span-le12000.false, lt-leb _ _ at-if4.if-span-le120000.false, le-leb _ _ c.if-span-le720000.true) (refl, (omega arith, omega arith))

pub returns-then-span-le3600000 : goal.returns-then-span-le3600000
unfolding round_step
returns-then-span-le3600000 c =
    let at-if5 = c in
    let at-if4 = at-if5 in
    let at-if3 = at-if4 in
    let at-if2 = at-if3 in
    let at-if1 = at-if2 in
    rw (lt-leb _ _ at-if1.if-span-le12.false, lt-leb _ _ at-if2.if-span-le1200.false, lt-leb _ _ at-if3.if-span-le12000.false, lt-leb _ _ at-if4.if-span-le120000.false, lt-leb _ _ at-if5.if-span-le720000.false, le-leb _ _ c.if-span-le3600000.true) (refl, (omega arith, omega arith))

pub returns-then-span-le10800000 : goal.returns-then-span-le10800000
unfolding round_step
returns-then-span-le10800000 c =
    let at-if6 = c in
    let at-if5 = at-if6 in
    let at-if4 = at-if5 in
    let at-if3 = at-if4 in
    let at-if2 = at-if3 in
    let at-if1 = at-if2 in
    rw (lt-leb _ _ at-if1.if-span-le12.false, lt-leb _ _ at-if2.if-span-le1200.false, lt-leb _ _ at-if3.if-span-le12000.false, lt-leb _ _ at-if4.if-span-le120000.false, lt-leb _ _ at-if5.if-span-le720000.false, lt-leb _ _ at-if6.if-span-le3600000.false, le-leb _ _ c.if-span-le10800000.true) (refl, (omega arith, omega arith))

pub returns-then-span-le21600000 : goal.returns-then-span-le21600000
unfolding round_step
returns-then-span-le21600000 c =
    let at-if7 = c in
    let at-if6 = at-if7 in
    let at-if5 = at-if6 in
    let at-if4 = at-if5 in
    let at-if3 = at-if4 in
    let at-if2 = at-if3 in
    let at-if1 = at-if2 in
    rw (lt-leb _ _ at-if1.if-span-le12.false, lt-leb _ _ at-if2.if-span-le1200.false, lt-leb _ _ at-if3.if-span-le12000.false, lt-leb _ _ at-if4.if-span-le120000.false, lt-leb _ _ at-if5.if-span-le720000.false, lt-leb _ _ at-if6.if-span-le3600000.false, lt-leb _ _ at-if7.if-span-le10800000.false, le-leb _ _ c.if-span-le21600000.true) (refl, (omega arith, omega arith))

pub returns-then-span-le43200000 : goal.returns-then-span-le43200000
unfolding round_step
returns-then-span-le43200000 c =
    let at-if8 = c in
    let at-if7 = at-if8 in
    let at-if6 = at-if7 in
    let at-if5 = at-if6 in
    let at-if4 = at-if5 in
    let at-if3 = at-if4 in
    let at-if2 = at-if3 in
    let at-if1 = at-if2 in
    rw (lt-leb _ _ at-if1.if-span-le12.false, lt-leb _ _ at-if2.if-span-le1200.false, lt-leb _ _ at-if3.if-span-le12000.false, lt-leb _ _ at-if4.if-span-le120000.false, lt-leb _ _ at-if5.if-span-le720000.false, lt-leb _ _ at-if6.if-span-le3600000.false, lt-leb _ _ at-if7.if-span-le10800000.false, lt-leb _ _ at-if8.if-span-le21600000.false, le-leb _ _ c.if-span-le43200000.true) (refl, (omega arith, omega arith))

pub returns-then-span-le172800000 : goal.returns-then-span-le172800000
unfolding round_step
returns-then-span-le172800000 c =
    let at-if9 = c in
    let at-if8 = at-if9 in
    let at-if7 = at-if8 in
    let at-if6 = at-if7 in
    let at-if5 = at-if6 in
    let at-if4 = at-if5 in
    let at-if3 = at-if4 in
    let at-if2 = at-if3 in
    let at-if1 = at-if2 in
    rw (lt-leb _ _ at-if1.if-span-le12.false, lt-leb _ _ at-if2.if-span-le1200.false, lt-leb _ _ at-if3.if-span-le12000.false, lt-leb _ _ at-if4.if-span-le120000.false, lt-leb _ _ at-if5.if-span-le720000.false, lt-leb _ _ at-if6.if-span-le3600000.false, lt-leb _ _ at-if7.if-span-le10800000.false, lt-leb _ _ at-if8.if-span-le21600000.false, lt-leb _ _ at-if9.if-span-le43200000.false, le-leb _ _ c.if-span-le172800000.true) (refl, (omega arith, omega arith))

pub returns : goal.returns
unfolding round_step
returns c =
    let at-if9 = c in
    let at-if8 = at-if9 in
    let at-if7 = at-if8 in
    let at-if6 = at-if7 in
    let at-if5 = at-if6 in
    let at-if4 = at-if5 in
    let at-if3 = at-if4 in
    let at-if2 = at-if3 in
    let at-if1 = at-if2 in
    rw (lt-leb _ _ at-if1.if-span-le12.false, lt-leb _ _ at-if2.if-span-le1200.false, lt-leb _ _ at-if3.if-span-le12000.false, lt-leb _ _ at-if4.if-span-le120000.false, lt-leb _ _ at-if5.if-span-le720000.false, lt-leb _ _ at-if6.if-span-le3600000.false, lt-leb _ _ at-if7.if-span-le10800000.false, lt-leb _ _ at-if8.if-span-le21600000.false, lt-leb _ _ at-if9.if-span-le43200000.false, lt-leb _ _ c.if-span-le172800000.false) (refl, (omega arith, omega arith))
