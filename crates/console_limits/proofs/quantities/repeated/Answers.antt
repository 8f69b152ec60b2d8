-- `console_limits::quantities::repeated` meets its contract: the test is that of the definition.
use Prim.Native.Nat.{◌-◌}
use native.Mathlib.Nat.{mod-le}
use borrow.Author.Tests.{lt-ltb, le-ltb}
use Rattle.console_limits.specs.Quantities.{repeated}
use borrow.Author.Rules.{rules}
use Rattle.console_limits.proofs.quantities.repeated.Goals as goal

pub returns-then-place-first : goal.returns-then-place-first
unfolding repeated
returns-then-place-first c = rw (lt-ltb _ _ c.if-place-first.true)

pub overflow_add-result : goal.overflow_add-result
overflow_add-result c =
    let x = c.args in
    search (rules, mod-le (x.place - x.first) x.many)

pub returns : goal.returns
unfolding repeated
returns c = rw (le-ltb _ _ c.if-place-first.false)
