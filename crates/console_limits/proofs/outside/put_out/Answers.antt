-- `console_limits::outside::put_out` meets its contract: the limits of the first number that is out of them, or the state.
use native.Mathlib.Omega.{arith}
use borrow.Author.Tests.{lt-ltb, le-ltb}
use Rattle.text.specs.Texts.{text}
use Prim.Native.Nat.{◌≤◌}
use lib.ListN.{length}
use Rattle.console_limits.specs.Outside.{first_out, out_text}
use Rattle.console_limits.proofs.outside.put_out.Goals as goal

pub returns-in-Some : goal.returns-in-Some
unfolding out_text
returns-in-Some c =
    let found = c.in-Some.ensures in
    rw (← found.1, lt-ltb _ _ found.0, ← c.quantity_at.ensures) c.put_bounds.ensures

pub returns-in-None : goal.returns-in-None
unfolding out_text text
returns-in-None c =
    let none : length c.args.numbers.now ≤ first_out c.args.command c.args.numbers.now = omega (arith, c.in-None.ensures) in
    rw (le-ltb _ _ none) c.put.ensures
