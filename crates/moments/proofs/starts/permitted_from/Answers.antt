-- `permitted_from` meets its contract: a turn from the settled moment on.
use native.Mathlib.Omega.{arith}
use Rattle.moments.proofs.Permitted.{settled_high, permitted_settled}
use Rattle.moments.proofs.starts.permitted_from.Goals as goal

pub turn_from-requires : goal.turn_from-requires
turn_from-requires c = let start = c in
    let high = settled_high start.args.t start.requires.filmed start.requires.count_le_cap.1.1 in
    record { filmed = start.requires.filmed; count_le_cap = (start.requires.count_le_cap.0, (start.requires.count_le_cap.1.0, omega (arith, high))) }

pub returns : goal.returns
returns c =
    let a = c.args in
    let x = c.max in
    permitted_settled a.t a.count (rw (x.ensures, c.settled_at.ensures) at c.turn_from.ensures)
