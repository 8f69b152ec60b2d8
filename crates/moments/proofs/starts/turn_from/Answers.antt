-- `turn_from` meets its contract: the first slot start, or the one after it where it is the last event's moment.
use native.Mathlib.Omega.{arith}
use Rattle.moments.proofs.Permitted.{turn_first, turn_second}
use Rattle.moments.proofs.starts.turn_from.Goals as goal

pub next_start-start-requires : goal.next_start-start-requires
next_start-start-requires c = record { filmed = c.requires.filmed; count_le_cap = (c.requires.count_le_cap.0, c.requires.count_le_cap.1.1) }

pub returns-then-start-t : goal.returns-then-start-t
returns-then-start-t c =
    let start = c in
    let a = start.args in
    turn_second a.t a.count (omega (arith, c.next_start.ensures.high)) c.next_start-start.ensures c.if-start-t.true
    c.next_start.ensures

pub returns : goal.returns
returns c =
    let start = c in
    let a = start.args in
    turn_first a.t a.count (omega (arith, c.next_start-start.ensures.high)) c.next_start-start.ensures c.if-start-t.false
