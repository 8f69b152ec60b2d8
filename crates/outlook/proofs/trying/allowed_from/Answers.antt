-- `allowed_from` meets its contract: each act has the search of its own rules.
use Prim.Native.Nat.{◌^◌, ◌≤◌}
use native.Mathlib.Omega.{arith}
use Rattle.measures.proofs.Within.{readable, count_fit, tuned_high}
use Rattle.moments.proofs.Due.{last_high}
use Rattle.outlook.specs.inner.Tries.{allows}
use Rattle.outlook.proofs.Starting.{any_time, change_found}
use Rattle.outlook.proofs.trying.allowed_from.Goals as goal

pub permitted_from-requires : goal.permitted_from-requires
permitted_from-requires c = let start = c in
    let t = start.args.t in
    let ok = start.requires.t_value.0 in
    let there = start.requires.t_value.1 in
    let low : c.min.result ≤ t.film.cap = omega (arith, c.min.ensures, count_fit t ok there) in
    record { filmed = readable t ok there; count_le_cap = (low, (last_high t ok, tuned_high t ok)); from_bound = omega (arith, start.requires.from_le_event_time_max) }

pub turn_from-requires : goal.turn_from-requires
turn_from-requires c = let start = c in
    let t = start.args.t in
    let ok = start.requires.t_value.0 in
    let film = readable t ok start.requires.t_value.1 in
    record { filmed = film; count_le_cap = (film.cut.fit, (last_high t ok, omega (arith, start.requires.from_le_event_time_max))) }

pub turn_from-requires-in-Doors : goal.turn_from-requires-in-Doors
turn_from-requires-in-Doors c = let start = c in
    let t = start.args.t in
    let ok = start.requires.t_value.0 in
    let there = start.requires.t_value.1 in
    record { filmed = readable t ok there; count_le_cap = (count_fit t ok there, (last_high t ok, omega (arith, start.requires.from_le_event_time_max))) }

pub returns-in-Opens : goal.returns-in-Opens
returns-in-Opens c =
    let start = c in
    rw c.in-Opens.is (any_time start.args.t _ _ start.args.from (2 ^ 43) (omega (arith, start.requires.from_le_event_time_max)))

pub returns-in-Changes : goal.returns-in-Changes
returns-in-Changes c =
    let t = c.args.t in
    rw c.in-Changes.is (change_found t _ c.min.ensures c.permitted_from.ensures)

pub returns-in-Closes : goal.returns-in-Closes
unfolding allows
returns-in-Closes c = rw c.in-Closes.is c.turn_from.ensures

pub returns-in-Doors : goal.returns-in-Doors
unfolding allows
returns-in-Doors c = rw c.in-Doors.is c.turn_from-in-Doors.ensures
