-- `due_at` meets its contract: the first permitted time once the lanes are found, or past the clock.
use native.Mathlib.Omega.{arith}
use Rattle.moments.proofs.Due.{open_changeable, open_limits, due_exactly}
use Rattle.moments.proofs.due_at.Goals as goal

pub permitted_from-requires : goal.permitted_from-requires
permitted_from-requires c = let start = c in
    let a = start.args in
    let t = c.title_of-t in
    let b = start.requires.id_le_id_max.0 in
    let o = start.requires.id_le_id_max.1.0 in
    let z = open_changeable a.s start.requires.s_value a.id (omega (arith, b)) o t.result t.ensures in
    let limits = open_limits a.s start.requires.s_value a.id (omega (arith, b)) o t.result t.ensures in
    record { filmed = z.owing.film; count_le_cap = (omega (arith, z.ruled), limits); from_bound = c.lanes_from-free.ensures.high }

pub returns : goal.returns
returns c =
    let a = c.args in
    let t = c.title_of-t in
    let free = c.lanes_from-free in
    let counted = c.min in
    let permitted = c.permitted_from in
    due_exactly a.s a.id a.count t.ensures counted.ensures free.ensures permitted.ensures c.min-2.ensures
