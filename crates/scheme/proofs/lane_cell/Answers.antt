-- `lane_cell` meets its contract: the lane's cell by the scheme of its kind. Rests on the laws of lanes.
use borrow.Author.Rules.{rules}
use Rattle.scheme.proofs.ByKind.{steady_scheme, padded_scheme, steady_within}
use Rattle.scheme.proofs.lane_cell.Goals as goal

pub returns-then-kind-eq-STEADY : goal.returns-then-kind-eq-STEADY
returns-then-kind-eq-STEADY c =
    let a = c.args in
    rw (steady_scheme a.kind a.floor a.cap c.if-kind-eq-STEADY.true)
    (record { is = c.steady_cell.ensures; within = rw c.steady_cell.ensures (steady_within a.cap a.lane a.tick c.requires.lane_lt_cap.0) })

pub returns : goal.returns
returns c =
    let a = c.args in
    rw (padded_scheme a.kind a.floor a.cap c.if-kind-eq-STEADY.false) c.lane_cell.ensures
