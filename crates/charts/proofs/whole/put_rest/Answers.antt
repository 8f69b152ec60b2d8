-- `charts::whole::put_rest` meets its contract: its parts one behind the other.
use Rattle.agent_rows.specs.Packed.{unpacked}
use Rattle.charts.proofs.Viewed.{rest_is}
use Rattle.charts.proofs.whole.put_rest.Goals as goal

pub returns : goal.returns
returns c =
    let x = c.args in
    rest_is x.m x.v (unpacked x.row.now).state x.kept.now _ _ _ c.put_cut.ensures.written c.put_cut.ensures.kept_after
    c.put_all.ensures.written c.put_all.ensures.kept_after c.put_curve.ensures.written
