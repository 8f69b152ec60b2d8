-- `log_marks::hearing::put_accepted` meets its contract: the curve up to it, what it ends, and its mark.
use mathlib.Core.Path.{◌∙◌}
use native.Mathlib.Omega.{arith}
use Rattle.agent_rows.specs.Packed.{unpacked}
use Rattle.moments.proofs.Due.{title_timed}
use Rattle.log_marks.proofs.Heard.{accepted_are}
use Rattle.log_marks.proofs.hearing.put_accepted.Goals as goal

pub returns : goal.returns
returns c =
    let x = c.args in
    let p =
    accepted_are x.v x.kept.now (unpacked x.was.now).state (unpacked x.row.now).state x.n _ _ _
    c.band_of-band.ensures c.title_at.ensures c.title_at-2.ensures _ _ _ _
    c.put_curve.ensures.written c.put_curve.ensures.kept_after c.put_turn.ensures.written c.put_turn.ensures.kept_after
    c.put_tick.ensures.written c.put_tick.ensures.kept_after c.put_tick_label.ensures.written c.put_tick_label.ensures.kept_after in
    record { written = p.0; kept_after = p.1 }

pub put_turn-requires : goal.put_turn-requires
put_turn-requires c = (
  c.put_curve.auto.kept ∙ c.requires.kept_len.0,
  (
    rw c.band_of-band.ensures c.requires.kept_len.1,
    title_timed _ _ c.requires.tested.0.ok (omega (arith, c.requires.kept_len.1)) _ c.title_at.ensures,
  ),
)
