-- `grid::lane_cell` meets its contract: below the floor the channel of count A, from there on the added one.
-- Rests on the laws of the lanes.
use mathlib.Core.Path.{sym, ap, ◌∙◌}
use Prim.Native.Nat.{suc}
use native.Mathlib.Numerals.{add-one}
use Rattle.grid.specs.Channels.{channel_cell}
use Rattle.grid.proofs.Lanes.{lane_channel, lane_added}
use Rattle.grid.proofs.lane_cell.Goals as goal

pub returns-then-lane-floor : goal.returns-then-lane-floor
returns-then-lane-floor c =
    let a = c.args in
    record {
      is = c.channel_cell.ensures.is ∙ sym (lane_channel a.floor a.cap a.lane a.tick c.if-lane-floor.true);
      within = c.channel_cell.ensures.within;
    }

pub returns : goal.returns
returns c =
    let a = c.args in
    let r = c.added_channel in
    record {
      is = c.channel_cell-2.ensures.is
          ∙ ap (λ n. channel_cell a.floor a.cap n r.result a.tick) (add-one a.lane)
          ∙ ap (λ d. channel_cell a.floor a.cap (suc a.lane) d a.tick) r.ensures.is
          ∙ sym (lane_added a.floor a.cap a.lane a.tick c.if-lane-floor.false);
      within = c.channel_cell-2.ensures.within;
    }
