-- `figures::segments::on_channel` meets its contract: a cell of the cap is below the cells of the largest cap.
use mathlib.Core.Path.{◌∙◌, ap}
use native.Mathlib.Nat.{lt_of_lt_of_le}
use lib.Pow.{pow_mono}
use Rattle.figures.specs.Segments.{segment_of}
use Rattle.figures.proofs.segments.on_channel.Goals as goal

pub segment_of-requires : goal.segment_of-requires
segment_of-requires c = record { count_cap = record { fit = c.requires.counted.fit; high = c.requires.counted.high }; cell_bound = lt_of_lt_of_le c.channel_cell-cell.ensures.within (pow_mono c.requires.counted.high) }

pub returns : goal.returns
returns c = c.segment_of.ensures ∙ ap (segment_of _ _) c.channel_cell-cell.ensures.is
