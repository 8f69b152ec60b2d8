-- Where a moment lies across the plot, in columns of some tenths of a pixel.
use Rattle.std.specs.Prelude.{ℕ, ◌+◌, ◌-◌, ◌*◌, max}
use Rattle.drawing.specs.Axis.{plot_left, part_across}
use Rattle.strips.specs.declared.scale.Scale.{Scale}

unfoldable pub place_across : Scale → ℕ → ℕ
place_across s τ = plot_left + part_across s.columns s.span (τ - s.first) * s.grain

-- the right end of what lasts from one moment to another: a column at least
unfoldable pub end_across : Scale → ℕ → ℕ → ℕ
end_across s from to = max (place_across s to) (place_across s from + s.grain)
