-- How many cells a box keeps, tick by tick, as a step curve, and the most that it keeps.
use Rattle.std.specs.Prelude.{ℕ, zero, suc, ◌+◌, ◌-◌, List, [], ◌++◌}
use Rattle.text.specs.Texts.{text}
use Rattle.text.specs.Digits.{decimal}
use Rattle.drawing.specs.Pieces.{label_text, label_end, path_text, point_text, step_text, path_end}
use Rattle.drawing.specs.Axis.{part_across, plot_left, x_of}
use Rattle.takings.specs.declared.Peak.{Peak}
use Rattle.box_charts.specs.Axes.{kept_top, kept_height, kept_bottom, plot_right}

-- how high so many kept cells reach, where the most fill the plot
unfoldable pub kept_y : ℕ → ℕ → ℕ
kept_y most many = kept_bottom - part_across kept_height most many

-- the first t of n ticks, by the number kept in each
unfoldable pub curve_to : ℕ → ℕ → (ℕ → ℕ) → ℕ → List ℕ
curve_to n most kept zero = []
curve_to n most kept (suc t) = curve_to n most kept t ++ step_text 86 (kept_y most (kept t)) ++ step_text 72 (x_of n (suc t))

unfoldable pub kept_curve : ℕ → ℕ → (ℕ → ℕ) → List ℕ
kept_curve n most kept =
    path_text (text "curve") ++ point_text 77 plot_left kept_bottom ++ curve_to n most kept n ++ step_text 86 kept_bottom ++ path_end

-- the line of the most, and what it is
unfoldable pub peak_text : Peak → List ℕ
peak_text p =
    path_text (text "limit") ++ point_text 77 plot_left kept_top ++ step_text 72 plot_right ++ path_end
    ++ label_text (text "note") (plot_left + 60) (kept_top - 80)
    ++ text "cells kept: at most " ++ decimal p.many ++ text ", first in tick " ++ decimal p.tick ++ label_end
