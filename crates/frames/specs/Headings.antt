-- The heading of a picture, and the lines of its curve.
use Rattle.std.specs.Prelude.{ℕ, ◌+◌, ◌-◌, List, ◌++◌}
use Rattle.text.specs.Texts.{text}
use Rattle.text.specs.Digits.{decimal}
use Rattle.clocks.specs.Clocks.{clock_text}
use Rattle.drawing.specs.Axis.{plot_left, plot_width}
use Rattle.drawing.specs.Pieces.{label_text, label_end, path_text, point_text, step_text, path_end}
use Rattle.curves.specs.declared.Curve.{Curve}
use Rattle.curves.specs.Curves.{height_of}

unfoldable pub heading_text : ℕ → ℕ → ℕ → List ℕ
heading_text pool first end =
    label_text (text "head") plot_left 240 ++ text "A pool of " ++ decimal pool ++ text " lanes, " ++ clock_text first ++ text " to "
    ++ clock_text end ++ label_end

abbrev pub legend_text : List ℕ
legend_text =
    text
    "<text class='small' x='90.0' y='42.0'>filled: a lane is active; hatched: it sends what it owes; grey: doors held; red: a refused notice</text>\n"
    ++ text "<text class='small right' x='85.0' y='66.0'>refused</text>\n"

-- a line across the plot
unfoldable pub across_text : List ℕ → ℕ → List ℕ
across_text class y = path_text class ++ point_text 77 plot_left y ++ step_text 72 (plot_left + plot_width) ++ path_end

-- the lines of no lanes and of the pool
unfoldable pub pool_lines : Curve → List ℕ
pool_lines c =
    across_text (text "axis") c.base ++ across_text (text "limit") (height_of c c.pool)
    ++ label_text (text "small right") (plot_left - 50) c.base ++ text "lanes held" ++ label_end
    ++ label_text (text "small right") (plot_left - 50) (height_of c c.pool) ++ text "pool " ++ decimal c.pool ++ label_end
