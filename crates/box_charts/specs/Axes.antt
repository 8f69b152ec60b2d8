-- The two plots of a box's picture: where they lie, their frames, and at each quarter of the box's ticks the tick, the cell and the time.
use Rattle.std.specs.Prelude.{ℕ, zero, suc, ◌+◌, ◌-◌, ◌*◌, ◌/◌, List, [], ◌++◌}
use Rattle.text.specs.Texts.{text}
use Rattle.text.specs.Digits.{decimal}
use Rattle.drawing.specs.Pieces.{label_text, label_end, path_text, point_text, step_text, path_end}
use Rattle.drawing.specs.Axis.{part_across, plot_left, plot_width, x_of, time_mark_text}

-- the plot of cells taken, and below it that of cells kept
abbrev pub taken_top : ℕ
taken_top = 1_000

abbrev pub taken_height : ℕ
taken_height = 5_600

abbrev pub taken_bottom : ℕ
taken_bottom = taken_top + taken_height

abbrev pub kept_top : ℕ
kept_top = 7_400

abbrev pub kept_height : ℕ
kept_height = 1_500

abbrev pub kept_bottom : ℕ
kept_bottom = kept_top + kept_height

abbrev pub plot_right : ℕ
plot_right = plot_left + plot_width

-- how high the first c of n cells reach
unfoldable pub y_of : ℕ → ℕ → ℕ
y_of n c = taken_bottom - part_across taken_height n c

-- both frames, left and below, and what is counted upwards
unfoldable pub frames_text : List ℕ
frames_text =
    path_text (text "axis") ++ point_text 77 plot_left taken_top ++ step_text 86 taken_bottom ++ step_text 72 plot_right
    ++ point_text 77 plot_left kept_top ++ step_text 86 kept_bottom ++ step_text 72 plot_right ++ path_end
    ++ label_text (text "right") (plot_left - 80) (taken_top - 140) ++ text "cell" ++ label_end

-- q quarters of n
abbrev pub quarters_of : ℕ → ℕ → ℕ
quarters_of n q = n * q / 4

-- at a quarter: a line through both plots, and the tick between them,
unfoldable pub quarter_line : ℕ → ℕ → List ℕ
quarter_line n q =
    path_text (text "grid") ++ point_text 77 (x_of 4 q) taken_top ++ step_text 86 kept_bottom ++ path_end
    ++ label_text (text "time") (x_of 4 q) (taken_bottom + 200) ++ text "tick " ++ decimal (quarters_of n q) ++ label_end

-- the cell at the left, and below all the time
unfoldable pub quarter_marks : ℕ → ℕ → ℕ → ℕ → List ℕ
quarter_marks moment tick n q =
    label_text (text "right") (plot_left - 80) (y_of 4 q + 40) ++ decimal (quarters_of n q) ++ label_end
    ++ time_mark_text (x_of 4 q) kept_bottom (moment + quarters_of n q * tick)

unfoldable pub quarters_text : ℕ → ℕ → ℕ → ℕ → List ℕ
quarters_text moment tick n zero = []
quarters_text moment tick n (suc q) = quarters_text moment tick n q ++ quarter_line n q ++ quarter_marks moment tick n q
