-- Where things lie: a part of a length, the place of a moment across the plot, and a time marked on the axis.
use Rattle.std.specs.Prelude.{ℕ, ◌+◌, ◌*◌, ◌/◌, ◌^◌, min, max, List, ◌++◌}
use Rattle.text.specs.Texts.{text}
use Rattle.clocks.specs.Clocks.{clock_text}
use Rattle.drawing.specs.Pieces.{step_text, point_text, path_text, path_end, label_text, label_end}

-- a span that may be divided by: one at least, and no more than any time that is drawn
abbrev pub span_most : ℕ
span_most = 2 ^ 42

abbrev pub span_held : ℕ → ℕ
span_held span = max 1 (min span span_most)

-- the part of a whole that n of a span make, rounded down; all of it from the span's end on
unfoldable pub part_across : ℕ → ℕ → ℕ → ℕ
part_across whole span n = min n (span_held span) * whole / span_held span

-- the plot's left edge and width, the same in every picture
abbrev pub plot_left : ℕ
plot_left = 900

abbrev pub plot_width : ℕ
plot_width = 12_000

-- where n of a span lie
unfoldable pub x_of : ℕ → ℕ → ℕ
x_of span n = plot_left + part_across plot_width span n

-- a mark down from a place, and below it a time in hours, minutes and seconds
unfoldable pub time_mark_text : ℕ → ℕ → ℕ → List ℕ
time_mark_text x y ms =
    path_text (text "axis") ++ point_text 77 x y ++ step_text 86 (y + 60) ++ path_end
    ++ label_text (text "time") x (y + 190) ++ clock_text ms ++ label_end
