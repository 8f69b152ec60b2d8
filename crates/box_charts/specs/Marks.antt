-- The marks of cells taken, and the line at which cells play.
use Rattle.std.specs.Prelude.{ℕ, zero, suc, ◌+◌, ◌-◌, ◌*◌, max, List, [], ◌++◌, ltb}
use Rattle.rules.specs.Limits.{lane_places}
use Rattle.rules.specs.Refusals.{pick}
use Rattle.text.specs.Texts.{text}
use Rattle.text.specs.Digits.{decimal}
use Rattle.drawing.specs.declared.pieces.Area.{Area}
use Rattle.drawing.specs.Pieces.{rect_text, rect_end, path_text, point_text, step_text, path_end}
use Rattle.drawing.specs.Axis.{plot_left, x_of}
use Rattle.takings.specs.Takings.{place_tick, place_lane}
use Rattle.box_charts.specs.Axes.{taken_bottom, y_of}

-- the line: the first c of n cells have played at the end of their ticks
unfoldable pub plays_to : ℕ → ℕ → List ℕ
plays_to n zero = []
plays_to n (suc c) = plays_to n c ++ step_text 72 (x_of n (suc c)) ++ step_text 86 (y_of n (suc c))

unfoldable pub plays_text : ℕ → List ℕ
plays_text n = path_text (text "plays") ++ point_text 77 plot_left taken_bottom ++ plays_to n n ++ path_end

-- no mark is smaller
abbrev pub mark_least : ℕ
mark_least = 15

abbrev pub mark_width : ℕ → ℕ → ℕ
mark_width n tick = max (x_of n (tick + 1) - x_of n tick) mark_least

abbrev pub mark_height : ℕ → ℕ → ℕ
mark_height n c = max (y_of n c - y_of n (c + 1)) mark_least

-- the mark of cell c, taken in a tick: it ends where the tick ends
unfoldable pub mark_area : ℕ → ℕ → ℕ → Area
mark_area n tick c =
    record { x = x_of n (tick + 1) - mark_width n tick; y = y_of n (c + 1); width = mark_width n tick; height = mark_height n c }

-- what hovering tells of cell c, taken at a place
unfoldable pub taken_line : ℕ → ℕ → List ℕ
taken_line place c =
    text "cell " ++ decimal c ++ text ": taken in tick " ++ decimal (place_tick place) ++ text " from lane " ++ decimal (place_lane place)
    ++ text ", plays in tick " ++ decimal c

unfoldable pub mark_text : ℕ → ℕ → ℕ → List ℕ
mark_text n place c = rect_text (text "l") (place_lane place) (mark_area n (place_tick place) c) ++ taken_line place c ++ rect_end

-- a cell that is never taken has none
unfoldable pub mark_if : ℕ → ℕ → ℕ → List ℕ
mark_if n place c = pick (ltb place (n * lane_places)) (mark_text n place c) []

-- those of the first c of n cells
unfoldable pub marks_to : ℕ → (ℕ → ℕ) → ℕ → List ℕ
marks_to n place zero = []
marks_to n place (suc c) = marks_to n place c ++ mark_if n (place c) c
