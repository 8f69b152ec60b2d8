-- The whole picture of a box: of a title with so many lanes, which begins at a moment, with a tick of so many ms and n cells, each taken at its
-- place.
use Rattle.std.specs.Prelude.{ℕ, List, ◌++◌}
use Rattle.drawing.specs.Document.{svg_head, foot_text}
use Rattle.takings.specs.Takings.{kept_at, peak_to}
use Rattle.box_charts.specs.declared.Begun.{Begun}
use Rattle.box_charts.specs.Heading.{box_heading, meaning_line, lane_keys}
use Rattle.box_charts.specs.Axes.{quarters_text, frames_text}
use Rattle.box_charts.specs.Marks.{plays_text, marks_to}
use Rattle.box_charts.specs.Curve.{kept_curve, peak_text}

abbrev pub chart_width : ℕ
chart_width = 13_600

abbrev pub chart_height : ℕ
chart_height = 9_300

-- what stands above the plots, and their frames
unfoldable pub box_frame : Begun → ℕ → List ℕ
box_frame b n =
    svg_head chart_width chart_height
    ++ box_heading b.title b.moment
    ++ meaning_line n b.tick
    ++ lane_keys b.lanes
    ++ quarters_text b.moment b.tick n 5
    ++ frames_text

-- what is drawn into them
unfoldable pub drawn_text : (ℕ → ℕ) → ℕ → List ℕ
drawn_text place n =
    plays_text n
    ++ marks_to n place n
    ++ kept_curve n (peak_to (kept_at place n) n).many (kept_at place n)
    ++ peak_text (peak_to (kept_at place n) n)

unfoldable pub box_drawing : Begun → (ℕ → ℕ) → ℕ → List ℕ
box_drawing b place n = box_frame b n ++ drawn_text place n ++ foot_text
