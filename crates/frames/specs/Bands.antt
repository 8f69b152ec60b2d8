-- The bands of a picture, one below the other: each has its labels and a row for each lane; an id that was never opened has none.
use Rattle.std.specs.Prelude.{ℕ, zero, suc, ◌+◌, ◌-◌, ◌*◌, List, [], ◌++◌, eqb, get_or}
use Rattle.rules.specs.Refusals.{pick}
use Rattle.rules.specs.Search.{total}
use Rattle.text.specs.Texts.{text}
use Rattle.text.specs.Digits.{decimal}
use Rattle.drawing.specs.Axis.{plot_left, plot_width}
use Rattle.drawing.specs.declared.pieces.Area.{Area}
use Rattle.drawing.specs.Pieces.{rect_text, rect_end, label_text, label_end}
use Rattle.strips.specs.declared.scale.Band.{Band}
use Rattle.strips.specs.Lanes.{lanes_down, lane_step}
use Rattle.frames.specs.declared.bands.View.{View}

-- how high a band with rows for so many lanes is, and the same with the room below it
abbrev pub lanes_height : ℕ → ℕ
lanes_height K = lanes_down + K * lane_step

unfoldable pub band_height : ℕ → ℕ
band_height K = pick (eqb K 0) 0 (lanes_height K + 100)

abbrev pub height_most : ℕ
height_most = 23_430

abbrev pub bands_top : ℕ
bands_top = 800

-- where the band of id n begins: below those before it
unfoldable pub top_of : View → ℕ → ℕ
top_of v n = bands_top + total (λ i. band_height (get_or v.caps i 0)) n

abbrev pub band_of : View → ℕ → Band
band_of v i = record { scale = v.curve.scale; id = i; top = top_of v i }

abbrev pub band_area : View → ℕ → Area
band_area v i = record { x = plot_left; y = top_of v i; width = plot_width; height = lanes_height (get_or v.caps i 0) }

-- its background, and its number left of it
unfoldable pub band_text : View → ℕ → List ℕ
band_text v i =
    pick (eqb (get_or v.caps i 0) 0) []
    (rect_text (text "b") 0 (band_area v i) ++ text "title " ++ decimal i ++ rect_end
    ++ label_text (text "small right") (plot_left - 50) (top_of v i + lanes_down + 80) ++ text "title " ++ decimal i ++ label_end)

unfoldable pub bands_text : View → ℕ → List ℕ
bands_text v zero = []
bands_text v (suc i) = bands_text v i ++ band_text v i
