-- What stands above a box's picture: whose it is, what its marks mean, and the shade of each lane.
use Rattle.std.specs.Prelude.{ℕ, zero, suc, ◌+◌, ◌*◌, List, [], ◌++◌}
use Rattle.text.specs.Texts.{text}
use Rattle.text.specs.Digits.{decimal}
use Rattle.clocks.specs.Clocks.{clock_text}
use Rattle.drawing.specs.Pieces.{rect_text, rect_end, label_text, label_end}
use Rattle.drawing.specs.Axis.{plot_left}

unfoldable pub box_heading : ℕ → ℕ → List ℕ
box_heading title moment =
    label_text (text "head") plot_left 360
    ++ text "Title " ++ decimal title ++ text ": the box that begins at " ++ clock_text moment
    ++ label_end

unfoldable pub meaning_line : ℕ → ℕ → List ℕ
meaning_line n tick =
    label_text (text "small") plot_left 570
    ++ decimal n ++ text " cells, one plays in each tick of " ++ decimal tick
    ++ text " ms. A mark: the tick in which a cell is taken, in the shade of its lane. The line: the tick in which it plays."
    ++ label_end

-- the shade of a lane and its name
unfoldable pub lane_name : ℕ → List ℕ
lane_name l = text "lane " ++ decimal l

-- the keys stand so far apart
abbrev pub key_step : ℕ
key_step = 950

unfoldable pub lane_key : ℕ → List ℕ
lane_key l =
    rect_text (text "l") l (record { x = plot_left + l * key_step; y = 690; width = 140; height = 140 }) ++ lane_name l ++ rect_end
    ++ label_text (text "small") (plot_left + l * key_step + 190) 800 ++ lane_name l ++ label_end

unfoldable pub lane_keys : ℕ → List ℕ
lane_keys zero = []
lane_keys (suc l) = lane_keys l ++ lane_key l
