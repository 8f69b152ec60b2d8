-- The rows of a title's lanes: filled where a lane is active, hatched where it sends, and the end of what it sends marked.
use Rattle.std.specs.Prelude.{ℕ, zero, suc, ◌+◌, ◌-◌, ◌*◌, max, Bool, Option, Some, None, is_some, List, [], ◌++◌, get_or, set}
use Rattle.rules.specs.Limits.{either, lane_max}
use Rattle.rules.specs.Refusals.{pick}
use Rattle.story.specs.declared.Title.{Title}
use Rattle.text.specs.Texts.{text}
use Rattle.text.specs.Digits.{decimal}
use Rattle.text.specs.Numbers.{four_bytes_most}
use Rattle.clocks.specs.Clocks.{clock_text}
use Rattle.drawing.specs.declared.pieces.Area.{Area}
use Rattle.drawing.specs.Pieces.{rect_text, rect_end, path_text, point_text, step_text, path_end}
use Rattle.strips.specs.declared.scale.Band.{Band}
use Rattle.strips.specs.declared.states.Stretch.{Stretch}
use Rattle.strips.specs.Scale.{place_across, end_across}
use Rattle.strips.specs.Kept.{since_at, lanes_at, is_new}
use Rattle.strips.specs.States.{stretch_since, switches}

-- a band's first lane, from its top, and from one lane to the next
abbrev pub lanes_down : ℕ
lanes_down = 380

abbrev pub lane_step : ℕ
lane_step = 90

-- the top of a lane's row in a band; the lowest that there is, the last lane's where the band's top has four bytes; and a row's height
unfoldable pub lane_top : ℕ → ℕ → ℕ
lane_top top l = top + lanes_down + l * lane_step

abbrev pub lowest_top : ℕ
lowest_top = four_bytes_most + lanes_down + lane_max * lane_step

abbrev pub lane_height : ℕ
lane_height = 76

-- active, or sending so many cells
unfoldable pub doing_text : Option ℕ → List ℕ
doing_text None = text ", active"
doing_text (Some cells) = text ", sending " ++ decimal cells ++ text " cells"

-- what hovering over a stretch tells: the lane, from when to when, active or sending so many cells
unfoldable pub hover_text : ℕ → Stretch → List ℕ
hover_text l S =
    text "lane " ++ decimal l ++ text ", " ++ clock_text S.from ++ text " to " ++ clock_text S.to
    ++ doing_text S.owed

-- the end of what a lane sends
unfoldable pub tail_text : ℕ → ℕ → List ℕ
tail_text x y = path_text (text "axis") ++ point_text 77 x y ++ step_text 86 (y + lane_height) ++ path_end

abbrev pub lane_area : Band → ℕ → ℕ → ℕ → Area
lane_area b l x end = record { x = x; y = lane_top b.top l; width = end - x; height = lane_height }

-- a stretch of lane l, from one place of its row to another
unfoldable pub strip_text : Band → ℕ → ℕ → ℕ → Stretch → List ℕ
strip_text b l x end S =
    pick (is_some S.owed)
    (rect_text (text "s") b.id (lane_area b l x end) ++ hover_text l S ++ rect_end ++ tail_text end (lane_top b.top l))
    (rect_text (text "t") b.id (lane_area b l x end) ++ hover_text l S ++ rect_end)

-- its left end, which is no further left than what was drawn last, and its right one
abbrev pub left_of : Band → List ℕ → ℕ → Stretch → ℕ
left_of b kept l S = max (place_across b.scale S.from) (get_or kept (lanes_at b.id l) 0)

abbrev pub right_of : Band → Stretch → ℕ
right_of b S = end_across b.scale S.from S.to

-- a stretch that ends is drawn where it is new in its row
abbrev pub is_drawn : Band → List ℕ → ℕ → Stretch → Bool
is_drawn b kept l S = is_new kept (lanes_at b.id l) (right_of b S)

unfoldable pub ended_text : Band → List ℕ → ℕ → Option Stretch → List ℕ
ended_text b kept l None = []
ended_text b kept l (Some S) = pick (is_drawn b kept l S) (strip_text b l (left_of b kept l S) (right_of b S) S) []

unfoldable pub ended_kept : Band → List ℕ → ℕ → Option Stretch → List ℕ
ended_kept b kept l None = kept
ended_kept b kept l (Some S) = pick (is_drawn b kept l S) (set kept (lanes_at b.id l) (right_of b S)) kept

-- the stretch that lane l is in, as far as τ
abbrev pub lane_stretch : Band → List ℕ → Title → ℕ → ℕ → Option Stretch
lane_stretch b kept t τ l = stretch_since t l (get_or kept (since_at b.id l) 0) τ

-- at τ count k rules from now on: a lane's stretch ends where the lane switches, or where all stretches are over
unfoldable pub lane_mark : Band → List ℕ → Title → ℕ → Bool → ℕ → ℕ → List ℕ
lane_mark b kept t k over τ l = pick (either (switches t k l) over) (ended_text b kept l (lane_stretch b kept t τ l)) []

unfoldable pub lane_kept : Band → List ℕ → Title → ℕ → Bool → ℕ → ℕ → List ℕ
lane_kept b kept t k over τ l =
    pick (switches t k l) (set (ended_kept b kept l (lane_stretch b kept t τ l)) (since_at b.id l) τ)
    (pick over (ended_kept b kept l (lane_stretch b kept t τ l)) kept)

-- the first n lanes, one after the other
unfoldable pub lanes_kept : Band → List ℕ → Title → ℕ → Bool → ℕ → ℕ → List ℕ
lanes_kept b kept t k over τ zero = kept
lanes_kept b kept t k over τ (suc l) = lane_kept b (lanes_kept b kept t k over τ l) t k over τ l

unfoldable pub lanes_marks : Band → List ℕ → Title → ℕ → Bool → ℕ → ℕ → List ℕ
lanes_marks b kept t k over τ zero = []
lanes_marks b kept t k over τ (suc l) =
    lanes_marks b kept t k over τ l ++ lane_mark b (lanes_kept b kept t k over τ l) t k over τ l
