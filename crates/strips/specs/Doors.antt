-- Doors that are held: a strip above the lanes.
use Rattle.std.specs.Prelude.{ℕ, ◌+◌, ◌-◌, Bool, not, List, [], ◌++◌, get_or, set}
use Rattle.rules.specs.Limits.{both}
use Rattle.rules.specs.Refusals.{pick}
use Rattle.story.specs.declared.Title.{Title}
use Rattle.story.specs.Kept.{is_shut}
use Rattle.text.specs.Texts.{text}
use Rattle.clocks.specs.Clocks.{clock_text}
use Rattle.drawing.specs.declared.pieces.Area.{Area}
use Rattle.drawing.specs.Pieces.{rect_text, rect_end}
use Rattle.strips.specs.declared.scale.Band.{Band}
use Rattle.strips.specs.Scale.{place_across, end_across}
use Rattle.strips.specs.Kept.{doors_since_at, doors_at, is_new, drawn_to}

abbrev pub doors_area : Band → ℕ → ℕ → Area
doors_area b x end = record { x = x; y = b.top + 300; width = end - x; height = 56 }

-- doors that were held from one moment to another
unfoldable pub held_text : Band → List ℕ → ℕ → ℕ → List ℕ
held_text b kept from τ =
    pick (is_new kept (doors_at b.id) (end_across b.scale from τ))
    (rect_text (text "d") 0 (doors_area b (place_across b.scale from) (end_across b.scale from τ))
    ++ text "doors held, " ++ clock_text from ++ text " to " ++ clock_text τ ++ rect_end)
    []

abbrev pub held_kept : Band → List ℕ → ℕ → ℕ → List ℕ
held_kept b kept from τ = drawn_to kept (doors_at b.id) (end_across b.scale from τ) (end_across b.scale from τ)

-- at τ the doors are held from now on, or not
unfoldable pub doors_mark : Band → List ℕ → Title → Bool → ℕ → List ℕ
doors_mark b kept t held τ =
    pick (both (is_shut t) (not held)) (held_text b kept (get_or kept (doors_since_at b.id) 0) τ) []

unfoldable pub doors_kept : Band → List ℕ → Title → Bool → ℕ → List ℕ
doors_kept b kept t held τ =
    pick (is_shut t) (pick held kept (held_kept b kept (get_or kept (doors_since_at b.id) 0) τ))
    (pick held (set kept (doors_since_at b.id) τ) kept)
