-- What is left to draw at a log's end: the stretches that no event ended, and bytes that are no notice.
use Rattle.std.specs.Prelude.{ℕ, zero, suc, true, false, List, [], ◌++◌, ltb, eqb}
use Rattle.rules.specs.Limits.{count_max}
use Rattle.rules.specs.Refusals.{pick, malformed}
use Rattle.story.specs.declared.Title.{Title}
use Rattle.story.specs.declared.State.{State}
use Rattle.story.specs.Kept.{absent_mode, open_mode, title_at, ruling}
use Rattle.drawing.specs.Axis.{plot_left}
use Rattle.spans.specs.Extents.{title_until}
use Rattle.strips.specs.declared.scale.Band.{Band}
use Rattle.strips.specs.Lanes.{lanes_marks, lanes_kept}
use Rattle.strips.specs.Doors.{doors_mark, doors_kept}
use Rattle.marks.specs.Marks.{broken_mark, refused_kept, refused_label, refused_label_kept}
use Rattle.frames.specs.declared.bands.View.{View}
use Rattle.frames.specs.Bands.{band_of}
use Rattle.log_marks.specs.Hearing.{life_marks, life_marks_kept}

-- when the life of a title ends that stands so at the end: with the picture if it is open, else when its lanes are released
unfoldable pub left_until : Title → ℕ → ℕ
left_until t end = pick (eqb t.mode open_mode) end (title_until t)

-- the stretches of its lanes and its doors end with the picture, or at a release before that
abbrev pub left_lanes : Band → List ℕ → Title → ℕ → List ℕ
left_lanes b kept t end = lanes_kept b (life_marks_kept b kept t (left_until t end)) t (ruling t) true end count_max

unfoldable pub left_marks : Band → List ℕ → Title → ℕ → List ℕ
left_marks b kept t end =
    pick (eqb t.mode absent_mode) []
    (life_marks b kept t (left_until t end)
    ++ lanes_marks b (life_marks_kept b kept t (left_until t end)) t (ruling t) true end count_max
    ++ doors_mark b (left_lanes b kept t end) t false end)

unfoldable pub left_kept : Band → List ℕ → Title → ℕ → List ℕ
left_kept b kept t end = pick (eqb t.mode absent_mode) kept (doors_kept b (left_lanes b kept t end) t false end)

-- the first n titles, one after the other
unfoldable pub all_kept : View → State → List ℕ → ℕ → ℕ → List ℕ
all_kept v s kept end zero = kept
all_kept v s kept end (suc i) = left_kept (band_of v i) (all_kept v s kept end i) (title_at s i) end

unfoldable pub all_marks : View → State → List ℕ → ℕ → ℕ → List ℕ
all_marks v s kept end zero = []
all_marks v s kept end (suc i) = all_marks v s kept end i ++ left_marks (band_of v i) (all_kept v s kept end i) (title_at s i) end

-- where the reading of a log of some size stopped before its end
unfoldable pub cut_marks : List ℕ → ℕ → ℕ → List ℕ
cut_marks kept place size =
    pick (ltb place size) (broken_mark kept ++ refused_label plot_left (refused_kept plot_left kept) malformed) []

unfoldable pub cut_kept : List ℕ → ℕ → ℕ → List ℕ
cut_kept kept place size = pick (ltb place size) (refused_label_kept plot_left (refused_kept plot_left kept)) kept
