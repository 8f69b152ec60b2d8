-- Parts of the limits of a title's stored numbers, as they are tested (01, "Numbers that calls give back"; `story` specs/Kept).
use Rattle.std.specs.Prelude.{Bool, leb}
use Rattle.rules.specs.Limits.{both, asked_max, count_max, count_places, lane_places}
use Rattle.story.specs.declared.Title.{Title}
use Rattle.story.specs.Kept.{held_mark, row_ok}

-- of a title's limits, those of its latest opening or change and of its rows
abbrev pub kept_ok : Title → Bool
kept_ok t =
    both (leb t.tuned asked_max)
    (both (row_ok t.ends count_places) (both (row_ok t.dropped lane_places) (row_ok t.owed lane_places)))

-- and those of everything that events turn
abbrev pub rest_ok : Title → Bool
rest_ok t =
    both (leb t.film.cap count_max)
    (both (leb t.count count_max) (both (leb t.mark held_mark) (both (leb t.last asked_max) (kept_ok t))))
