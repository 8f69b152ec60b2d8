-- The limits of a title's stored numbers in two parts, as they are tested: those of each number by itself and their order, and the one
-- limit of every time, tick and number of owed cells.
use Rattle.std.specs.Prelude.{ℕ, Bool, not, leb, eqb}
use Rattle.rules.specs.Limits.{both, either, within, pool_min, floor_min, floor_max, steady_max, count_max, length_min, length_max, asked_max}
use Rattle.rules.specs.Limits.{count_places, lane_places}
use Rattle.rules.specs.Refusals.{pick}
use Rattle.scheme.specs.Scheme.{steady_kind}
use Rattle.story.specs.declared.Title.{Title}
use Rattle.story.specs.Kept.{absent_mode, closing_mode, held_mark, row_ok, order_ok}

-- the upper limits of a title's small numbers
unfoldable pub small_numbers : (mode kind length floor cap count mark : ℕ) → Bool
small_numbers mode kind length floor cap count mark =
    both (leb mode closing_mode)
    (both (leb kind steady_kind)
    (both (leb length length_max)
    (both (leb cap count_max)
    (both (leb count count_max) (both (leb mark held_mark) (leb floor (pick (eqb kind steady_kind) steady_max floor_max)))))))

-- the lower limits and the order of those of a title that is there
unfoldable pub ordered_numbers : (kind length floor cap count : ℕ) → Bool
ordered_numbers kind length floor cap count =
    both (leb length_min length)
    (both (leb floor_min floor)
    (both (leb floor cap) (both (within floor cap count) (either (not (eqb kind steady_kind)) (eqb floor cap)))))

-- all of these, in a state with some pool: a title that is there has a pool
unfoldable pub small_ok : ℕ → Title → Bool
small_ok pool t =
    both (small_numbers t.mode t.film.kind t.film.length t.film.floor t.film.cap t.count t.mark)
    (either (eqb t.mode absent_mode) (both (leb pool_min pool) (order_ok t)))

-- its times, and its rows
unfoldable pub times_ok : Title → Bool
times_ok t =
    both (leb t.opened asked_max)
    (both (leb t.last asked_max)
    (both (leb t.tuned asked_max)
    (both (row_ok t.ends count_places) (both (row_ok t.dropped lane_places) (row_ok t.owed lane_places)))))
