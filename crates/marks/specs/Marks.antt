-- The marks beside the strips of a picture: events, the lives of titles, and refusals.
use Rattle.std.specs.Prelude.{ℕ, ◌+◌, ◌-◌, List, [], ◌++◌, leb, eqb}
use Rattle.rules.specs.Limits.{both}
use Rattle.rules.specs.Refusals.{pick, malformed, done}
use Rattle.notice.specs.declared.Notice.{Notice}
use Rattle.notice.specs.Encode.{kind_of}
use Rattle.story.specs.declared.Title.{Title}
use Rattle.scheme.specs.Scheme.{steady_kind}
use Rattle.text.specs.Texts.{text}
use Rattle.text.specs.Digits.{decimal}
use Rattle.clocks.specs.Clocks.{clock_text}
use Rattle.words.specs.Words.{meaning_text}
use Rattle.drawing.specs.Axis.{plot_left}
use Rattle.drawing.specs.declared.pieces.Area.{Area}
use Rattle.drawing.specs.Pieces.{rect_text, rect_end, label_text, label_end, path_text, point_text, step_text, path_end}
use Rattle.strips.specs.declared.scale.Scale.{Scale}
use Rattle.strips.specs.declared.scale.Band.{Band}
use Rattle.strips.specs.Scale.{place_across, end_across}
use Rattle.strips.specs.Kept.{events_at, event_labels_at, lives_at, life_labels_at, refusals_at, refusal_labels_at}
use Rattle.strips.specs.Kept.{is_new, drawn_to}
use Rattle.strips.specs.Lanes.{lane_top}
use Rattle.marks.specs.Notices.{act_label, notice_hover}

-- ---- events

abbrev pub event_area : Band → ℕ → Area
event_area b x = record { x = x; y = b.top + 170; width = 14; height = 120 }

-- the tick mark of an accepted notice, and what it does where that has room
unfoldable pub tick_text : Band → List ℕ → Notice → List ℕ
tick_text b kept n =
    pick (is_new kept (events_at b.id) (end_across b.scale n.time n.time))
    (rect_text (text "e") (kind_of n.kind) (event_area b (place_across b.scale n.time)) ++ notice_hover n done ++ rect_end) []

abbrev pub tick_kept : Band → List ℕ → Notice → List ℕ
tick_kept b kept n =
    drawn_to kept (events_at b.id) (end_across b.scale n.time n.time) (end_across b.scale n.time n.time)

unfoldable pub tick_label_text : Band → List ℕ → Notice → List ℕ
tick_label_text b kept n =
    pick (is_new kept (event_labels_at b.id) (place_across b.scale n.time))
    (label_text (text "small") (place_across b.scale n.time + 35) (b.top + 270) ++ act_label n.kind ++ label_end) []

abbrev pub tick_label_kept : Band → List ℕ → Notice → List ℕ
tick_label_kept b kept n =
    drawn_to kept (event_labels_at b.id) (place_across b.scale n.time) (place_across b.scale n.time + 700)

-- ---- the life of a title, from its opening to its end

unfoldable pub frame_text : Band → Title → ℕ → ℕ → List ℕ
frame_text b t x end =
    path_text (text "axis") ++ point_text 77 x b.top ++ step_text 72 end ++ step_text 86 (lane_top b.top t.film.cap) ++ step_text 72 x
    ++ step_text 86 b.top ++ path_end

unfoldable pub sort_text : ℕ → List ℕ
sort_text kind = pick (eqb kind steady_kind) (text ", skip-forward film of ") (text ", film of ")

unfoldable pub film_label : Band → Title → ℕ → List ℕ
film_label b t x =
    label_text (text "small") (x + 35) (b.top + 120) ++ text "title " ++ decimal b.id
    ++ sort_text t.film.kind ++ clock_text t.film.length ++ label_end

-- a life that ended at τ: its frame where that is new, and its label where that has room
unfoldable pub life_text : Band → List ℕ → Title → ℕ → List ℕ
life_text b kept t τ =
    pick (is_new kept (lives_at b.id) (end_across b.scale t.opened τ))
    (frame_text b t (place_across b.scale t.opened) (end_across b.scale t.opened τ)) []

abbrev pub life_kept : Band → List ℕ → Title → ℕ → List ℕ
life_kept b kept t τ = drawn_to kept (lives_at b.id) (end_across b.scale t.opened τ) (end_across b.scale t.opened τ)

unfoldable pub life_label_text : Band → List ℕ → Title → List ℕ
life_label_text b kept t =
    pick (is_new kept (life_labels_at b.id) (place_across b.scale t.opened)) (film_label b t (place_across b.scale t.opened)) []

abbrev pub life_label_kept : Band → List ℕ → Title → List ℕ
life_label_kept b kept t =
    drawn_to kept (life_labels_at b.id) (place_across b.scale t.opened) (place_across b.scale t.opened + 2200)

-- ---- refusals, in a row of their own

-- where a time is drawn: at the left edge where it lies outside what is drawn
unfoldable pub refused_place : Scale → ℕ → ℕ
refused_place s τ = pick (both (leb s.first τ) (leb (τ - s.first) s.span)) (place_across s τ) plot_left

abbrev pub refusal_area : ℕ → Area
refusal_area x = record { x = x; y = 560; width = 14; height = 120 }

-- a refused notice
unfoldable pub refused_mark : ℕ → List ℕ → Notice → ℕ → List ℕ
refused_mark x kept n answer =
    pick (is_new kept refusals_at (x + 1)) (rect_text (text "r") answer (refusal_area x) ++ notice_hover n answer ++ rect_end) []

-- bytes that are no notice
unfoldable pub broken_mark : List ℕ → List ℕ
broken_mark kept =
    pick (is_new kept refusals_at (plot_left + 1)) (rect_text (text "r") malformed (refusal_area plot_left) ++ meaning_text malformed ++ rect_end) []

abbrev pub refused_kept : ℕ → List ℕ → List ℕ
refused_kept x kept = drawn_to kept refusals_at (x + 1) (x + 1)

-- and its number, where that has room
unfoldable pub refused_label : ℕ → List ℕ → ℕ → List ℕ
refused_label x kept answer =
    pick (is_new kept refusal_labels_at (x + 1)) (label_text (text "note") (x + 25) 660 ++ decimal answer ++ label_end) []

abbrev pub refused_label_kept : ℕ → List ℕ → List ℕ
refused_label_kept x kept = drawn_to kept refusal_labels_at (x + 1) (x + 200)
