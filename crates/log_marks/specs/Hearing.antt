-- What one notice leaves in the picture, by what the agent makes of it, and the row of numbers that is kept after it.
use Rattle.std.specs.Prelude.{ℕ, ◌≡◌, Bool, not, List, [], ◌++◌, leb, eqb}
use Rattle.rules.specs.Limits.{both, id_max, count_max}
use Rattle.rules.specs.Refusals.{pick, done}
use Rattle.notice.specs.declared.Notice.{Notice}
use Rattle.notice.specs.declared.Reading.TheVariants as reading
use Rattle.story.specs.declared.Title.{Title}
use Rattle.story.specs.declared.State.{State}
use Rattle.story.specs.Kept.{open_mode, closing_mode, title_at, ruling, is_shut}
use Rattle.agent.specs.declared.Agent.{Agent}
use Rattle.agent.specs.Turns.{notice_answer, noticed}
use Rattle.agent_rows.specs.Packed.{unpacked}
use Rattle.row_calls.specs.inner.Steps.{SoundAgentRow}
use Rattle.spans.specs.Extents.{title_until}
use Rattle.strips.specs.declared.scale.Band.{Band}
use Rattle.strips.specs.Lanes.{lanes_marks, lanes_kept}
use Rattle.strips.specs.Doors.{doors_mark, doors_kept}
use Rattle.marks.specs.Marks.{tick_text, tick_kept, tick_label_text, tick_label_kept, life_text, life_kept, life_label_text, life_label_kept}
use Rattle.marks.specs.Marks.{refused_place, refused_mark, refused_kept, refused_label, refused_label_kept}
use Rattle.curves.specs.Curves.{curve_text, curve_kept}
use Rattle.frames.specs.declared.bands.View.{View}
use Rattle.frames.specs.Bands.{band_of}

-- ---- the life of a title that ended at τ

unfoldable pub life_marks : Band → List ℕ → Title → ℕ → List ℕ
life_marks b kept t τ = life_text b kept t τ ++ life_label_text b (life_kept b kept t τ) t

abbrev pub life_marks_kept : Band → List ℕ → Title → ℕ → List ℕ
life_marks_kept b kept t τ = life_label_kept b (life_kept b kept t τ) t

-- at an event: that of a title which had closed before it
unfoldable pub past_marks : Band → List ℕ → Title → List ℕ
past_marks b kept t = pick (eqb t.mode closing_mode) (life_marks b kept t (title_until t)) []

unfoldable pub past_kept : Band → List ℕ → Title → List ℕ
past_kept b kept t = pick (eqb t.mode closing_mode) (life_marks_kept b kept t (title_until t)) kept

-- ---- an event at τ, before which its title stood as t and behind which it stands as u: at an opening all stretches of the old life are over

abbrev pub turned_lanes : Band → List ℕ → Title → Title → ℕ → List ℕ
turned_lanes b kept t u τ = lanes_kept b (past_kept b kept t) t (ruling u) (not (eqb t.mode open_mode)) τ count_max

unfoldable pub turn_marks : Band → List ℕ → Title → Title → ℕ → List ℕ
turn_marks b kept t u τ =
    past_marks b kept t ++ lanes_marks b (past_kept b kept t) t (ruling u) (not (eqb t.mode open_mode)) τ count_max
    ++ doors_mark b (turned_lanes b kept t u τ) t (is_shut u) τ

unfoldable pub turn_kept : Band → List ℕ → Title → Title → ℕ → List ℕ
turn_kept b kept t u τ = doors_kept b (turned_lanes b kept t u τ) t (is_shut u) τ

-- ---- an accepted notice, before which the state was s and behind which it is q

abbrev pub kept_of_curve : View → List ℕ → State → Notice → List ℕ
kept_of_curve v kept s n = curve_kept v.curve s kept s.last n.time

abbrev pub kept_of_turn : View → List ℕ → State → State → Notice → List ℕ
kept_of_turn v kept s q n =
    turn_kept (band_of v n.title) (kept_of_curve v kept s n) (title_at s n.title) (title_at q n.title) n.time

unfoldable pub accepted_marks : View → List ℕ → State → State → Notice → List ℕ
accepted_marks v kept s q n =
    curve_text v.curve s kept s.last n.time
    ++ turn_marks (band_of v n.title) (kept_of_curve v kept s n) (title_at s n.title) (title_at q n.title) n.time
    ++ tick_text (band_of v n.title) (kept_of_turn v kept s q n) n
    ++ tick_label_text (band_of v n.title) (tick_kept (band_of v n.title) (kept_of_turn v kept s q n) n) n

unfoldable pub accepted_kept : View → List ℕ → State → State → Notice → List ℕ
accepted_kept v kept s q n = tick_label_kept (band_of v n.title) (tick_kept (band_of v n.title) (kept_of_turn v kept s q n) n) n

-- ---- a refused one

unfoldable pub unheard_marks : View → List ℕ → Notice → ℕ → List ℕ
unheard_marks v kept n answer =
    refused_mark (refused_place v.curve.scale n.time) kept n answer
    ++ refused_label (refused_place v.curve.scale n.time) (refused_kept (refused_place v.curve.scale n.time) kept) answer

unfoldable pub unheard_kept : View → List ℕ → Notice → List ℕ
unheard_kept v kept n =
    refused_label_kept (refused_place v.curve.scale n.time) (refused_kept (refused_place v.curve.scale n.time) kept)

-- ---- any, told to agent g

abbrev pub is_heard : Agent → Notice → Bool
is_heard g n = both (eqb (notice_answer g (reading.Whole n)) done) (leb n.title id_max)

unfoldable pub notice_marks : View → Agent → Notice → List ℕ → List ℕ
notice_marks v g n kept =
    pick (is_heard g n) (accepted_marks v kept g.state (noticed g (reading.Whole n)).state n)
    (unheard_marks v kept n (notice_answer g (reading.Whole n)))

unfoldable pub notice_kept : View → Agent → Notice → List ℕ → List ℕ
notice_kept v g n kept =
    pick (is_heard g n) (accepted_kept v kept g.state (noticed g (reading.Whole n)).state n) (unheard_kept v kept n)

-- the row of the agent that took the notice
pub record Takes (r : List ℕ) (n : Notice) (x : List ℕ) : Type 0 where
  pub agent_is : unpacked x ≡ noticed (unpacked r) (reading.Whole n)
  pub is_row : SoundAgentRow x
