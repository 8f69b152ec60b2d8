-- What each lane of a title shows over some ticks (docs/CONSOLE.md, "Commands": lanes).
use Rattle.std.specs.Prelude.{ℕ, ◌+◌, ◌*◌, not, List, [], ◌∷◌, ◌++◌, leb, ltb, eqb}
use Rattle.rules.specs.Limits.{both, within, id_max, asked_max}
use Rattle.rules.specs.Refusals.{pick, Rule, first_hit, done, not_there}
use Rattle.story.specs.declared.State.{State}
use Rattle.story.specs.Orders.{lane_order}
use Rattle.story.specs.Kept.{title_at, title_tick, state_ok, tick_at, is_there}
use Rattle.story.specs.Calls.{lane_answer, lane_shows}
use Rattle.text.specs.Texts.{text}
use Rattle.text.specs.Digits.{decimal}
use Rattle.console_commands.specs.Commands.{do_lanes}
use Rattle.outlook.specs.Outlook.{presence_of}
use Rattle.console_limits.specs.Quantities.{ticks_min, ticks_most}
use Rattle.console_limits.specs.Asked.{asked_reason}
use Rattle.console_reasons.specs.Lanes.{missing_text, last_in}
use Rattle.words.specs.Words.{refusal_text}
use Rattle.console_answers.specs.Entries.{entry, each}

-- the order of a lane question, of the title: 3 where it isn't there at the time
abbrev pub lanes_rules : State → ℕ → ℕ → ℕ → List Rule
lanes_rules s i τ n =
    lane_order (not (both (state_ok s) (both (leb i id_max) (both (leb τ asked_max) (within ticks_min ticks_most n)))))
    (ltb τ (title_at s i).last)
    (not (is_there (title_at s i) τ))

unfoldable pub lanes_answer : State → ℕ → ℕ → ℕ → ℕ
lanes_answer s i τ n = first_hit (lanes_rules s i τ n)

-- what the lane question answers at a time, `.` where it refuses
unfoldable pub shown_text : State → ℕ → ℕ → ℕ → List ℕ
shown_text s i l τ = pick (eqb (lane_answer s i l τ) done) (entry (lane_shows s i l τ)) (text " .")

-- the same in n ticks of p ms, from τ on
abbrev pub lane_cells : State → ℕ → ℕ → ℕ → ℕ → ℕ → List ℕ
lane_cells s i l τ p n = each (λ (j : ℕ). shown_text s i l (τ + j * p)) n

-- the line of lane l
unfoldable pub lane_line : State → ℕ → ℕ → ℕ → ℕ → ℕ → List ℕ
lane_line s i τ p n l = ((text "\nlane " ++ decimal l) ++ text ":") ++ lane_cells s i l τ p n

-- the tick that holds τ, and a line for each lane below the cap
unfoldable pub lane_lines : State → ℕ → ℕ → ℕ → List ℕ
lane_lines s i τ n =
    entry (tick_at (title_at s i) τ) ++ each (lane_line s i τ (title_tick (title_at s i)) n) (title_at s i).film.cap

-- what the question is answered
unfoldable pub lanes_told : State → ℕ → ℕ → ℕ → List ℕ
lanes_told s i τ n =
    pick (eqb (lanes_answer s i τ n) done) (text "0" ++ lane_lines s i τ n) (refusal_text (lanes_answer s i τ n) 0)

-- what stands behind the answer a: behind 2 the title's own last event, behind 3 what became of the title
unfoldable pub lanes_reason : ℕ → State → ℕ → ℕ → ℕ → List ℕ
lanes_reason a s i τ n =
    pick (eqb a not_there) (missing_text (presence_of s i τ)) (asked_reason a do_lanes (i ∷ τ ∷ n ∷ []) (last_in s i))

unfoldable pub lanes_text : State → ℕ → ℕ → ℕ → List ℕ
lanes_text s i τ n = lanes_told s i τ n ++ lanes_reason (lanes_answer s i τ n) s i τ n
