-- What a question of the console is answered (docs/CONSOLE.md, "Commands"), and what is told of notices.
use Rattle.std.specs.Prelude.{ℕ, Bool, List, eqb}
use Rattle.rules.specs.Limits.{either, within}
use Rattle.rules.specs.Refusals.{pick}
use Rattle.story.specs.declared.State.{State}
use Rattle.story.specs.declared.Act.{Act}
use Rattle.story.specs.declared.Act.TheVariants.{Changes, Closes}
use Rattle.story.specs.declared.Event.{Event}
use Rattle.story.specs.Story.{event, holds, lifts}
use Rattle.notice.specs.Encode.{bytes_of}
use Rattle.notice.specs.Decode.{read_of}
use Rattle.text.specs.Texts.{text}
use Rattle.text.specs.Digits.{hex_text}
use Rattle.console_commands.specs.Commands
use Rattle.console_lines.specs.declared.lines.Line.{Line}
use Rattle.console_lines.specs.Lines.{number_in}
use Rattle.console_answers.specs.Faults.{help_text}
use Rattle.console_notices.specs.Hex.{bytes_in}
use Rattle.console_notices.specs.Reading.{reading_text}
use Rattle.console_acts.specs.Writing.{written_notice}
use Rattle.console_boxes.specs.Lanes.{lane_text, rom_lane_text}
use Rattle.console_boxes.specs.Plan.{plan_in}
use Rattle.console_pools.specs.Titles.{status_text, ids_in}
use Rattle.console_pools.specs.Shares.{share_in}
use Rattle.console_pools.specs.Moves.{planner_in}
use Rattle.console_views.specs.Lanes.{lanes_text}
use Rattle.console_views.specs.Titles.{titles_text}
use Rattle.console_views.specs.When.{when_text}
use Rattle.console_balance.specs.Balance.{balance_text}

-- ---- the views

-- what a line asks about that asks when: a change to a count where it names one
unfoldable pub when_act : ℕ → ℕ → Act
when_act c k =
    pick (eqb c Commands.when_close) Closes
    (pick (eqb c Commands.when_hold) holds
    (pick (eqb c Commands.when_lift) lifts
    (Changes k)))

unfoldable pub when_event : Line → Event
when_event l = event (number_in l 0) (number_in l 1) (when_act l.command (number_in l 2))

-- the commands that ask for a view
abbrev pub asks_view : ℕ → Bool
asks_view c = either (within Commands.do_when Commands.do_lanes c) (within Commands.when_close Commands.when_lift c)

unfoldable pub view_text : State → Line → List ℕ
view_text t l =
    pick (eqb l.command Commands.do_titles) (titles_text t (number_in l 0))
    (pick (eqb l.command Commands.do_lanes) (lanes_text t (number_in l 0) (number_in l 1) (number_in l 2))
    (pick (eqb l.command Commands.do_balance) (balance_text t l.numbers l.count)
    (when_text t (when_event l))))

-- ---- what is told of notices, help, and draw, which is no question: what it does to the session is `console_drawing` specs/Drawn

unfoldable pub tell_text : Line → List ℕ → List ℕ
tell_text l s =
    pick (eqb l.command Commands.do_help) help_text
    (pick (eqb l.command Commands.do_draw) (text "0")
    (pick (eqb l.command Commands.do_read) (reading_text (read_of (bytes_in s l)))
    (hex_text (bytes_of (written_notice l)))))

-- ---- a question

-- of the small box, of a box's plan, for a view, or what is told
unfoldable pub box_ask_text : State → Line → List ℕ → List ℕ
box_ask_text t l s =
    pick (eqb l.command Commands.do_rom_lane) (rom_lane_text t (number_in l 0) (number_in l 1) (number_in l 2))
    (pick (Commands.asks_plan l.command) (plan_in l)
    (pick (asks_view l.command) (view_text t l)
    (tell_text l s)))

unfoldable pub ask_text : State → Line → List ℕ → List ℕ
ask_text t l s =
    pick (eqb l.command Commands.do_lane) (lane_text t (number_in l 0) (number_in l 1) (number_in l 2))
    (pick (eqb l.command Commands.do_status) (status_text t (number_in l 0) (ids_in l.numbers l.count))
    (pick (eqb l.command Commands.do_share) (share_in l.numbers l.count)
    (pick (eqb l.command Commands.do_planner) (planner_in t l.numbers l.count)
    (box_ask_text t l s))))
