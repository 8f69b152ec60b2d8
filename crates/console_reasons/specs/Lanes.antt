-- What stands behind the refusal of a lane question (docs/CONSOLE.md, "Refusals"): 2 is of the title's own last event, and 3 says
-- whether the title is missing or the lane.
use Rattle.std.specs.Prelude.{ℕ, List, [], ◌∷◌, leb, eqb}
use Rattle.rules.specs.Limits.{id_max}
use Rattle.rules.specs.Refusals.{pick, not_there}
use Rattle.text.specs.Texts.{text}
use Rattle.story.specs.declared.State.{State}
use Rattle.story.specs.Kept.{title_at}
use Rattle.outlook.specs.Outlook.{presence_of, never_opened, is_gone}
use Rattle.console_commands.specs.Commands.{do_lane}
use Rattle.console_limits.specs.Asked.{asked_reason}

-- what is missing, by the presence of the title
unfoldable pub missing_text : ℕ → List ℕ
missing_text p =
    pick (eqb p never_opened) (text ", the title was never opened")
    (pick (eqb p is_gone) (text ", the title is gone") (text ", the lane is not held"))

-- the time of a title's last event; an id that is out of range has none
unfoldable pub last_in : State → ℕ → ℕ
last_in s i = pick (leb i id_max) (title_at s i).last 0

-- of the question of lane l of title i at τ that is answered a
unfoldable pub lane_reason : ℕ → State → ℕ → ℕ → ℕ → List ℕ
lane_reason a s i l τ =
    pick (eqb a not_there) (missing_text (presence_of s i τ)) (asked_reason a do_lane (i ∷ l ∷ τ ∷ []) (last_in s i))
