-- What stands behind the refusal of an event (docs/CONSOLE.md, "Refusals"): what can be typed in its place. Behind 1 the number that
-- is out of its limits, behind 2 the last event's time, behind 3 whether the title is gone, behind 4 when the id comes free, behind
-- 8 the next permitted slot start, behind 9 the lanes that are free and when there is room, if nobody else acts.
use Rattle.std.specs.Prelude.{ℕ, Bool, true, not, List, [], ◌∷◌, ◌++◌, leb, eqb}
use Rattle.rules.specs.Limits.{both, either, id_max, event_time_max}
use Rattle.rules.specs.Refusals.{pick, done, outside_limits, too_early, not_there, id_taken, not_at_slot, no_lanes}
use Rattle.scheme.specs.Scheme.{padded_kind, steady_kind}
use Rattle.story.specs.declared.State.{State}
use Rattle.story.specs.declared.Act.{Act}
use Rattle.story.specs.declared.Act.TheVariants.{Opens, Changes, Closes, Doors}
use Rattle.story.specs.declared.Event.{Event}
use Rattle.story.specs.Kept.{open_mode, title_at}
use Rattle.outlook.specs.Outlook.{when_answer, when_time, next_start, free_lanes, room_from, id_free_from, presence_of}
use Rattle.text.specs.Texts.{text}
use Rattle.text.specs.Digits.{decimal}
use Rattle.console_commands.specs.Commands.{do_open, do_change, do_close, do_skip}
use Rattle.console_limits.specs.Outside.{out_text}
use Rattle.console_limits.specs.Asked.{last_text}
use Rattle.console_reasons.specs.Lanes.{missing_text}

-- the command whose numbers an event has; a hold and a lift have those of a close
abbrev pub command_for : Act → ℕ
command_for (Opens f k) = pick (eqb f.kind steady_kind) do_skip do_open
command_for (Changes k) = do_change
command_for Closes = do_close
command_for (Doors b) = do_close

-- its numbers in the order of its line, of which those of every event come first
abbrev pub numbers_for : Act → List ℕ
numbers_for (Opens f k) =
    pick (eqb f.kind steady_kind) (f.length ∷ k ∷ []) (f.length ∷ f.floor ∷ f.cap ∷ k ∷ [])
numbers_for (Changes k) = k ∷ []
numbers_for Closes = []
numbers_for (Doors b) = []

abbrev pub numbers_of : Event → List ℕ
numbers_of e = e.title ∷ e.time ∷ numbers_for e.act

-- what a line or a notice can say: a film on the padded grid, or a skip-forward title, whose floor and cap are its count
abbrev pub is_spelt : Act → Bool
is_spelt (Opens f k) =
    either (eqb f.kind padded_kind) (both (eqb f.kind steady_kind) (both (eqb f.floor k) (eqb f.cap k)))
is_spelt (Changes k) = true
is_spelt Closes = true
is_spelt (Doors b) = true

-- 1
abbrev pub event_out : Event → List ℕ
event_out e = out_text (command_for e.act) (numbers_of e)

-- a time on the clock in words, or other words where the clock ends before it
unfoldable pub clock_words : ℕ → List ℕ → List ℕ → List ℕ
clock_words τ words others = pick (leb τ event_time_max) (words ++ decimal τ) others

-- 4: the id's title is open, or closing until all its lanes have gone
abbrev pub id_is_open : State → ℕ → Bool
id_is_open s i = both (leb i id_max) (eqb (title_at s i).mode open_mode)

unfoldable pub taken_text : State → ℕ → ℕ → List ℕ
taken_text s i τ =
    pick (id_is_open s i) (text ", its title is open")
    (clock_words (id_free_from s i τ) (text ", free from ") (text ", not free before the clock ends"))

-- 8
unfoldable pub start_text : State → Event → List ℕ
start_text s e = clock_words (next_start s e) (text ", next is ") (text ", the clock has no later one")

-- 9: a change may find room before it is at a slot start, or settled; then its first accepted time stands behind
unfoldable pub later_text : State → Event → List ℕ
later_text s e =
    pick (both (eqb (when_answer s e) done) (not (eqb (when_time s e) (room_from s e))))
    (text ", accepted at " ++ decimal (when_time s e))
    []

abbrev pub accepted_text : State → Event → Act → List ℕ
accepted_text s e (Opens f k) = []
accepted_text s e (Changes k) = later_text s e
accepted_text s e Closes = []
accepted_text s e (Doors b) = []

unfoldable pub room_words : State → Event → List ℕ
room_words s e =
    pick (leb (room_from s e) event_time_max) ((text ", room from " ++ decimal (room_from s e)) ++ accepted_text s e e.act)
    (text ", no later time has room")

unfoldable pub room_text : State → Event → List ℕ
room_text s e = ((text ", " ++ decimal (free_lanes s e.time)) ++ text " free") ++ room_words s e

-- of the event e that a state answers with a
unfoldable pub reason_text : ℕ → State → Event → List ℕ
reason_text a s e =
    pick (eqb a outside_limits) (event_out e)
    (pick (eqb a too_early) (last_text s.last)
    (pick (eqb a not_there) (missing_text (presence_of s e.title e.time))
    (pick (eqb a id_taken) (taken_text s e.title e.time)
    (pick (eqb a not_at_slot) (start_text s e)
    (pick (eqb a no_lanes) (room_text s e)
    [])))))
