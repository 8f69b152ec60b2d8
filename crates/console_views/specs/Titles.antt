-- The titles of a pool, for people (docs/CONSOLE.md, "Commands": titles): a line for each that is there at a time, and before
-- them how many they are and how many lanes of the pool are held.
use Rattle.std.specs.Prelude.{ℕ, suc, ◌+◌, Bool, true, List, [], ◌∷◌, ◌++◌, leb, eqb, get_or}
use Rattle.rules.specs.Limits.{both, event_time_max, titles_max}
use Rattle.rules.specs.Refusals.{pick, done}
use Rattle.rules.specs.Search.{first, how_many}
use Rattle.story.specs.declared.Title.{Title}
use Rattle.story.specs.declared.State.{State}
use Rattle.story.specs.Kept.{open_mode, is_shut, is_steady_title, title_tick, title_at, tick_at, settled_at, ruling, kept_held}
use Rattle.story.specs.Kept.{title_held, lanes_held, is_there}
use Rattle.story.specs.Calls.{at_slot_start}
use Rattle.questions.specs.Asked.{asked_answer}
use Rattle.moments.specs.Searched.{slot_most, release_moment}
use Rattle.text.specs.Texts.{text}
use Rattle.text.specs.Digits.{decimal}
use Rattle.clocks.specs.Clocks.{clock_text}
use Rattle.console_commands.specs.Commands.{do_titles}
use Rattle.console_limits.specs.Asked.{asked_reason}
use Rattle.words.specs.Words.{refusal_text}
use Rattle.console_answers.specs.Entries.{each}

-- ---- what every title has

-- its kind, the length of its film and its tick
unfoldable pub film_text : Title → List ℕ
film_text t =
    ((pick (is_steady_title t) (text ": skip-forward film of ") (text ": film of ") ++ clock_text t.film.length)
    ++ text ", tick ") ++ clock_text (title_tick t)

-- ---- its lanes

-- its count, of those from floor to cap that it may have
unfoldable pub range_text : Title → List ℕ
range_text t =
    pick (is_steady_title t) [] (((text " of " ++ decimal t.film.floor) ++ text " to ") ++ decimal t.film.cap)

unfoldable pub count_text : Title → List ℕ
count_text t =
    pick (eqb t.mode open_mode) (((text ", " ++ decimal t.count) ++ text " lanes") ++ range_text t) (text ", closing")

-- lane l is not active, and still sends what it owes at τ
unfoldable pub still_sends : Title → ℕ → ℕ → Bool
still_sends t τ l = both (leb (ruling t) l) (kept_held t l (tick_at t τ))

-- the tick from which on the list of lane l has gone
abbrev pub gone_tick : Title → ℕ → ℕ
gone_tick t l = get_or t.dropped l 0 + get_or t.owed l 0

-- until when lane l sends: the moment from which on its list has gone, where it is one that the clock can tell
unfoldable pub until_text : Title → ℕ → List ℕ
until_text t l =
    pick (leb (gone_tick t l) (suc event_time_max)) (text " until " ++ clock_text (release_moment t l)) (text " past the clock")

unfoldable pub sending_text : Title → ℕ → ℕ → List ℕ
sending_text t τ l = pick (still_sends t τ l) ((text ", lane " ++ decimal l) ++ until_text t l) []

-- how many lanes it holds, and until when each that still sends
unfoldable pub holds_text : Title → ℕ → List ℕ
holds_text t τ = (text ", holds " ++ decimal (title_held t τ)) ++ each (sending_text t τ) t.film.cap

-- ---- what comes next, while it is open

-- the first slot start of its count from τ on; no slot is longer than the longest
unfoldable pub slot_from : Title → ℕ → ℕ
slot_from t τ = τ + first (λ o. at_slot_start t t.count (τ + o)) slot_most

unfoldable pub doors_text : Title → List ℕ
doors_text t = pick (is_shut t) (text ", doors held") (text ", doors open")

-- from when on its count may change again
unfoldable pub settled_text : Title → List ℕ
settled_text t = pick (is_steady_title t) (text ", no change") (text ", change from " ++ clock_text (settled_at t))

unfoldable pub coming_text : Title → ℕ → List ℕ
coming_text t τ =
    pick (eqb t.mode open_mode) (((doors_text t ++ text ", next slot start ") ++ clock_text (slot_from t τ)) ++ settled_text t) []

-- ---- the answer

-- the line of the title of an id, where it is there
unfoldable pub title_line : State → ℕ → ℕ → List ℕ
title_line s τ i =
    pick (is_there (title_at s i) τ)
    (((((text "\n" ++ decimal i) ++ film_text (title_at s i)) ++ count_text (title_at s i)) ++ holds_text (title_at s i) τ)
    ++ coming_text (title_at s i) τ)
    []

-- how many titles are there, and how many lanes of the pool are held
unfoldable pub pool_text : State → ℕ → List ℕ
pool_text s τ =
    (((((text "0 " ++ decimal (how_many (λ i. is_there (title_at s i) τ) titles_max)) ++ text " of 16 titles, ") ++ decimal (lanes_held s τ))
    ++ text " of ") ++ decimal s.pool) ++ text " lanes held"

-- behind it a line for each of them, ids rising
unfoldable pub title_lines : State → ℕ → List ℕ
title_lines s τ = pool_text s τ ++ each (title_line s τ) titles_max

-- refused as status is
unfoldable pub titles_told : State → ℕ → List ℕ
titles_told s τ = pick (eqb (asked_answer s τ true) done) (title_lines s τ) (refusal_text (asked_answer s τ true) 0)

-- and what stands behind the answer
abbrev pub titles_reason : ℕ → State → ℕ → List ℕ
titles_reason a s τ = asked_reason a do_titles (τ ∷ []) s.last

unfoldable pub titles_text : State → ℕ → List ℕ
titles_text s τ = titles_told s τ ++ titles_reason (asked_answer s τ true) s τ
