-- A log with a record of our own lane answers that meets the hypotheses of `starves_none`, computed from the definitions: a film opens
-- with three lanes and drops one, which sends on what it owes. Of twelve ticks five admissions are judged, and all five played
-- through, those that began with the lane that was dropped among them.
-- Rests on written notices reading back, and on `own_record_starves_none`.
use mathlib.Core.Path.{◌≡◌, refl, ap, ◌∙◌}
use mathlib.Core.Bool.{true}
use mathlib.Core.Logic.{⊎_elim}
use mathlib.Core.List.{List, [], ◌∷◌, map}
use Prim.Native.Nat.{ℕ, ◌+◌}
use native.Mathlib.Omega.{arith}
use lib.Dec.{leb, ltb}
use lib.ListN.{length, get_or, get_or-eq_default}
use borrow.Author.Tests.{ltb-true, ltb-false}
use Rattle.rules.specs.Limits.{both}
use Rattle.rules.specs.Refusals.{first_hit, done}
use Rattle.rules.specs.Search.{some, every, first, how_many, after, total}
use Rattle.rules.proofs.Tests.{decide}
use Rattle.rules.proofs.Search.{every_out}
use Rattle.grid.specs.Ticks.{cells, tick_of, rounded_up, slot, cell_of}
use Rattle.grid.specs.Channels.{floor_rem, shift, segment, channel_cell}
use Rattle.grid.specs.Lanes.{is_in_g, is_added, added_channel, lane_cell}
use Rattle.scheme.specs.Scheme.{scheme_of, starts, takes, takes_from, tick_for, film_in}
use Rattle.notice.specs.declared.Notice.{Notice}
use Rattle.notice.specs.declared.Kind.TheVariants.{Open, Change}
use Rattle.notice.specs.Fields.{table, start_of, span_of}
use Rattle.notice.specs.Numbers.{big_endian}
use Rattle.notice.specs.Encode.{bytes_of, bytes_to, row_bytes, field_bytes}
use Rattle.notice.specs.Log.{Bytes, AllFit, none, more, log_of, notices_of, is_whole_log}
use Rattle.notice.proofs.Typed.{typed_fits}
use Rattle.notice.proofs.ReadThrough.{log_read}
use Rattle.story.specs.Life.{Life, is_admission, is_active, dropped_at, is_awaited, is_owed, reach, owed_within, is_nth, nth_owed}
use Rattle.story.specs.Life.{sends, on_air, is_held}
use Rattle.story.specs.declared.Act.TheVariants.{Changes}
use Rattle.story.specs.declared.Event.{Event}
use Rattle.story.specs.Story.{opens, event, tick_in, life_of, latest_of, tuned_of, held_in, held_over, answer_to}
use Rattle.agent.specs.Turns.{event_of}
use Rattle.agent.specs.Played.{heard_of, events_played, life_in}
use Rattle.judging.specs.Record.{ticks_in}
use Rattle.judging.specs.Judged.{is_covered, is_judged, judged_in}
use Rattle.airing.specs.Air.{is_film_title, air_answer, air_gives}
use Rattle.airing.specs.Own.{own_record}
use Rattle.airing.proofs.OwnRecord.{own_ticks}
use Rattle.airing.proofs.Starves.{own_record_starves_none}

-- a film of 6 ms with floor 2 and cap 3, so a tick is 1 ms
abbrev opened : Notice
opened = record { sequence = 1; title = 0; time = 0; kind = Open 6 2 3 3 }

abbrev dropped : Notice
dropped = record { sequence = 2; title = 0; time = 4; kind = Change 2 }

abbrev pub log : List ℕ
log = log_of (opened ∷ dropped ∷ [])

-- ---- what the log tells

fit : AllFit (opened ∷ dropped ∷ [])
fit =
    more
    (typed_fits opened
    (record { sequence_fits = omega arith; title_fits = omega arith; time_fits = omega arith; kind_fits = omega arith }))
    (more
    (typed_fits dropped
    (record { sequence_fits = omega arith; title_fits = omega arith; time_fits = omega arith; kind_fits = omega arith }))
    none)

read : (notices_of log ≡ dropped ∷ opened ∷ []) × (is_whole_log log ≡ true)
read = log_read (opened ∷ dropped ∷ []) fit

small_to : every (λ j. ltb (get_or log j 0) 256) (length log) ≡ true
unfolding every log_of bytes_of bytes_to row_bytes field_bytes table start_of span_of big_endian
small_to = refl

small : Bytes log
small j =
    ⊎_elim
    (λ x. ltb-true (get_or log j 0) 256 (every_out (λ i. ltb (get_or log i 0) 256) (length log) j small_to (ltb-true j (length log) x)))
    (λ x. rw (get_or-eq_default log 0 (ltb-false j (length log) x)) (omega arith))
    (decide (ltb j (length log)))

-- both count
both_heard : heard_of 3 (dropped ∷ opened ∷ []) ≡ dropped ∷ opened ∷ []
unfolding heard_of answer_to first_hit life_of latest_of tuned_of held_over held_in tick_in total how_many is_held on_air is_active dropped_at after sends nth_owed is_nth owed_within is_owed is_awaited is_admission reach some first takes takes_from scheme_of lane_cell added_channel is_added is_in_g channel_cell segment shift floor_rem cell_of slot starts tick_for tick_of film_in rounded_up
both_heard = refl

abbrev events : List Event
events = event 0 4 (Changes 2) ∷ event 0 0 (opens 6 2 3 3) ∷ []

played_events : events_played 3 log ≡ events
played_events = ap (λ ns. map event_of (heard_of 3 ns)) read.0 ∙ ap (map event_of) both_heard

film : is_film_title (life_in 3 log 0) ≡ true
unfolding is_film_title life_of
film = ap (λ (es : List Event). is_film_title (life_of es 0)) played_events

-- ---- the record of twelve ticks

abbrev pub own : List ℕ
own = own_record 3 (events_played 3 log) 0 12

pub taken : (air_answer 3 log 0 own 12 ≡ done) × ((air_gives 3 log 0 own 12).played ≡ (air_gives 3 log 0 own 12).judged)
taken = own_record_starves_none 3 log 0 small refl 12 12 film (omega arith) (omega arith) read.1

judged_of : (L : Life) (r : List ℕ) (n : ℕ) → ticks_in r ≡ n
    → judged_in L r ≡ how_many (λ a. both (is_admission L a) (leb (a + cells L.film.cap) n)) n
unfolding is_judged is_covered
judged_of L r n is = ap (λ (m : ℕ). how_many (λ a. both (is_admission L a) (leb (a + cells L.film.cap) m)) m) is

-- the admissions at ticks 0 to 4, the last of them with two lanes
five_begin : how_many (λ a. both (is_admission (life_of events 0) a) (leb (a + cells (life_of events 0).film.cap) 12)) 12 ≡ 5
unfolding how_many is_admission life_of tick_in tick_for tick_of scheme_of starts slot rounded_up
five_begin = refl

pub five_judged : (air_gives 3 log 0 own 12).judged ≡ 5
unfolding air_gives
five_judged =
    rw taken.0
    (judged_of (life_in 3 log 0) own 12 (own_ticks 3 (events_played 3 log) 0 12)
    ∙ ap (λ (es : List Event). how_many (λ a. both (is_admission (life_of es 0) a) (leb (a + cells (life_of es 0).film.cap) 12)) 12) played_events
    ∙ five_begin)

pub five_played : (air_gives 3 log 0 own 12).played ≡ 5
five_played = taken.1 ∙ five_judged
