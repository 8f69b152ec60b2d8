-- What the lane question answers at a tick's start, after the events up to that very moment, is what the title's life has on air then.
-- Rests on `asked_then`, and on what is on air at a moment being what a life says of its tick (`air_stood`).
use mathlib.Core.Path.{◌≡◌, refl, ◌∙◌}
use mathlib.Core.List.{List}
use Prim.Native.Nat.{ℕ, ◌+◌, ◌*◌, ◌/◌, ◌%◌, ◌≤◌, ◌<◌}
use native.Mathlib.Omega.{arith}
use borrow.Author.Tests.{le-leb, le-ltb}
use Rattle.rules.specs.Limits.{id_max, lane_max, asked_max, lane_places}
use Rattle.rules.specs.Refusals.{first_hit, not_there}
use Rattle.story.specs.declared.State.{State}
use Rattle.story.specs.Life.{Air, nothing, cell, is_held, on_air}
use Rattle.story.specs.Calls.{lane_answer}
use Rattle.story.specs.declared.Event.{Event}
use Rattle.story.specs.Story.{life_of, latest_of, up_to, Accepted, lane_answer_to, air_at, moment_of, tick_length}
use Rattle.story.specs.Runs.{lanes_of, state_after, Reached}
use Rattle.story.proofs.Runs.{lanes_limit}
use Rattle.story.proofs.Lives.{newest}
use Rattle.story.proofs.Boxes.{air_stood}
use Rattle.story.proofs.Questions.{lane_answer_told}
use Rattle.story.proofs.Reached.{run_accepted as in_sequence}
use Rattle.story.proofs.Reached.{up_to_accepted, up_to_late, reached, run_told, asked_then}
use Rattle.airing.specs.Own.{answer_seen, own_number}
use Rattle.playouts.specs.inner.Steps.{air_number}

module _ (pool : ℕ) (es : List Event) (s : State) (run : Reached pool es s) (i : ℕ) (id : i ≤ id_max) (pos : 0 < tick_length (life_of es i)) where
  module _ (l t : ℕ) (lane : l ≤ lane_max) (time : moment_of (life_of es i) t ≤ asked_max) where
    abbrev moment : ℕ
    moment = moment_of (life_of es i) t

    abbrev then : State
    then = state_after pool (up_to moment es)

    all : Accepted (lanes_of pool) es
    all = in_sequence pool es s run

    before : Accepted (lanes_of pool) (up_to moment es)
    before = up_to_accepted (lanes_of pool) moment es all

    on_air_holds : air_at es i l moment ≡ on_air (life_of es i) l t
    on_air_holds =
        air_stood (lanes_of pool) es (lanes_limit pool) all i l t moment pos (record { from = omega arith; until = omega (arith, pos) })

    late : latest_of (up_to moment es) i ≤ moment
    late = omega (arith, newest (lanes_of pool) (up_to moment es) (lanes_limit pool) before i, up_to_late moment es)

    -- a lane with nothing on air is refused
    refused : on_air (life_of es i) l t ≡ nothing → lane_answer then i l moment ≡ not_there
    unfolding lane_answer_to first_hit is_held
    refused dark =
        lane_answer_told (lanes_of pool) (lanes_limit pool) (up_to moment es) then
        (run_told pool (up_to moment es) then (reached pool (up_to moment es) before)) i l moment
        ∙ rw (le-leb i id_max id, le-leb l lane_max lane, le-leb moment asked_max time, le-ltb moment (latest_of (up_to moment es) i) late, on_air_holds ∙ dark)
        refl

    pub answer_is : answer_seen then i l moment ≡ air_number (on_air (life_of es i) l t)
    answer_is = go (on_air (life_of es i) l t) refl
      where
        go : (a : Air) → on_air (life_of es i) l t ≡ a → answer_seen then i l moment ≡ air_number a
        go nothing e = rw (refused e) refl
        go (cell c) e =
            let told = asked_then pool es all i l moment c id lane time (on_air_holds ∙ e) in
            rw told.0 told.1

  -- so it is of the number at a place, from a tick on
  pub own_is : (from j : ℕ) → moment_of (life_of es i) (from + j / lane_places) ≤ asked_max →
      own_number pool es i (from * lane_places + j) ≡ air_number (on_air (life_of es i) (j % lane_places) (from + j / lane_places))
  unfolding own_number
  own_is from j time =
      let tick : (from * lane_places + j) / lane_places ≡ from + j / lane_places = omega arith in
      let lane : (from * lane_places + j) % lane_places ≡ j % lane_places = omega arith in
      let low : j % lane_places ≤ lane_max = omega arith in
      rw (tick, lane) (answer_is (j % lane_places) (from + j / lane_places) low time)
