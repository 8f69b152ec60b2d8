-- There is a record of our own lane answers for any number of ticks: the one that asks each lane at each tick's start.
-- Rests on the laws of a row that is written place by place.
use mathlib.Core.Path.{◌≡◌, refl, ◌∙◌}
use mathlib.Core.List.{List}
use Prim.Native.Nat.{ℕ, ◌+◌, ◌*◌, ◌/◌, ◌%◌, ◌<◌}
use native.Mathlib.Omega.{arith}
use lib.ListN.{get_or, length, replicate, length-replicate}
use Rattle.rules.specs.Limits.{lane_places}
use Rattle.plans.proofs.Row.{written_length, written_first}
use Rattle.story.specs.declared.Event.{Event}
use Rattle.story.specs.Story.{life_of, up_to, moment_of, tick_length}
use Rattle.story.specs.Runs.{state_after}
use Rattle.judging.specs.Record.{nothing_seen, ticks_in, seen}
use Rattle.judging.proofs.Walked.{get_d_any}
use Rattle.airing.specs.Own.{answer_seen, OwnAnswers, own_number, own_record}

module _ (pool : ℕ) (es : List Event) (i n : ℕ) where
  own_length : length (own_record pool es i n) ≡ n * lane_places
  unfolding own_record
  own_length =
      written_length (own_number pool es i) (replicate (n * lane_places) 0) (n * lane_places)
      ∙ length-replicate (n * lane_places) 0

  pub own_whole : length (own_record pool es i n) % lane_places ≡ 0
  own_whole = omega (arith, own_length)

  pub own_ticks : ticks_in (own_record pool es i n) ≡ n
  own_ticks = omega (arith, own_length)

  own_place : (j : ℕ) → j < n * lane_places → get_or (own_record pool es i n) j nothing_seen ≡ own_number pool es i j
  unfolding own_record
  own_place j b =
      get_d_any (own_record pool es i n) j nothing_seen 0 (omega (arith, own_length))
      ∙ written_first (own_number pool es i) (replicate (n * lane_places) 0) (n * lane_places) j
      (omega (arith, length-replicate {A = ℕ} (n * lane_places) 0)) b

  own_answers : (t l : ℕ) → t < n → l < lane_places → seen (own_record pool es i n) t l
      ≡ answer_seen (state_after pool (up_to (moment_of (life_of es i) t) es)) i l (moment_of (life_of es i) t)
  unfolding own_number
  own_answers t l b low =
      let tick : (t * lane_places + l) / lane_places ≡ t = omega arith in
      let lane : (t * lane_places + l) % lane_places ≡ l = omega arith in
      own_place (t * lane_places + l) (omega arith) ∙ rw (tick, lane) refl

  pub own_record_lem : 0 < tick_length (life_of es i) → OwnAnswers pool es i (own_record pool es i n)
  own_record_lem some =
      record {
        moment = λ t l. moment_of (life_of es i) t;
        within_tick = λ t l b. record { from = omega arith; until = omega arith };
        answers = λ t l b low. own_answers t l (omega (arith, own_ticks)) low;
      }
