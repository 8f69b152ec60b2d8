-- Demand 3 and what the state says of it, shown: every statement of specs/Demands, in its order, each by the law that it rests on.
-- Beside this page stands Formerly: no release moves later since padding is owed to nobody.
use mathlib.Core.Path.{refl, sym, ap}
use mathlib.Core.List.{List, ◌++◌}
use Prim.Native.Nat.{ℕ}
use Rattle.story.specs.declared.State.{State}
use Rattle.story.specs.declared.Event.{Event}
use Rattle.story.specs.Life.{Life}
use Rattle.story.specs.Story.{life_of}
use Rattle.story.specs.Runs.{lanes_of, Reached}
use Rattle.story.specs.Demands.{EveryRun, TellsTheStory, NoBoxRunsDry, WithinThePool, HeldAsOwed, HeldInALife, NineIsExact}
use Rattle.story.specs.Demands.{AnswersStay, OrdersThatMatter, OrderIsAllOne, EitherOrder}
use Rattle.story.proofs.Tells.{lanes_told_lem}
use Rattle.story.proofs.Runs.{lanes_limit, told_answer, sound_state}
use Rattle.story.proofs.Questions.{lane_answer_told, status_answer_told, status_count_told, status_held_told, status_mark_told}
use Rattle.story.proofs.Lives.{ruled_life}
use Rattle.story.proofs.Boxes.{film_comes}
use Rattle.story.proofs.SkipForward.{next_ahead}
use Rattle.story.proofs.Owed.{owed_reach, owes_all}
use Rattle.story.proofs.Held.{held_exactly, held_throughout}
use Rattle.story.proofs.Released.{until_released, as_many_ticks, raised_held, event_drops}
use Rattle.story.proofs.Pool.{never_exceeded, accepted_fits, nine_exceeds}
use Rattle.story.proofs.Reached.{run_accepted, run_told, run_state}
use Rattle.story.proofs.Reached.{answered_on_air, asked_then, received_asked, life_stays}
use Rattle.story.proofs.OneMoment.{told_alike, other_order, room_for_one_of_two}
use Rattle.story.proofs.OrdersCalled.{both_as_called, other_order_called, room_for_one_of_calls}
use Rattle.story.proofs.OrdersCalled.{one_state_called, one_state_later, accepted_later}

-- 0. Every run of calls is meant.
pub every_run : EveryRun
every_run pool cs = record { calls = cs; events = refl; state = refl }

module _ (pool : ℕ) (es : List Event) (s : State) (run : Reached pool es s) where
  -- 1. The state tells the story.
  pub tells_the_story : TellsTheStory pool es s
  tells_the_story =
      let high = lanes_limit pool in
      let told = run_told pool es s run in
      record {
        in_sequence = run_accepted pool es s run;
        left_alone = run_state pool es s run;
        sound = sound_state (lanes_of pool) high es s told;
        every_answer = told_answer (lanes_of pool) high es s told;
        every_lane = lane_answer_told (lanes_of pool) high es s told;
        on_air_holds = answered_on_air pool es s run;
        every_status = status_answer_told (lanes_of pool) high es s told;
        every_count = status_count_told (lanes_of pool) high es s told;
        every_held = status_held_told (lanes_of pool) high es s told;
        every_mark = status_mark_told (lanes_of pool) high es s told;
        all_held = λ τ late. sym (lanes_told_lem (lanes_of pool) es s τ told.tells late);
      }

  -- 2. No box runs dry.
  pub no_box_runs_dry : NoBoxRunsDry pool es
  no_box_runs_dry =
      let acc = run_accepted pool es s run in
      record {
        boxes = film_comes (lanes_of pool) es (lanes_limit pool) acc;
        ahead = next_ahead (lanes_of pool) es (lanes_limit pool) acc;
        asked = asked_then pool es acc;
        by_the_calls = received_asked pool es acc;
      }

  -- 3. The pool.
  pub the_pool : WithinThePool pool es
  the_pool = never_exceeded (lanes_of pool) es (lanes_limit pool) (run_accepted pool es s run)

  -- 4. Held exactly.
  pub held_as_owed : HeldAsOwed pool es
  held_as_owed =
      let acc = run_accepted pool es s run in
      let ruled = ruled_life (lanes_of pool) es (lanes_limit pool) acc in
      record {
        owed_soon = λ i l T t id. owed_reach (life_of es i) l T (ruled i id) t;
        owed_in_all = λ i l T n id. owes_all (life_of es i) l T (ruled i id) n;
        every_drop = λ e. event_drops (lanes_of pool) es (lanes_limit pool) acc e.title e.time e.act;
        held_until = until_released (lanes_of pool) es (lanes_limit pool) acc;
        held_exactly = as_many_ticks (lanes_of pool) es (lanes_limit pool) acc;
        held_throughout = raised_held (lanes_of pool) es (lanes_limit pool) acc;
      }

  -- 5. Refusal 9 is exact.
  pub nine_is_exact : NineIsExact pool es
  nine_is_exact =
      record {
        nine = nine_exceeds (lanes_of pool) es;
        room = accepted_fits (lanes_of pool) es (lanes_limit pool) (run_accepted pool es s run);
      }

  -- 6. What was answered stays.
  pub stays : AnswersStay pool es
  stays new t later = life_stays (lanes_of pool) new es (run_accepted pool (new ++ es) t later)

  -- 7. Which orders matter.
  pub orders_that_matter : OrdersThatMatter pool es s
  orders_that_matter =
      let acc = run_accepted pool es s run in
      record {
        orders = other_order (lanes_of pool) (lanes_limit pool) es acc;
        room_for_one = room_for_one_of_two (lanes_of pool) (lanes_limit pool) es acc;
        both_answered = both_as_called pool es s run;
        orders_called = other_order_called pool es s run;
        room_for_one_called = room_for_one_of_calls pool es s run;
      }

  pub order_is_all_one : OrderIsAllOne pool es s
  order_is_all_one =
      record {
        all_one = one_state_called pool es s run;
        all_one_later = one_state_later pool es s run;
        later_asked = λ ask e f at one other cs. ap ask (one_state_later pool es s run e f at one other cs);
        later_accepted = accepted_later pool es s run;
      }

-- 4. Held exactly, of any life.
pub held_in_a_life : (L : Life) → HeldInALife L
held_in_a_life L =
    record {
      exactly = λ l s n d. held_exactly L l s n d.active_before d.not_raised;
      throughout = λ l s n j d. held_throughout L l s n j d.active_before d.not_raised;
    }

-- 7. Either order, of any sequence.
pub either_order : EitherOrder
either_order = told_alike
