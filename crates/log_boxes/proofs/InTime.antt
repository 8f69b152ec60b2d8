-- Every cell that holds film is taken, and no later than its turn, of every box that is drawn: of titles of both kinds. Rests on demand 3
-- (`story` specs/Demands `boxes`), and on the numbers being what the title's life has on air (`playouts` proofs/OwnNumbers `own_is`).
use mathlib.Core.Path.{◌≡◌, refl, sym, ap, subst, ◌∙◌}
use mathlib.Core.Bool.{Bool, true}
use mathlib.Core.List.{List}
use Prim.Native.Nat.{ℕ, ◌+◌, ◌-◌, ◌*◌, ◌/◌, ◌%◌, ◌≤◌, ◌<◌}
use native.Mathlib.Omega.{arith}
use native.Mathlib.Nat.{mul-le-mul_right}
use borrow.Author.Tests.{eq-eqb, leb-true, ltb-true}
use lib.Dec.{leb, eqb}
use Rattle.rules.specs.Limits.{within, pool_min, pool_max, id_max, asked_max, lane_places}
use Rattle.rules.specs.Refusals.{done}
use Rattle.rules.specs.Search.{first}
use Rattle.rules.proofs.Tests.{both_l, both_r}
use Rattle.rules.proofs.Search.{first_least}
use Rattle.notice.specs.Log.{Bytes}
use Rattle.story.specs.declared.Event.{Event}
use Rattle.story.specs.Life.{Life, cell, is_film, is_admission, on_air}
use Rattle.story.specs.Story.{life_at, moment_of, tick_in, tick_length, InTick, Received}
use Rattle.story.specs.Runs.{lanes_of, Reached}
use Rattle.story.proofs.Runs.{lanes_limit}
use Rattle.story.proofs.Boxes.{stood, air_stood}
use Rattle.story.proofs.Reached.{run_accepted as in_sequence}
use Rattle.story.proofs.Demands.{no_box_runs_dry}
use Rattle.agent.specs.Played.{agent_played, events_played, life_in}
use Rattle.agent.proofs.Played.{log_reached}
use Rattle.admissions.specs.Waits.{lets_in}
use Rattle.admissions.proofs.GetsIn.{let_in}
use Rattle.airing.proofs.OwnAnswers.{numbers, begins}
use Rattle.playouts.specs.Playout.{was_opened, is_askable, last_tick_of, playout_number}
use Rattle.playouts.proofs.OwnNumbers.{own_is}
use Rattle.takings.specs.Takings.{taking_place}
use Rattle.log_boxes.specs.Box.{box_ticks, box_answer, is_box_start, box_place}
use Rattle.log_boxes.specs.InTime.{TakenInTime, EveryCellInTime}
use Rattle.log_boxes.proofs.Standing.{given_in, granted}

-- a place that a lane of a tick has
abbrev place_in : ℕ → ℕ → ℕ
place_in t l = t * lane_places + l

module _ (pool : ℕ) (log : List ℕ) (title x c : ℕ) (small : Bytes log) (ok : box_answer pool log title x ≡ done)
    (here : is_box_start (life_in pool log title) x ≡ true) (low : c < box_ticks (life_in pool log title)) (film : is_film (life_in pool log title) c ≡ true) where
  abbrev L : Life
  L = life_in pool log title

  abbrev es : List Event
  es = events_played pool log

  abbrev a : ℕ
  a = tick_in L x

  run : Reached pool es (agent_played pool log).state
  run = log_reached pool log small

  id : title ≤ id_max
  id = leb-true title id_max (both_r (within pool_min pool_max pool) (leb title id_max) (given_in pool title x (granted pool log title x ok).limits))

  some : 0 < L.film.cap
  unfolding was_opened
  some = ltb-true 0 L.film.cap (granted pool log title x ok).opened

  pos : 0 < tick_length L
  pos = (numbers pool es (agent_played pool log).state run title (omega (arith, id)) some).tick_some

  admission : is_admission L a ≡ true
  unfolding is_box_start
  admission = (let_in L x a (both_l (lets_in L x a) (eqb (moment_of L a) x) here)).admission

  -- every tick of the box may be asked about
  asked : (t : ℕ) → t ≤ a + c → moment_of L t ≤ asked_max
  unfolding is_askable
  asked t h =
      let last = leb-true (moment_of L (last_tick_of a (box_ticks L))) asked_max (granted pool log title x ok).asked in
      let early : t * tick_length L ≤ last_tick_of a (box_ticks L) * tick_length L = mul-le-mul_right (tick_length L) (omega (arith, low)) in
      omega arith

  received : Received es title (life_at es title (moment_of L a)) a c
  received =
      let w = stood (lanes_of pool) es (lanes_limit pool) (in_sequence pool es (agent_played pool log).state run) title (moment_of L a) (omega arith) in
      (no_box_runs_dry pool es (agent_played pool log).state run).boxes title (moment_of L a) a c (omega (arith, id))
      (begins pool es (agent_played pool log).state run title (omega (arith, id)) a admission)
      (subst (λ M. is_film M c ≡ true) (sym w.life) film)

  -- the lane that it comes on has it on air in that tick
  on_air_holds : on_air L received.lane received.tick ≡ cell c
  on_air_holds =
      let t : ℕ = received.tick in
      let τ : ℕ = moment_of L t in
      let acc = in_sequence pool es (agent_played pool log).state run in
      let w = stood (lanes_of pool) es (lanes_limit pool) acc title (moment_of L a) (omega arith) in
      let in_tick : InTick L t τ = record { from = omega arith; until = omega (arith, pos) } in
      sym (air_stood (lanes_of pool) es (lanes_limit pool) acc title received.lane t τ pos in_tick)
      ∙ received.carries τ (subst (λ M. InTick M t τ) (sym w.life) (record { from = in_tick.from; until = in_tick.until }))

  lane_low : received.lane < lane_places
  lane_low =
      let w = stood (lanes_of pool) es (lanes_limit pool) (in_sequence pool es (agent_played pool log).state run) title (moment_of L a) (omega arith) in
      let cap : (life_at es title (moment_of L a)).film.cap ≡ L.film.cap = ap (λ (M : Life). M.film.cap) w.life in
      omega (arith, received.lane_low, (numbers pool es (agent_played pool log).state run title (omega (arith, id)) some).cap_high)

  -- so its place among the box's numbers shows the cell
  shown : playout_number pool log title a (place_in (received.tick - a) received.lane) ≡ c
  unfolding playout_number
  shown =
      let t : ℕ = received.tick in
      let l : ℕ = received.lane in
      let j : ℕ = place_in (t - a) l in
      let tick : a + j / lane_places ≡ t = omega (arith, lane_low, received.from_start) in
      let lane : j % lane_places ≡ l = omega (arith, lane_low) in
      own_is pool es (agent_played pool log).state run title id pos a j (rw tick (asked t received.by_then))
      ∙ rw (tick, lane, on_air_holds) refl

  taken : TakenInTime pool log title x c
  unfolding box_place taking_place
  taken =
      let t : ℕ = received.tick in
      let l : ℕ = received.lane in
      let p : ℕ → Bool = λ j. eqb (playout_number pool log title a j) c in
      let early : first p (box_ticks L * lane_places) ≤ place_in (t - a) l = first_least p (box_ticks L * lane_places) (place_in (t - a) l) (eq-eqb _ _ shown) in
      record {
        is_taken_holds = rw film (omega (arith, early, lane_low, low, received.by_then));
        in_time = rw film (omega (arith, early, lane_low, received.by_then));
      }

pub every_cell_in_time : EveryCellInTime
every_cell_in_time pool log title x c small ok here low film = taken pool log title x c small ok here low film
