-- A record of our own lane answers starves nobody, for every sequence of events that is reached: each box that may begin finds every
-- cell that holds film on a lane no later than its turn, and what is on air is what the lane question answers then.
-- Rests on demand 3 (`boxes`, `by_the_calls`), and on a life's ticks being those that stood at their moments.
use mathlib.Core.Path.{◌≡◌, sym, ap, subst, ◌∙◌}
use mathlib.Core.Bool.{true}
use mathlib.Core.List.{List}
use Prim.Native.Nat.{ℕ, suc, ◌+◌, ◌-◌, ◌*◌, ◌≤◌, ◌<◌}
use native.Mathlib.Omega.{arith}
use native.Mathlib.Nat.{mul-le-mul}
use lib.Dec.{eqb}
use borrow.Author.Tests.{eq-eqb}
use Rattle.rules.specs.Limits.{titles_max, asked_max, event_time_max, length_max, lane_places, count_max}
use Rattle.rules.proofs.Search.{some_in}
use Rattle.scheme.proofs.Clock.{tick_pos, tick_high}
use Rattle.story.specs.declared.State.{State}
use Rattle.story.specs.declared.Title.{Title}
use Rattle.story.specs.Life.{Life, is_film, is_admission}
use Rattle.story.specs.Kept.{title_at}
use Rattle.story.specs.declared.Event.{Event}
use Rattle.story.specs.Story.{life_of, life_at, latest_of, moment_of, tick_length, InTick, Received, Begins}
use Rattle.story.specs.Runs.{lanes_of, Reached}
use Rattle.story.proofs.Tells.{TellsTitle, absent, present}
use Rattle.story.proofs.Runs.{lanes_limit}
use Rattle.story.proofs.Lives.{witness}
use Rattle.story.proofs.Boxes.{stood}
use Rattle.story.proofs.Reached.{run_accepted as in_sequence}
use Rattle.story.proofs.Demands.{no_box_runs_dry}
use Rattle.judging.specs.Record.{ticks_max, ticks_in, seen, is_shown, is_in_time}
use Rattle.airing.specs.Own.{OwnAnswers}

-- ---- the numbers of an opened title

-- what an accepted opening keeps to
pub record Numbers (L : Life) : Type 0 where
  pub opened_high : L.opened ≤ event_time_max
  pub tick_some : 0 < tick_length L
  pub tick_low : tick_length L ≤ length_max
  pub floor_some : 0 < L.film.floor
  pub floor_low : L.film.floor ≤ L.film.cap
  pub cap_high : L.film.cap ≤ count_max

numbers_told : (L : Life) (m : ℕ) (t : Title) → 0 < L.film.cap → TellsTitle L m t → Numbers L
numbers_told L m t some (absent e f g) = absurd (let z : L.film.cap ≡ 0 = ap (λ (L : Life). L.film.cap) e in omega arith)
numbers_told L m t some (present r e f p) =
    let z = p.sized in
    let film : 0 < t.film.length = omega (arith, z.length_low) in
    let some-floor : 0 < t.film.floor = omega (arith, z.floor_low) in
    let floor-fits : t.film.floor ≤ t.film.cap = omega (arith, z.count_low, z.count_high) in
    subst Numbers (sym e)
    (record {
      opened_high = z.opened_high;
      tick_some = tick_pos t.film.kind t.film.length t.film.floor t.film.cap film some-floor floor-fits;
      tick_low = omega (arith, z.length_high, tick_high t.film.kind t.film.length t.film.floor t.film.cap film some-floor floor-fits);
      floor_some = some-floor;
      floor_low = floor-fits;
      cap_high = z.cap_high;
    })

pub numbers : (pool : ℕ) (es : List Event) (s : State) → Reached pool es s → (i : ℕ) → i < titles_max → 0 < (life_of es i).film.cap →
    Numbers (life_of es i)
numbers pool es s run i id some =
    let w = witness (lanes_of pool) es (lanes_limit pool) (in_sequence pool es s run) in
    numbers_told (life_of es i) (latest_of es i) (title_at w.0 i) some (w.1.tells.title i id)

module _ (pool : ℕ) (es : List Event) (s : State) (run : Reached pool es s) (i : ℕ) (id : i < titles_max) where
  -- an admission of a life is where a box may begin
  pub begins : (a : ℕ) → is_admission (life_of es i) a ≡ true → Begins es i (moment_of (life_of es i) a) a
  unfolding is_admission
  begins a h =
      let L : Life = life_of es i in
      let w = stood (lanes_of pool) es (lanes_limit pool) (in_sequence pool es s run) i (moment_of L a) (omega arith) in
      let same = w.agree a (omega arith) in
      record {
        at_start = ap (λ M. moment_of M a) (sym w.life);
        admission = ap (λ M. is_admission M a) w.life ∙ rw (same.rule, same.shut) h;
      }

  module _ (r : List ℕ) (own : OwnAnswers pool es i r) (some : 0 < (life_of es i).film.cap) (short : ticks_in r ≤ ticks_max) where
    -- every moment of the record may be asked about
    asked_soon : (t l : ℕ) → t < ticks_in r → own.moment t l ≤ asked_max
    asked_soon t l b =
        let L : Life = life_of es i in
        let z = numbers pool es s run i id some in
        let m : suc t * tick_length L ≤ ticks_max * length_max = mul-le-mul {n₁ = suc t} {m₁ = tick_length L} {n₂ = ticks_max} {m₂ = length_max} (omega arith) z.tick_low in
        omega (arith, (own.within_tick t l b).until, z.opened_high)

    -- a cell that a box receives is in the record
    recorded : (a c : ℕ) → (f : Received es i (life_at es i (moment_of (life_of es i) a)) a c) → f.tick < ticks_in r →
        is_shown r c f.tick ≡ true
    unfolding is_shown
    recorded a c f b =
        let L : Life = life_of es i in
        let w = stood (lanes_of pool) es (lanes_limit pool) (in_sequence pool es s run) i (moment_of L a) (omega arith) in
        let l : ℕ = f.lane in
        let υ : ℕ = own.moment f.tick l in
        let there : InTick (life_at es i (moment_of L a)) f.tick υ = subst (λ M. InTick M f.tick υ) (sym w.life) (record { from = (own.within_tick f.tick l b).from; until = (own.within_tick f.tick l b).until }) in
        let told = (no_box_runs_dry pool es s run).by_the_calls i (moment_of L a) a c id f υ there (asked_soon f.tick l b) in
        let cap : (life_at es i (moment_of L a)).film.cap ≡ L.film.cap = ap (λ (M : Life). M.film.cap) w.life in
        let low : l < lane_places = omega (arith, f.lane_low, (numbers pool es s run i id some).cap_high) in
        let is : seen r f.tick l ≡ c = own.answers f.tick l b low ∙ rw told.0 told.1 in
        some_in (λ l. eqb (seen r f.tick l) c) lane_places l low (eq-eqb _ _ is)

    -- every cell that holds film is shown in time to a box whose play ticks lie in the record
    pub own_in_time : (a c : ℕ) → is_admission (life_of es i) a ≡ true → a + c < ticks_in r → is_film (life_of es i) c ≡ true →
        is_in_time r a c ≡ true
    unfolding is_in_time
    own_in_time a c h b film =
        let L : Life = life_of es i in
        let w = stood (lanes_of pool) es (lanes_limit pool) (in_sequence pool es s run) i (moment_of L a) (omega arith) in
        let shown = subst (λ M. is_film M c ≡ true) (sym w.life) film in
        let f = (no_box_runs_dry pool es s run).boxes i (moment_of L a) a c id (begins a h) shown in
        let t : ℕ = f.tick in
        let far : a + (t - a) ≡ t = omega (arith, f.from_start) in
        some_in (λ j. is_shown r c (a + j)) (suc c) (t - a) (omega (arith, f.by_then))
        (rw far (recorded a c f (omega (arith, f.by_then))))
