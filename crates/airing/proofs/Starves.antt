-- A record of our own lane answers, each asked after its moment's events, starves none: for every log the call takes it, and every
-- admission that it judges played through.
-- Rests on demand 3 by the calls (OwnAnswers), and on every answer being a cell of the title or none (OwnCells).
use mathlib.Core.Path.{◌≡◌, refl}
use mathlib.Core.Bool.{Bool, true}
use mathlib.Core.List.{List}
use Prim.Native.Nat.{ℕ, ◌+◌, ◌%◌, ◌≤◌, ◌<◌}
use native.Mathlib.Omega.{arith}
use lib.Dec.{leb, ltb, eqb}
use lib.ListN.{get_or, length}
use borrow.Author.Tests.{eqb-true, ltb-true, leb-true, eq-eqb, le-leb}
use Rattle.rules.specs.Limits.{both, within, pool_min, pool_max, id_max, titles_max, lane_places}
use Rattle.rules.specs.Refusals.{done, first_hit}
use Rattle.rules.proofs.Tests.{both_l, both_r, both_in, same}
use Rattle.rules.proofs.Search.{every_in, how_many_ext}
use Rattle.grid.specs.Ticks.{cells}
use Rattle.scheme.specs.Scheme.{padded_kind}
use Rattle.notice.specs.Log.{Bytes, is_whole_log}
use Rattle.story.specs.Life.{Life, is_admission}
use Rattle.story.specs.declared.Event.{Event}
use Rattle.story.specs.Runs.{Reached}
use Rattle.agent.specs.Played.{agent_played, events_played, life_in}
use Rattle.agent.proofs.Played.{log_reached}
use Rattle.judging.specs.Record.{nothing_seen, ticks_max, ticks_in}
use Rattle.judging.specs.Judged.{result_of, is_covered, is_judged, is_played, judged_in, played_in}
use Rattle.judging.proofs.Plays.{plays_through, played_in_lem, played_out}
use Rattle.airing.specs.Air.{in_limits, has_room_for, is_film_title, all_cells, air_answer, air_gives}
use Rattle.airing.specs.Own.{OwnAnswers, own_record}
use Rattle.airing.proofs.OwnAnswers.{Numbers, numbers, own_in_time}
use Rattle.airing.proofs.OwnCells.{is_number, own_number_lem}
use Rattle.airing.proofs.OwnRecord.{own_whole, own_ticks, own_record_lem}

module _ (pool : ℕ) (log : List ℕ) (title : ℕ) (small : Bytes log) (limits : in_limits pool title ≡ true) where
  -- the log's events, and the title's life by them
  reach_log : Reached pool (events_played pool log) (agent_played pool log).state
  reach_log = log_reached pool log small

  low_id : title < titles_max
  low_id = omega (arith, leb-true title id_max (both_r (within pool_min pool_max pool) (leb title id_max) limits))

  opened_some : is_film_title (life_in pool log title) ≡ true → 0 < (life_in pool log title).film.cap
  unfolding is_film_title
  opened_some film =
      let L : Life = life_in pool log title in
      ltb-true 0 L.film.cap (both_l (ltb 0 L.film.cap) (eqb L.film.kind padded_kind) film)

  opened_padded : is_film_title (life_in pool log title) ≡ true → (life_in pool log title).film.kind ≡ padded_kind
  unfolding is_film_title
  opened_padded film =
      let L : Life = life_in pool log title in
      eqb-true L.film.kind padded_kind (both_r (ltb 0 L.film.cap) (eqb L.film.kind padded_kind) film)

  -- a film keeps to its limits
  pub film_numbers : is_film_title (life_in pool log title) ≡ true → Numbers (life_in pool log title)
  film_numbers film =
      numbers pool (events_played pool log) (agent_played pool log).state reach_log title low_id (opened_some film)

  module _ (r : List ℕ) (room : ℕ) (own : OwnAnswers pool (events_played pool log) title r)
      (film : is_film_title (life_in pool log title) ≡ true) (roomy : has_room_for r room ≡ true) where
    whole_ticks : length r % lane_places ≡ 0
    unfolding has_room_for
    whole_ticks =
        let short : Bool = both (leb (ticks_in r) ticks_max) (leb (ticks_in r) room) in
        eqb-true (length r % lane_places) 0 (both_l (eqb (length r % lane_places) 0) short roomy)

    few_ticks : ticks_in r ≤ ticks_max
    unfolding has_room_for
    few_ticks =
        let short : Bool = both (leb (ticks_in r) ticks_max) (leb (ticks_in r) room) in
        leb-true (ticks_in r) ticks_max
        (both_l (leb (ticks_in r) ticks_max) (leb (ticks_in r) room) (both_r (eqb (length r % lane_places) 0) short roomy))

    -- each admission that is judged gets "none missed"
    pub own_result : (a : ℕ) → is_judged (life_in pool log title) r a ≡ true → result_of (life_in pool log title) r a ≡ nothing_seen
    unfolding is_judged is_covered
    own_result a h =
        let L : Life = life_in pool log title in
        let ends : ℕ = a + cells L.film.cap in
        let in_all : ends ≤ ticks_in r = leb-true ends (ticks_in r) (both_r (is_admission L a) (leb ends (ticks_in r)) h) in
        plays_through L r a
        (λ c low has.
        own_in_time pool (events_played pool log) (agent_played pool log).state reach_log title low_id r own (opened_some film) few_ticks a c
        (both_l (is_admission L a) (leb (a + cells L.film.cap) (ticks_in r)) h) (omega arith) has)

    -- so all that are judged played through
    pub own_played : played_in (life_in pool log title) r ≡ judged_in (life_in pool log title) r
    own_played =
        let L : Life = life_in pool log title in
        how_many_ext (is_played L r) (is_judged L r) (ticks_in r)
        (λ a b.
        same (is_played L r a) (is_judged L r a) (λ h. (played_out L r a h).0) (λ h. played_in_lem L r a h (own_result a h)))

    -- and every number of the record is a cell of the title, or nothing
    pub own_cells : all_cells (life_in pool log title).film.cap r ≡ true
    unfolding all_cells
    own_cells =
        let L : Life = life_in pool log title in
        every_in (λ j. is_number L.film.cap (get_or r j 0)) (length r)
        (λ j b.
        own_number_lem pool (events_played pool log) (agent_played pool log).state reach_log title low_id r own (opened_padded film) whole_ticks j b)

    -- the call takes such a record of a whole log, and as many played through as were judged
    pub starves_none : is_whole_log log ≡ true →
        (air_answer pool log title r room ≡ done) × ((air_gives pool log title r room).played ≡ (air_gives pool log title r room).judged)
    unfolding air_answer air_gives first_hit
    starves_none whole =
        let answers : air_answer pool log title r room ≡ done = rw (limits, roomy, whole, film, own_cells) refl in
        (answers, rw answers own_played)

  -- so it is with the record that asks at each tick's start, of any number of ticks that a record may have
  pub own_record_starves_none : (n room : ℕ) → is_film_title (life_in pool log title) ≡ true → n ≤ ticks_max → n ≤ room →
      is_whole_log log ≡ true → (air_answer pool log title (own_record pool (events_played pool log) title n) room ≡ done)
      × ((air_gives pool log title (own_record pool (events_played pool log) title n) room).played
      ≡ (air_gives pool log title (own_record pool (events_played pool log) title n) room).judged)
  unfolding has_room_for
  own_record_starves_none n room film few roomy whole =
      let es : List Event = events_played pool log in
      let r : List ℕ = own_record pool es title n in
      starves_none r room (own_record_lem pool es title n (film_numbers film).tick_some) film
      (both_in (eqb (length r % lane_places) 0) (both (leb (ticks_in r) ticks_max) (leb (ticks_in r) room))
      (eq-eqb _ _ (own_whole pool es title n))
      (both_in (leb (ticks_in r) ticks_max) (leb (ticks_in r) room) (le-leb (ticks_in r) ticks_max (omega (arith, own_ticks pool es title n)))
      (le-leb (ticks_in r) room (omega (arith, own_ticks pool es title n)))))
      whole
