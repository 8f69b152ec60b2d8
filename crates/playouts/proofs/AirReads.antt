-- What is printed from tick 0 on is read by `air` as the record of our own lane answers, is answered 0, and starves none: of every whole
-- log and every padded title last opened in it. Rests on the text reading back (ReadBack), and on `airing` proofs/Starves.
use mathlib.Core.Path.{◌≡◌, refl, sym, ap, ◌∙◌}
use mathlib.Core.Bool.{true}
use mathlib.Core.Logic.{⊎_elim}
use mathlib.Core.List.{List}
use Prim.Native.Nat.{ℕ, ◌+◌, ◌*◌, ◌/◌, ◌%◌, ◌^◌, ◌≤◌, ◌<◌}
use native.Mathlib.Omega.{arith}
use native.Mathlib.Nat.{mul-le-mul}
use borrow.Author.Tests.{eqb-true, ltb-true, le-leb, leb-true}
use lib.Dec.{leb, ltb, eqb}
use lib.ListN.{length, take, replicate, length-replicate}
use lib.Pow.{pow_mono}
use lib.Seq.{ext_get_or, length-take-le, get_or-take}
use Rattle.rules.specs.Limits.{within, pool_min, pool_max, id_max, asked_max, length_max, count_max, titles_max, lane_places}
use Rattle.rules.specs.Refusals.{done}
use Rattle.rules.proofs.Tests.{both_l, both_r, either_out}
use Rattle.grid.specs.Ticks.{cells}
use Rattle.scheme.specs.Scheme.{padded_kind}
use Rattle.notice.specs.Log.{Bytes, is_whole_log}
use Rattle.plans.specs.Row.{written}
use Rattle.plans.proofs.Row.{written_length, written_first}
use Rattle.story.specs.Life.{Life}
use Rattle.story.specs.Story.{moment_of, tick_length}
use Rattle.agent.specs.Played.{agent_played, events_played, life_in}
use Rattle.agent.proofs.Played.{log_reached}
use Rattle.judging.specs.Record.{nothing_seen, ticks_max}
use Rattle.air_record.specs.Record.{all_taken}
use Rattle.airing.specs.Air.{in_limits, is_film_title, is_cell_of}
use Rattle.airing.specs.Own.{own_number, own_record}
use Rattle.airing.proofs.OwnCells.{answer_number_lem}
use Rattle.airing.proofs.Starves.{film_numbers, own_record_starves_none}
use Rattle.playouts.specs.Playout.{playout_limits, was_opened, last_tick_of, is_askable, playout_answer, playout_number}
use Rattle.playouts.specs.Lines.{number_lines, playout_text}
use Rattle.playouts.specs.Reads.{ReadByAir, AirReads}
use Rattle.playouts.proofs.Answers.{grants}
use Rattle.playouts.proofs.ReadBack.{read_fault, read_count, read_row}

-- the first n places of a row, written, are those of any other, by values that are the same
first_alike : (f g : ℕ → ℕ) → ((j : ℕ) → f j ≡ g j) → (row : List ℕ) (n : ℕ) → n ≤ length row →
    take n (written f row n) ≡ written g (replicate n 0) n
first_alike f g same row n le =
    let few : length (take n (written f row n)) ≡ n = length-take-le n (written f row n) (omega (arith, written_length f row n)) in
    let all : length (written g (replicate n 0) n) ≡ n = written_length g (replicate n 0) n ∙ length-replicate n 0 in
    ext_get_or 0 (take n (written f row n)) (written g (replicate n 0) n) (few ∙ sym all)
    (λ j lt.
    get_or-take n (written f row n) j 0 (omega arith)
    ∙ written_first f row n j le (omega arith)
    ∙ same j
    ∙ sym (written_first g (replicate n 0) n j (omega (arith, length-replicate {A = ℕ} n 0)) (omega arith)))

-- a cell of a title with a cap that may be, or nothing, has 16 bits
cell_low : (K n : ℕ) → K ≤ count_max → is_cell_of K n ≡ true → n ≤ nothing_seen
cell_low K n high is =
    ⊎_elim (λ x. omega (arith, eqb-true n nothing_seen x))
    (λ x. let most : 2 ^ K ≤ 2 ^ count_max = pow_mono high in omega (arith, ltb-true n (cells K) x))
    (either_out (eqb n nothing_seen) (ltb n (cells K)) is)

module _ (pool : ℕ) (log : List ℕ) (title n : ℕ) (small : Bytes log) (limits : in_limits pool title ≡ true) (whole : is_whole_log log ≡ true)
    (film : is_film_title (life_in pool log title) ≡ true) (some : 1 ≤ n) (few : n ≤ ticks_max) where
  abbrev L : Life
  L = life_in pool log title

  opened : was_opened L ≡ true
  unfolding was_opened is_film_title
  opened = both_l (ltb 0 L.film.cap) (eqb L.film.kind padded_kind) film

  padded : L.film.kind ≡ padded_kind
  unfolding is_film_title
  padded = eqb-true L.film.kind padded_kind (both_r (ltb 0 L.film.cap) (eqb L.film.kind padded_kind) film)

  low_id : title < titles_max
  low_id = omega (arith, leb-true title id_max (both_r (within pool_min pool_max pool) (leb title id_max) limits))

  askable : is_askable L (last_tick_of 0 n) ≡ true
  unfolding is_askable
  askable =
      let z = film_numbers pool log title small limits film in
      let m : last_tick_of 0 n * tick_length L ≤ ticks_max * length_max = mul-le-mul {n₁ = last_tick_of 0 n} {m₁ = tick_length L} {n₂ = ticks_max} {m₂ = length_max} (omega arith) z.tick_low in
      le-leb (moment_of L (last_tick_of 0 n)) asked_max (omega (arith, z.opened_high))

  inside : playout_limits pool title 0 n ≡ true
  unfolding playout_limits
  inside = rw (limits, le-leb 1 n some, le-leb n ticks_max few) refl

  answered : playout_answer pool log title 0 n ≡ done
  answered = grants pool log title 0 n (record { limits = inside; whole = whole; opened = opened; asked = askable })

  -- so the text is that of the numbers
  told : playout_text pool log title 0 n ≡ number_lines (playout_number pool log title 0) (n * lane_places)
  unfolding playout_text
  told = rw answered refl

  number_low : (j : ℕ) → playout_number pool log title 0 j ≤ nothing_seen
  unfolding playout_number own_number
  number_low j =
      cell_low L.film.cap _ (film_numbers pool log title small limits film).cap_high
      (answer_number_lem pool (events_played pool log) (agent_played pool log).state (log_reached pool log small) title low_id ((0 * lane_places + j) % lane_places) (moment_of L ((0 * lane_places + j) / lane_places)) padded (omega arith))

  -- from tick 0 on, the numbers are those of the record
  from_start : (j : ℕ) → playout_number pool log title 0 j ≡ own_number pool (events_played pool log) title j
  unfolding playout_number
  from_start j =
      let same : 0 * lane_places + j ≡ j = omega arith in
      ap (own_number pool (events_played pool log) title) same

  module _ (row : List ℕ) (room : n * lane_places ≤ length row) where
    own : take (n * lane_places) (all_taken (playout_text pool log title 0 n) row).row ≡ own_record pool (events_played pool log) title n
    unfolding own_record
    own =
        ap (λ t. take (n * lane_places) (all_taken t row).row) told
        ∙ ap (take (n * lane_places)) (read_row (playout_number pool log title 0) row (λ j b. number_low j) n room)
        ∙ first_alike (playout_number pool log title 0) (own_number pool (events_played pool log) title) from_start row (n * lane_places) room

    read : (places : ℕ) → n ≤ places → ReadByAir pool log title n row places
    read places fits =
        let none = own_record_starves_none pool log title small limits n places film few fits whole in
        record {
          no_fault_holds = rw told (read_fault (playout_number pool log title 0) row (λ j b. number_low j) n room);
          all_numbers = rw told (read_count (playout_number pool log title 0) row (λ j b. number_low j) n room);
          own_answers = own;
          judged = rw own none.0;
          none_starved = rw own none.1;
        }

pub air_reads_it : AirReads
air_reads_it pool log title n row room small limits whole film some few fits roomy =
    read pool log title n small limits whole film some few row fits room roomy
