-- What `air` makes of what is printed: the record of our own lane answers, in which nobody is starved.
use Rattle.std.specs.Prelude.{ℕ, ◌*◌, ◌≤◌, ◌≡◌, true, List, length, take}
use Rattle.rules.specs.Limits.{lane_places}
use Rattle.rules.specs.Refusals.{done}
use Rattle.notice.specs.Log.{Bytes, is_whole_log}
use Rattle.agent.specs.Played.{events_played, life_in}
use Rattle.judging.specs.Record.{ticks_max}
use Rattle.air_record.specs.Record.{sound, all_taken}
use Rattle.airing.specs.Air.{in_limits, is_film_title, air_answer, air_gives}
use Rattle.airing.specs.Own.{own_record}
use Rattle.playouts.specs.Lines.{playout_text}

-- what is printed of n ticks from tick 0 on, read into a row with room for them, and judged
pub record ReadByAir (pool : ℕ) (log : List ℕ) (title n : ℕ) (row : List ℕ) (room : ℕ) : Type 0 where
  -- no word and no line of it is wrong, and its numbers are the record of our own lane answers
  pub no_fault_holds : (all_taken (playout_text pool log title 0 n) row).scan.fault ≡ sound
  pub all_numbers : (all_taken (playout_text pool log title 0 n) row).scan.count ≡ n * lane_places
  pub own_answers : take (n * lane_places) (all_taken (playout_text pool log title 0 n) row).row ≡ own_record pool (events_played pool log) title n
  -- which is answered 0, and as many played through as were judged
  pub judged : air_answer pool log title (take (n * lane_places) (all_taken (playout_text pool log title 0 n) row).row) room ≡ done
  pub none_starved : (air_gives pool log title (take (n * lane_places) (all_taken (playout_text pool log title 0 n) row).row) room).played
      ≡ (air_gives pool log title (take (n * lane_places) (all_taken (playout_text pool log title 0 n) row).row) room).judged

-- so it is of every whole log, every padded title last opened in it, and any number of ticks that a record may have
abbrev pub AirReads : Type 0
AirReads =
    (pool : ℕ) (log : List ℕ) (title n : ℕ) (row : List ℕ) (room : ℕ) → Bytes log → in_limits pool title ≡ true → is_whole_log log ≡ true →
    is_film_title (life_in pool log title) ≡ true → 1 ≤ n → n ≤ ticks_max → n * lane_places ≤ length row → n ≤ room →
    ReadByAir pool log title n row room
