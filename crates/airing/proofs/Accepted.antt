-- What holds of a record that the call accepts: none of the refusals' tests hits, and the title keeps to its limits.
-- Rests on the laws of listed refusals.
use mathlib.Core.Path.{◌≡◌, refl}
use mathlib.Core.Bool.{Bool, true, false}
use mathlib.Core.List.{List}
use Prim.Native.Nat.{ℕ, ◌%◌, ◌≤◌}
use lib.Dec.{leb, eqb}
use lib.ListN.{length}
use borrow.Author.Tests.{leb-true, not-false}
use Rattle.rules.specs.Limits.{both, lane_places}
use Rattle.rules.specs.Refusals.{done, outside_limits, wrong_rows, malformed, not_there}
use Rattle.rules.proofs.Tests.{both_l, both_r}
use Rattle.rules.proofs.Refusals.{hits_of, numbered, cleared}
use Rattle.notice.specs.Log.{Bytes, is_whole_log}
use Rattle.agent.specs.Played.{life_in}
use Rattle.judging.specs.Record.{ticks_max, ticks_in}
use Rattle.judging.specs.Judged.{played_in}
use Rattle.airing.specs.Air.{in_limits, has_room_for, is_film_title, air_rules, air_answer, air_gives}
use Rattle.airing.proofs.OwnAnswers.{Numbers}
use Rattle.airing.proofs.Starves.{film_numbers}

module _ (pool : ℕ) (log : List ℕ) (title : ℕ) (r : List ℕ) (room : ℕ) (ok : air_answer pool log title r room ≡ done) where
  clear : (n : ℕ) → hits_of n (air_rules pool log title r room) ≡ false
  unfolding air_answer numbered
  clear n = cleared (air_rules pool log title r room) refl ok n

  pub accepted_limits : in_limits pool title ≡ true
  unfolding hits_of
  accepted_limits = not-false (in_limits pool title) (clear outside_limits)

  pub accepted_few : ticks_in r ≤ ticks_max
  unfolding hits_of has_room_for
  accepted_few =
      let short : Bool = both (leb (ticks_in r) ticks_max) (leb (ticks_in r) room) in
      let fits : has_room_for r room ≡ true = not-false (has_room_for r room) (clear wrong_rows) in
      leb-true (ticks_in r) ticks_max
      (both_l (leb (ticks_in r) ticks_max) (leb (ticks_in r) room) (both_r (eqb (length r % lane_places) 0) short fits))

  pub accepted_whole : is_whole_log log ≡ true
  unfolding hits_of
  accepted_whole = not-false (is_whole_log log) (clear malformed)

  pub accepted_film : is_film_title (life_in pool log title) ≡ true
  unfolding hits_of
  accepted_film = not-false (is_film_title (life_in pool log title)) (clear not_there)

  pub accepted_numbers : Bytes log → Numbers (life_in pool log title)
  accepted_numbers small = film_numbers pool log title small accepted_limits accepted_film

  pub accepted_played : (air_gives pool log title r room).played ≡ played_in (life_in pool log title) r
  unfolding air_gives
  accepted_played = rw ok refl
