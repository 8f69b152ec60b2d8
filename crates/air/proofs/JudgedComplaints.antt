-- Of a record that is judged nothing is said but which notices did not count: each of the other lines goes with a refusal.
-- Rests on what holds of a record that the call accepts.
use mathlib.Core.Path.{◌≡◌, refl}
use mathlib.Core.Bool.{Bool, true, false, not}
use mathlib.Core.List.{List, append-nil}
use Prim.Native.Nat.{ℕ}
use native.Mathlib.Omega.{arith}
use borrow.Author.Tests.{le-ltb, not-false}
use lib.ListN.{length}
use Rattle.rules.specs.Refusals.{pick, first_hit, done, outside_limits, wrong_rows, malformed, not_there}
use Rattle.notice.specs.Log.{is_whole_log}
use Rattle.agent.specs.Played.{life_in}
use Rattle.unheard_io.specs.Line.{unheard_line}
use Rattle.judging.specs.Record.{ticks_max, ticks_in}
use Rattle.airing.specs.Air.{in_limits, has_room_for, is_film_title, all_cells, air_answer, ticks_answer}
use Rattle.airing.specs.Reasons.{is_skip_forward, stray_in}
use Rattle.airing.proofs.Accepted.{accepted_limits, accepted_few, accepted_whole, accepted_film}
use Rattle.airing.proofs.RefusalReasons.{none_stray}
use Rattle.air.specs.Complaints.{long_line, skip_line, stray_text, air_complaints}

module _ (pool : ℕ) (log : List ℕ) (title : ℕ) (r text : List ℕ) (ok : air_answer pool log title r ticks_max ≡ done) where
  cells : all_cells (life_in pool log title).film.cap r ≡ true
  unfolding air_answer first_hit
  cells =
      not-false (all_cells (life_in pool log title).film.cap r)
      (go (not (in_limits pool title)) (not (has_room_for r ticks_max)) (not (is_whole_log log)) (not (is_film_title (life_in pool log title)))
      (not (all_cells (life_in pool log title).film.cap r)) ok)
    where
      go : (a b c d e : Bool) →
          pick a outside_limits (pick b wrong_rows (pick c malformed (pick d not_there (pick e outside_limits done)))) ≡ done → e ≡ false
      go true b c d e h = absurd (omega arith)
      go false true c d e h = absurd (omega arith)
      go false false true d e h = absurd (omega arith)
      go false false false true e h = absurd (omega arith)
      go false false false false true h = absurd (omega arith)
      go false false false false false h = refl

  ticks : ticks_answer pool log title ≡ done
  unfolding ticks_answer first_hit
  ticks =
      rw (accepted_limits pool log title r ticks_max ok, accepted_whole pool log title r ticks_max ok, accepted_film pool log title r ticks_max ok)
      refl

  pub judged_quiet : air_complaints pool log title r text ≡ unheard_line pool log
  unfolding air_complaints long_line skip_line stray_text is_skip_forward stray_in
  judged_quiet =
      rw (le-ltb ticks_max (ticks_in r) (accepted_few pool log title r ticks_max ok), ticks, none_stray (life_in pool log title).film.cap r cells, le-ltb (length r) (length r) (omega arith), append-nil, append-nil, append-nil)
      refl
