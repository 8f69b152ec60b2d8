-- Of two records that the call accepts of one title of a log, the one that shows all that the other shows has no fewer played
-- through. Rests on the same of any life (judging), and on an opened title's cap keeping to its limit.
use mathlib.Core.Path.{◌≡◌}
use mathlib.Core.List.{List}
use Prim.Native.Nat.{ℕ, ◌≤◌}
use Rattle.rules.specs.Refusals.{done}
use Rattle.notice.specs.Log.{Bytes}
use Rattle.agent.specs.Played.{life_in}
use Rattle.judging.specs.Judged.{Covers}
use Rattle.judging.proofs.MoreShown.{no_fewer_played}
use Rattle.airing.specs.Air.{air_answer, air_gives}
use Rattle.airing.proofs.Accepted.{accepted_numbers, accepted_played}

module _ (pool : ℕ) (log : List ℕ) (title : ℕ) (small : Bytes log) where
  pub more_played : (r q : List ℕ) (room-r room-q : ℕ) → air_answer pool log title r room-r ≡ done →
      air_answer pool log title q room-q ≡ done → Covers (life_in pool log title) r q →
      (air_gives pool log title r room-r).played ≤ (air_gives pool log title q room-q).played
  more_played r q room-r room-q ok-r ok-q more =
      rw (accepted_played pool log title r room-r ok-r, accepted_played pool log title q room-q ok-q)
      (no_fewer_played (life_in pool log title) (accepted_numbers pool log title r room-r ok-r small).cap_high r q more)
