-- Two logs that differ in the order of two events alone, at one moment on titles of different ids (02, 14), say the same of the air,
-- for every title, record and room: the logs that a head-end keeps of two accepted sequences, each numbered from 1 on. So do
-- they of the ticks at which a title has admissions. Rests on the lives being the same in both.
use mathlib.Core.Path.{◌≡◌, refl}
use mathlib.Core.List.{List, ◌∷◌, ◌++◌}
use Prim.Native.Nat.{ℕ, ◌^◌, ◌<◌}
use lib.ListN.{length}
use Rattle.story.specs.declared.Event.{Event}
use Rattle.story.specs.Story.{Accepted, OneMoment}
use Rattle.story.specs.Runs.{lanes_of}
use Rattle.agent.specs.Series.{log_kept}
use Rattle.agent.proofs.OneMoment.{kept_lives, kept_both_whole}
use Rattle.airing.specs.Air.{air_answer, air_gives, air_leaves, ticks_answer, ticks_leaves}

module _ (pool : ℕ) (es new : List Event) (e f : Event) (at : OneMoment e f)
    (one : Accepted (lanes_of pool) (new ++ f ∷ e ∷ es)) (other : Accepted (lanes_of pool) (new ++ e ∷ f ∷ es))
    (few : length (new ++ f ∷ e ∷ es) < 2 ^ 32) (title : ℕ) where
  -- what the call gives back, and what it leaves in the room,
  pub gives_alike : (r : List ℕ) (room : ℕ) →
      air_gives pool (log_kept (new ++ f ∷ e ∷ es)) title r room ≡ air_gives pool (log_kept (new ++ e ∷ f ∷ es)) title r room
  unfolding air_answer air_gives
  gives_alike r room =
      rw (kept_both_whole pool es new e f at one other few, kept_lives pool es new e f at one other few title) refl

  pub leaves_alike : (r row : List ℕ) →
      air_leaves pool (log_kept (new ++ f ∷ e ∷ es)) title r row ≡ air_leaves pool (log_kept (new ++ e ∷ f ∷ es)) title r row
  unfolding air_answer air_leaves
  leaves_alike r row =
      rw (kept_both_whole pool es new e f at one other few, kept_lives pool es new e f at one other few title) refl

  -- and the ticks of its admissions
  pub ticks_alike : (row : List ℕ) →
      (ticks_answer pool (log_kept (new ++ f ∷ e ∷ es)) title ≡ ticks_answer pool (log_kept (new ++ e ∷ f ∷ es)) title)
      × (ticks_leaves pool (log_kept (new ++ f ∷ e ∷ es)) title row ≡ ticks_leaves pool (log_kept (new ++ e ∷ f ∷ es)) title row)
  unfolding ticks_answer ticks_leaves
  ticks_alike row =
      rw (kept_both_whole pool es new e f at one other few, kept_lives pool es new e f at one other few title) (refl, refl)
