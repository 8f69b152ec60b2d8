-- A head-end and an agent that have the same accepted events answer every lane question and status alike, and hold the same
-- lanes, whatever calls and byte strings were refused on either side: their states are equal.
-- Rests on `left_alone`: the accepted events alone leave the state.
use mathlib.Core.Path.{◌≡◌, sym, ap, ◌∙◌}
use mathlib.Core.List.{List}
use Prim.Native.Nat.{ℕ}
use Rattle.story.specs.Kept.{lanes_held}
use Rattle.story.specs.Calls.{lane_answer, lane_shows, status_answer, status_count, status_held, status_mark}
use Rattle.story.specs.declared.Event.{Event}
use Rattle.story.specs.Story.{accepted}
use Rattle.story.specs.Runs.{state_after, lanes_of}
use Rattle.story.proofs.Demands.{every_run, tells_the_story}
use Rattle.agent.specs.Series.{agent_after, events_heard}
use Rattle.agent.proofs.Order.{state_heard}

module _ (pool : ℕ) (cs : List Event) (bss : List (List ℕ)) (same : accepted (lanes_of pool) cs ≡ events_heard pool bss)
  where
    pub alike : state_after pool cs ≡ (agent_after pool bss).state
    alike =
        (tells_the_story pool (accepted (lanes_of pool) cs) (state_after pool cs) (every_run pool cs)).left_alone
        ∙ ap (state_after pool) same
        ∙ sym (state_heard pool bss)

    -- so every lane question is answered alike,
    pub lanes_alike : (i l τ : ℕ) →
        (lane_answer (state_after pool cs) i l τ ≡ lane_answer (agent_after pool bss).state i l τ)
        × (lane_shows (state_after pool cs) i l τ ≡ lane_shows (agent_after pool bss).state i l τ)
    lanes_alike i l τ = (ap (λ s. lane_answer s i l τ) alike, ap (λ s. lane_shows s i l τ) alike)

    -- and status, and lanes held
    pub status_alike : (τ : ℕ) (ids : List ℕ) (m h d i : ℕ) →
        (status_answer (state_after pool cs) τ ids m h d ≡ status_answer (agent_after pool bss).state τ ids m h d)
        × (status_count (state_after pool cs) i ≡ status_count (agent_after pool bss).state i)
        × (status_held (state_after pool cs) i τ ≡ status_held (agent_after pool bss).state i τ)
        × (status_mark (state_after pool cs) i ≡ status_mark (agent_after pool bss).state i)
        × (lanes_held (state_after pool cs) τ ≡ lanes_held (agent_after pool bss).state τ)
    status_alike τ ids m h d i = (
      ap (λ s. status_answer s τ ids m h d) alike,
      ap (λ s. status_count s i) alike,
      ap (λ s. status_held s i τ) alike,
      ap (λ s. status_mark s i) alike,
      ap (λ s. lanes_held s τ) alike,
    )
