-- How long a lane that is given back is still held (source 002, Table 3.4), by the scheduler's own answers: a film of 120
-- minutes has as many lanes as its cap, and gives the last one back at a slot start of the smaller count.
use Rattle.std.specs.Prelude.{ℕ, zero, suc, ◌+◌, ◌-◌, ◌*◌, ◌/◌, ◌^◌, eqb, ltb}
use Rattle.rules.specs.Refusals.{pick}
use Rattle.rules.specs.Search.{how_many}
use Rattle.grid.specs.Ticks.{tick_of}
use Rattle.story.specs.declared.State.{State}
use Rattle.story.specs.Calls.{fresh_next, lane_answer}
use Rattle.story.specs.declared.Act.TheVariants.{Changes}
use Rattle.story.specs.Story.{opens, event}
use Rattle.story.specs.Runs.{called}
use Rattle.figures.specs.Times.{two_hours}

-- opened with count k at 0, and changed to one lane less at the start of a tick
unfoldable pub returned_at : ℕ → ℕ → ℕ → State
returned_at A k drop =
    called (called (fresh_next k) (event 0 0 (opens two_hours A k k)))
    (record { time = drop * tick_of two_hours A k; title = 0; act = Changes (k - 1) })

-- in how many of the first n ticks from the drop on the lane is held
unfoldable pub held_of : ℕ → ℕ → ℕ → ℕ → ℕ
held_of A k drop n =
    how_many (λ i. eqb (lane_answer (returned_at A k drop) 0 (k - 1) ((drop + i) * tick_of two_hours A k)) 0) n

-- no list is longer than a period, 2^(k-1) ticks
abbrev pub held_ticks : ℕ → ℕ → ℕ → ℕ
held_ticks A k drop = held_of A k drop (2 ^ (k - 1))

-- the drop moments of a period: with k - 1 lanes a slot is two ticks
abbrev pub drops : ℕ → ℕ
drops k = 2 ^ (k - 1) / 2

-- the ticks of these in the second period, which the boxes of the first still watch
abbrev pub drop_tick : ℕ → ℕ → ℕ
drop_tick k i = 2 ^ (k - 1) + 2 * i

-- the longest over the first n of them
unfoldable pub longest_held : ℕ → ℕ → ℕ → ℕ
longest_held A k zero = 0
longest_held A k (suc i) =
    pick (ltb (longest_held A k i) (held_ticks A k (drop_tick k i))) (held_ticks A k (drop_tick k i)) (longest_held A k i)
