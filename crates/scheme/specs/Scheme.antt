-- A scheme: by which rule a title's lanes are sent and its boxes take cells (01, "Lanes are ours" and "The box plan"; 02, 12).
-- What the story says of a title it says of its scheme; the padded grid is one, the steady lanes of a skip-forward title are
-- the other (document 002, chapter 3).
use Rattle.std.specs.Prelude.{ℕ, zero, suc, ◌+◌, ◌-◌, ◌*◌, ◌%◌, ◌^◌, Bool, leb, ltb, eqb}
use Rattle.rules.specs.Limits.{both}
use Rattle.rules.specs.Refusals.{pick}
use Rattle.rules.specs.Search.{some, first}
use Rattle.grid.specs.Ticks.{slot, rounded_up, tick_of}
use Rattle.grid.specs.Channels.{channel_cell}
use Rattle.grid.specs.Lanes.{lane_cell}

pub record Scheme : Type 0 where
  -- the ticks in a slot of a count
  pub slot_of : ℕ → ℕ
  -- of a count, the cell on a channel at a tick,
  pub on_channel : ℕ → ℕ → ℕ → ℕ
  -- and for how many ticks a box takes that channel
  pub span : ℕ → ℕ → ℕ
  -- the cell that a lane carries at a tick while it is active
  pub on_lane : ℕ → ℕ → ℕ

-- tick t is a slot start of count k: a box may begin there
unfoldable pub starts : Scheme → ℕ → ℕ → Bool
starts S k t = eqb (t % S.slot_of k) 0

-- a box that starts at tick a under count k takes cell c from channel d at tick t
unfoldable pub takes_from : Scheme → ℕ → ℕ → ℕ → ℕ → ℕ → Bool
takes_from S k a c t d = both (leb a t) (both (ltb t (a + S.span k d)) (eqb (S.on_channel k d t) c))

-- the cell is in the plan of that box at tick t
unfoldable pub takes : Scheme → ℕ → ℕ → ℕ → ℕ → Bool
takes S k a c t = some (takes_from S k a c t) k

-- how many ticks after that start it takes the cell, at the first such tick; 2^(K-1), for a cap of K, where it never does: no
-- channel is taken for longer
unfoldable pub taken_after : Scheme → ℕ → ℕ → ℕ → ℕ → ℕ
taken_after S K k a c = first (λ o. takes S k a c (a + o)) (2 ^ (K - 1))

-- the padded grid of floor A and cap K
abbrev pub padded : ℕ → ℕ → Scheme
padded A K =
    record { slot_of = slot K; on_channel = channel_cell A K; span = λ k d. slot K k * 2 ^ d; on_lane = lane_cell A K }

-- the ticks after which lane i of a skip-forward title repeats: 1, and from lane 1 on as many as it has blocks
abbrev pub period : ℕ → ℕ
period zero = 1
period (suc i) = 2 ^ i

-- the cell on lane i of a skip-forward title at tick t: lane 0 repeats the first, lane i from 1 on those from 2^(i-1) up
-- to its double, in order from tick 0
unfoldable pub steady_cell : ℕ → ℕ → ℕ
steady_cell zero t = 0
steady_cell (suc i) t = 2 ^ i + t % 2 ^ i

-- a skip-forward title: each tick is a slot start, its channels are its lanes, each taken for one period
abbrev pub steady : Scheme
steady =
    record { slot_of = λ k. 1; on_channel = λ k d t. steady_cell d t; span = λ k d. period d; on_lane = λ l t. steady_cell l t }

-- which of the two a title has
abbrev pub padded_kind : ℕ
padded_kind = 0

abbrev pub steady_kind : ℕ
steady_kind = 1

unfoldable pub scheme_of : ℕ → ℕ → ℕ → Scheme
scheme_of kind A K = pick (eqb kind steady_kind) steady (padded A K)

-- the tick in ms of a title of D ms: of a skip-forward title with K lanes each of its 2^(K-1) blocks plays for one
unfoldable pub tick_for : ℕ → ℕ → ℕ → ℕ → ℕ
tick_for kind D A K = pick (eqb kind steady_kind) (rounded_up D (2 ^ (K - 1))) (tick_of D A K)

-- of a film of D ms, with a tick of so many ms, cell c holds film and is no padding
unfoldable pub film_in : ℕ → ℕ → ℕ → Bool
film_in D tick c = ltb (c * tick) D
