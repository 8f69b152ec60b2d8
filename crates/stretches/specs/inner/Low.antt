-- The stretches that a lane below the floor owes, each within a slot of the floor's count.
use Rattle.std.specs.Prelude.{ℕ, suc, ◌+◌, ◌-◌, ◌*◌, ◌/◌, ◌%◌, ◌^◌, ◌≤◌, ◌<◌, ◌≡◌, List, leb, eqb, get_or}
use Rattle.rules.specs.Limits.{count_max}
use Rattle.rules.specs.Refusals.{pick}
use Rattle.grid.specs.Ticks.{slot}
use Rattle.story.specs.declared.Film.{Film}
use Rattle.stretches.specs.declared.low.Low.{Low}
use Rattle.stretches.specs.inner.Walk.{IsMost}

-- the segment that lane l carries at tick u: so many after its first
abbrev pub place_at : ℕ → ℕ → ℕ → ℕ → ℕ
place_at A K l u = u / slot K A % 2 ^ l

-- the ticks that are left of the slot
abbrev pub left_at : ℕ → ℕ → ℕ → ℕ
left_at A K u = slot K A - u % slot K A

-- the cell that the lane carries
abbrev pub cell_at : ℕ → ℕ → ℕ → ℕ → ℕ
cell_at A K l u = (2 ^ l - 1 + place_at A K l u) * slot K A + u % slot K A

-- for how long after its start a box of count c takes the lane's cell: of the first segment, with so many ticks left of the slot, its own
-- last slot for as long as all others, and what is before it half as long
unfoldable pub span_by : ℕ → ℕ → ℕ → ℕ → ℕ → ℕ
span_by A K l left c = pick (leb left (slot K c)) (slot K A * 2 ^ l) (slot K A * 2 ^ (l - 1))

-- where the boxes of all counts have taken it
abbrev pub IsTill : List ℕ → ℕ → ℕ → ℕ → ℕ → ℕ → Type 0
IsTill ends A K l left m = IsMost ends (λ c. span_by A K l left c - slot K c) A (suc K) m

-- the ticks that decide at tick u: none but those of the first segment
unfoldable pub decisive : ℕ → ℕ → ℕ → ℕ → ℕ
decisive A K l u = pick (eqb (place_at A K l u) 0) (left_at A K u) 0

-- a stretch of r ticks from tick u on, within its slot: of the first segment each count that does not yet decide its own last slot there
-- does not within the stretch
pub record IsLength (A K l u r : ℕ) : Type 0 where
  pub some : 0 < r
  pub within : r ≤ left_at A K u
  pub apart : place_at A K l u ≡ 0 → (c : ℕ) → A ≤ c → c ≤ K → slot K c < left_at A K u → slot K c + r ≤ left_at A K u

-- a lane below the floor, its numbers as they are
pub record Lower (s : Low) : Type 0 where
  pub first : 0 < s.lane
  pub below : s.lane < s.floor
  pub fit : s.floor ≤ s.cap
  pub high : s.cap ≤ count_max
  pub wide : s.width ≡ slot s.cap s.floor
  pub owns : s.own ≡ 2 ^ s.lane

-- it is lane l of a film
pub record LowOf (f : Film) (l : ℕ) (s : Low) : Type 0 where
  pub lower : Lower s
  pub floor : s.floor ≡ f.floor
  pub cap : s.cap ≡ f.cap
  pub lane : s.lane ≡ l

-- where lane 0 was dropped at a slot start, after every count had ended, as events drop it, nobody awaits a cell of it
pub record Idle (ends : List ℕ) (f : Film) (T : ℕ) : Type 0 where
  pub aligned : T % slot f.cap f.floor ≡ 0
  pub ended : (c : ℕ) → f.floor ≤ c → c ≤ f.cap → get_or ends c 0 ≤ T
