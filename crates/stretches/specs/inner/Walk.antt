-- The stretches that a lane from the floor up owes, one for each channel.
use Rattle.std.specs.Prelude.{ℕ, suc, ◌+◌, ◌-◌, ◌*◌, ◌/◌, ◌%◌, ◌^◌, ◌≤◌, ◌<◌, min, ◌≡◌, Bool, not, List, ◌⊎◌, leb, ltb, eqb, get_or}
use Rattle.rules.specs.Limits.{both, asked_max, count_max}
use Rattle.rules.specs.Refusals.{pick}
use Rattle.rules.specs.Search.{total}
use Rattle.grid.specs.Ticks.{slot, rounded_up}
use Rattle.grid.specs.Lifted.{lifted}
use Rattle.scheme.specs.Scheme.{steady_kind}
use Rattle.story.specs.declared.Film.{Film}
use Rattle.story.specs.Life.{tick_by}
use Rattle.stretches.specs.declared.upper.Walk.{Walk}

-- numbers that leave room for every sum,
pub record Walkable (s : Walk) : Type 0 where
  pub lane : s.lane < count_max
  pub width : s.width ≤ 2 ^ count_max
  pub at : s.at ≤ asked_max
  pub until : s.until ≤ asked_max + 2 ^ count_max

-- and one of the lane's channels
pub record OnChannel (s : Walk) (d : ℕ) : Type 0 where
  pub walk : Walkable s
  pub channel : d ≤ s.lane

-- the place of the drop's slot among those of the channel
unfoldable pub rest_on : Walk → ℕ → ℕ
rest_on s d = s.turn % 2 ^ min (d + 1) s.lane

-- its one slot that may be awaited, as far from the drop as it lies
unfoldable pub from_on : Walk → ℕ → ℕ
from_on s d = (2 ^ d - 1 - rest_on s d) * s.width

-- whether it is: the place is one before the last, and a box that began latest takes the channel till then
unfoldable pub awaited_on : Walk → ℕ → Bool
awaited_on s d = both (ltb (rest_on s d) (2 ^ d)) (ltb s.at (s.until + rest_on s d * s.width))

-- the cells of the channel's last segment lie behind so many
unfoldable pub behind_on : Walk → ℕ → ℕ
behind_on s d = (2 * 2 ^ d - 2) * s.width

-- how many ticks of that slot are owed, its first ones: while the box takes the channel, and as far as there is film
unfoldable pub ticks_on : Walk → ℕ → ℕ
ticks_on s d = pick (awaited_on s d) (min s.width (min (s.until + rest_on s d * s.width - s.at) (s.film - behind_on s d))) 0

-- over the first n channels from 1 on
unfoldable pub ticks_to : Walk → ℕ → ℕ
ticks_to s n = total (λ i. ticks_on s (suc i)) n

-- of the counts from k up to, not including, n that ever ruled: the largest of their ends, each moved by so many ticks; 0 where there is none
pub record IsMost (ends : List ℕ) (by : ℕ → ℕ) (k n m : ℕ) : Type 0 where
  pub bound : (c : ℕ) → k ≤ c → c < n → 0 < get_or ends c 0 → get_or ends c 0 + by c ≤ m
  pub hit : 0 < m → (c : ℕ) × (k ≤ c) × (c < n) × (0 < get_or ends c 0) × (m ≡ get_or ends c 0 + by c)

-- of the counts above lane l up to, not including, n: a slot of the lane that begins with the latest box of theirs ends at `until`, and no
-- count ended later than at `end`
pub record IsLatest (ends : List ℕ) (K l n until end : ℕ) : Type 0 where
  pub most : IsMost ends (λ c. slot K (suc l) - slot K c) (suc l) n until
  pub ended : (c : ℕ) → l < c → c < n → get_or ends c 0 ≤ end

-- lane l, dropped at tick T, is one from the floor up, T is one of its slot starts, and the counts above had ended by then
unfoldable pub is_reached : Film → ℕ → ℕ → ℕ → Bool
is_reached f l T end =
    both (not (eqb f.kind steady_kind))
    (both (leb f.floor l) (both (leb end T) (eqb (T % slot f.cap (suc l)) 0)))

-- the walk of lane l of a film, dropped at tick T: where no box began, nothing is owed
unfoldable pub walk_of : Film → ℕ → ℕ → ℕ → Walk
walk_of f l T until =
    record {
      lane = l;
      at = T;
      width = slot f.cap (suc l);
      turn = lifted f.floor (suc l) (T / slot f.cap (suc l));
      until = until;
      film = pick (eqb until 0) 0 (rounded_up f.length (tick_by f));
    }

-- how far from the drop the owed tick lies that has n before it: in the stretch of a channel, or past all of them
abbrev pub NthIn : Walk → ℕ → ℕ → Type 0
NthIn s n r =
    ((d : ℕ) × (suc d ≤ s.lane) × (ticks_to s d ≤ n) × (n < ticks_to s (suc d)) × (r ≡ from_on s (suc d) + (n - ticks_to s d)))
    ⊎ ((ticks_to s s.lane ≤ n) × (r ≡ 2 ^ s.lane * s.width))
