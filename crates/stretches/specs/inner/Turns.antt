-- The stretches that a lane of a skip-forward title owes: of the turn that runs at the drop, and of the next.
use Rattle.std.specs.Prelude.{ℕ, ◌+◌, ◌-◌, ◌%◌, min, ◌≡◌, eqb}
use Rattle.rules.specs.Refusals.{pick}
use Rattle.grid.specs.Ticks.{rounded_up}
use Rattle.scheme.specs.Scheme.{period, steady_cell}
use Rattle.story.specs.declared.Film.{Film}
use Rattle.story.specs.Life.{tick_by}
use Rattle.stretches.specs.declared.turns.Turns.{Turns}

-- where the latest boxes, whose count ended so, have taken the lane
unfoldable pub turn_till : ℕ → ℕ → ℕ
turn_till l end = pick (eqb end 0) 0 (end + (period l - 1))

-- what is left of the turn at a tick
abbrev pub turn_left : ℕ → ℕ → ℕ
turn_left l u = period l - u % period l

-- how many ticks are owed from a tick on, were its turn long enough: while boxes take them, and as far as there is film
unfoldable pub turn_due : Film → ℕ → ℕ → ℕ → ℕ
turn_due f l end u = min (turn_till l end - u) (rounded_up f.length (tick_by f) - steady_cell l u)

-- the two turns after a drop at tick T
pub record TurnsAt (f : Film) (l end T : ℕ) (r : Turns) : Type 0 where
  pub left : r.left ≡ turn_left l T
  pub first : r.first ≡ min (turn_left l T) (turn_due f l end T)
  pub second : r.second ≡ turn_due f l end (T + turn_left l T)
