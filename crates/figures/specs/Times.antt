-- Times of a film of 120 minutes (source 000, section II and III-A), rounded as the papers round them.
use Rattle.std.specs.Prelude.{ℕ, ◌+◌, ◌-◌, ◌/◌, ltb}
use Rattle.rules.specs.Refusals.{pick}
use Rattle.grid.specs.Ticks.{tick_of}

-- 120 minutes in ms
abbrev pub two_hours : ℕ
two_hours = 7_200_000

-- how many units of so many ms a time is, to the nearest, halves up
abbrev pub round_to : ℕ → ℕ → ℕ
round_to unit ms = (ms + unit / 2) / unit

-- source 000, III-A: half of the slot's increase by padding, in hundredths of a minute. Without padding a film has 2^k - 1
-- segments, as with floor k and cap k
unfoldable pub increase_of : ℕ → ℕ → ℕ
increase_of floor count =
    pick (ltb (tick_of two_hours floor count) (tick_of two_hours count count)) 0
    (round_to 1200 (tick_of two_hours floor count - tick_of two_hours count count))
