-- Lanes held and active: each lane below the ruling count is held, and one from there on is held where it still sends.
-- Rests on the laws of tests.
use Prim.Native.Nat.{ℕ, zero, suc, ◌+◌, ◌≤◌}
use mathlib.Core.Path.{◌≡◌, refl}
use mathlib.Core.Bool.{Bool, true, false}
use native.Mathlib.Omega.{arith}
use lib.Dec.{ltb}
use lib.ListN.{get_or}
use borrow.Author.Tests.{lt-ltb, le-ltb}
use mir.Val.{bool_byte}
use Rattle.rules.specs.Refusals.{pick}
use Rattle.rules.specs.Search.{how_many}
use Rattle.story.specs.declared.Title.{Title}
use Rattle.story.specs.Kept.{ruling, kept_held}

pub active_held : (t : Title) (tick m : ℕ) → m ≤ ruling t → how_many (λ l. kept_held t l tick) m ≡ m
unfolding how_many kept_held
active_held t tick zero l = refl
active_held t tick (suc m) l = rw (lt-ltb m (ruling t) (omega arith), active_held t tick m (omega arith)) (omega arith)

pub above_held : (t : Title) (lane tick : ℕ) → ruling t ≤ lane
    → kept_held t lane tick ≡ ltb tick (get_or t.dropped lane 0 + get_or t.owed lane 0)
unfolding kept_held
above_held t lane tick l = rw (le-ltb lane (ruling t) l) refl

-- a test as a number
pub byte_pick : (b : Bool) → bool_byte b ≡ pick b 1 0
byte_pick false = refl
byte_pick true = refl

pub byte_le : (b : Bool) → bool_byte b ≤ 1
byte_le false = omega arith
byte_le true = omega arith
