-- Laws of moving a part to the front.
use Prim.Native.Nat.{ℕ, ◌-◌, ◌<◌, ◌≤◌}
use mathlib.Core.Path.{◌≡◌, refl}
use mathlib.Core.Bool.{Bool, true, false}
use mathlib.Core.List.{List}
use native.Mathlib.Nat.{zero-add}
use native.Mathlib.Omega.{arith}
use borrow.Author.Tests.{lt-ltb, le-ltb}
use lib.Dec.{ltb}
use lib.ListN.{length}
use Rattle.std.specs.List.{copy_within}
use Rattle.rules.specs.Refusals.{pick}
use Rattle.text.specs.Feed.{Moved, moved, count}

-- the three ways out
module _ (l : List ℕ) (from to : ℕ) where
  pub moved_none : length l < to → Moved l from to l 0
  unfolding moved count
  moved_none h = record { many = rw (lt-ltb _ _ h); row = rw (lt-ltb _ _ h) }

  pub moved_empty : to ≤ length l → to ≤ from → Moved l from to l 0
  unfolding moved count
  moved_empty h g =
      let none : to - from ≡ 0 = omega arith in
      record { many = rw (le-ltb _ _ h, none); row = rw (le-ltb _ _ h, none) }

  pub moved_all : to ≤ length l → Moved l from to (copy_within l from to 0) (to - from)
  unfolding moved count
  moved_all h =
      let many : to - from ≡ count l from to = rw (le-ltb _ _ h) in
      let row : copy_within l from to 0 ≡ moved l from to = rw (zero-add (to - from), le-ltb _ _ h) refl in
      record { many = many; row = row }

-- no more bytes move than lie between the places
pub count_low : (l : List ℕ) (from to : ℕ) → count l from to ≤ to - from
unfolding count
count_low l from to = go (ltb (length l) to)
  where
    go : (b : Bool) → pick b 0 (to - from) ≤ to - from
    go true = omega arith
    go false = omega arith
