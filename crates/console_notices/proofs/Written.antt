-- A notice's bytes stand in the room that is lent for them.
use Prim.Native.Nat.{ℕ, ◌≤◌}
use mathlib.Core.Path.{◌≡◌, refl}
use mathlib.Core.List.{List, ◌++◌}
use native.Mathlib.Omega.{arith}
use borrow.Author.Tests.{le-ltb}
use lib.ListN.{length, take, drop}
use lib.Seq.{take_at}
use Rattle.notice.specs.declared.Notice.{Notice}
use Rattle.notice.specs.Fields.{longest_notice}
use Rattle.notice.specs.Encode.{bytes_of, Writes}
use Rattle.notice.proofs.Worked.{none_longer}

module _ (n : Notice) (room room' : List ℕ) (a size : ℕ) (e : Writes n room a room') (big : length room ≡ longest_notice)
    (f : size ≡ length (bytes_of n)) where
  row : room' ≡ bytes_of n ++ drop (length (bytes_of n)) room
  row =
      let few : length (bytes_of n) ≤ length room = omega (arith, none_longer n) in
      rw (le-ltb _ _ few) at e.leaves

  -- its bytes stand first
  pub first : take size room' ≡ bytes_of n
  first = rw (row, f) (take_at (bytes_of n) (drop (length (bytes_of n)) room) (length (bytes_of n)) refl)

  pub counted : size ≡ length (take size room')
  counted = rw first f
