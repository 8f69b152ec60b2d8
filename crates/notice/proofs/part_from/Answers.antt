-- `notice::part_from` meets its contract: a part up to the end is all from its start on, and past the end there is nothing.
use borrow.Author.Rules.{rules}
use Prim.Native.Nat.{◌-◌}
use native.Mathlib.Omega.{arith}
use lib.ListN.{length, drop, length-drop, drop_of_length-le}
use lib.Seq.{take_all, take-nil}
use Rattle.notice.proofs.part_from.Goals as goal

pub returns-then-size-place : goal.returns-then-size-place
returns-then-size-place c =
    let a = c.args in
    let bs = a.bytes.now in
    let none = drop_of_length-le bs {i = length bs} (omega arith) in
    let past = drop_of_length-le bs {i = a.place} (omega arith) in
    rw (none, past) (take-nil (length bs - length bs))

pub returns : goal.returns
returns c =
    let a = c.args in
    let bs = a.bytes.now in
    take_all (length bs - a.place) (drop a.place bs) (rw (length-drop a.place bs) (omega arith))
