-- `lay` meets its contract: a part of the room that is copied into is stored into place by place.
use Prim.Native.Nat.{◌+◌, ◌-◌}
use mathlib.Core.Path.{◌≡◌, sym}
use native.Mathlib.Omega.{arith}
use lib.ListN.{length}
use Rattle.std.proofs.lemmas.List.{drop-drop, append_assoc}
use Rattle.std.proofs.lemmas.List.Edits.{sets-eq}
use Rattle.journal_records.proofs.records.lay.Goals as goal

pub returns : goal.returns
returns c =
    let a = c.args in
    let n = length a.bytes.now in
    let e : a.at + n - a.at ≡ n = omega arith in
    rw (e, c.copy_from_slice.ensures.after, drop-drop n a.at a.room.now) (sym (rw append_assoc at (sets-eq a.bytes.now a.room.now a.at c.requires)))
