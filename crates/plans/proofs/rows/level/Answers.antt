-- `plans::rows::level` meets its contract: what is filled is what is written place by place. Rests on the law of that.
use mathlib.Core.Path.{◌≡◌}
use Prim.Native.Nat.{◌+◌, ◌-◌}
use native.Mathlib.Omega.{arith}
use lib.ListN.{replicate, length, take, drop}
use Rattle.std.proofs.lemmas.List.{length-take-le, length-drop, drop-drop}
use Rattle.plans.proofs.rows.Written.{filled_is}
use Rattle.plans.proofs.rows.level.Goals as goal

pub returns : goal.returns
returns c =
    let a = c.args in
    let e : a.from + a.many - a.from ≡ a.many = omega arith in
    let k : length (take a.many (drop a.from a.row.now)) ≡ a.many = length-take-le a.many _ (omega (arith, c.requires, length-drop a.from a.row.now)) in
    let f : c.fill.new.self ≡ replicate a.many a.value = rw (e, k) at (c.fill.ensures.after (λ y h. h)) in
    rw (e, f, drop-drop a.many a.from a.row.now) (filled_is a.value a.row.now a.from a.many c.requires)
