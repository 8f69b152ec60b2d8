-- `has_sum` meets its contract: the part from the place on, and the number behind it.
use Prim.Native.Nat.{ℕ, ◌+◌, ◌-◌}
use mathlib.Core.Path.{◌≡◌, ap, ap₂, ◌∙◌}
use mathlib.Core.List.{◌++◌}
use native.Mathlib.Omega.{arith}
use lib.Dec.{eqb}
use lib.ListN.{take, drop}
use Rattle.sums.specs.Crc.{sum_of}
use Rattle.journal_records.proofs.records.has_sum.Goals as goal

pub returns : goal.returns
returns c =
    let a = c.args in
    let e : a.at + a.size - a.at ≡ a.size = omega arith in
    ap₂ eqb c.get.ensures.0 (c.sum_joined-total.ensures ∙ ap (λ (n : ℕ). sum_of (a.identity.now ++ take n (drop a.at a.bytes.now))) e)
