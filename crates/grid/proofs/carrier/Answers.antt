-- `grid::carrier` meets its contract: the language finds the highest one-bit.
use native.Mathlib.Omega.{arith}
use native.Mathlib.Nat.{div-le_self}
use Prim.Native.Nat.{◌^◌, ◌≤◌}
use lib.Pow.{pow_mono}
use Rattle.rules.specs.Limits.{count_max}
use Rattle.grid.proofs.carrier.Goals as goal

pub overflow_add-cell : goal.overflow_add-cell
overflow_add-cell c =
    let room : 2 ^ c.args.cap ≤ 2 ^ count_max = pow_mono c.requires.count_cap.high in
    record { fits = omega (arith, div-le_self c.args.cell c.slot.result, c.requires.cell_bound) }

pub returns : goal.returns
returns c =
    let p = c.ilog2.ensures in
    record {
      low = rw (c.from.ensures, ← c.slot.ensures.is) p.power_le;
      high = rw (c.from.ensures, ← c.slot.ensures.is) (omega (arith, p.next_power_gt));
    }
