-- Small powers of two, as the machine shifts them. Rests on the laws of powers.
use mathlib.Core.Path.{◌≡◌, ◌∙◌}
use Prim.Native.Nat.{ℕ, ◌*◌, ◌%◌, ◌^◌, ◌≤◌, ◌<◌}
use native.Mathlib.Omega.{arith}
use native.Mathlib.Nat.{mod-eq_of_lt}
use lib.Pow.{pow_pos, pow_mono}
use Rattle.rules.specs.Limits.{count_max}
use Rattle.grid.specs.Bounds.{Exactly}

pub small_power : (n : ℕ) → n ≤ count_max → Exactly (2 ^ n) 1 (2 ^ count_max) (1 * 2 ^ n % 2 ^ 64)
small_power n l =
    let b : 2 ^ n ≤ 2 ^ count_max = pow_mono l in
    let p : 0 < 2 ^ n = pow_pos n in
    let e : 1 * 2 ^ n % 2 ^ 64 ≡ 2 ^ n = mod-eq_of_lt {n = 1 * 2 ^ n} {m = 2 ^ 64} (omega arith) ∙ omega arith in
    record { is = e; low = omega arith; high = omega arith }
