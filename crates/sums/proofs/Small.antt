-- A sum fits 32 bits. Rests on the widths of exclusive or.
use mathlib.Core.Bool.{Bool, true, false}
use mathlib.Core.List.{List}
use Prim.Native.Nat.{ℕ, zero, suc, ◌<◌, ◌^◌, ◌/◌, ◌%◌}
use native.Mathlib.Omega.{arith}
use lib.Bits.{bit_xor, xor_lt}
use lib.Dec.{eqb}
use lib.ListN.{length, get_or}
use Rattle.rules.specs.Refusals.{pick}
use Rattle.sums.specs.Crc.{polynomial, ones, shifted, shifted_by, register, sum_of}

pub shifted_small : (r : ℕ) → r < 2 ^ 32 → shifted r < 2 ^ 32
shifted_small r h = go (eqb (r % 2) 1)
  where
    go : (b : Bool) → pick b (bit_xor (r / 2) polynomial) (r / 2) < 2 ^ 32
    go true = xor_lt 32 (r / 2) polynomial (omega arith) (omega arith)
    go false = omega arith

pub by_small : (n r : ℕ) → r < 2 ^ 32 → shifted_by n r < 2 ^ 32
unfolding shifted_by
by_small zero r h = h
by_small (suc n) r h = shifted_small (shifted_by n r) (by_small n r h)

pub register_small : (bs : List ℕ) → ((j : ℕ) → get_or bs j 0 < 256) → (n : ℕ) → register bs n < 2 ^ 32
unfolding register
register_small bs bytes zero = omega arith
register_small bs bytes (suc n) =
    by_small 8 (bit_xor (register bs n) (get_or bs n 0))
    (xor_lt 32 (register bs n) (get_or bs n 0) (register_small bs bytes n) (omega (arith, bytes n)))

pub sum_small : (bs : List ℕ) → ((j : ℕ) → get_or bs j 0 < 256) → sum_of bs < 2 ^ 32
unfolding sum_of
sum_small bs bytes = xor_lt 32 (register bs (length bs)) ones (register_small bs bytes (length bs)) (omega arith)
