-- CRC-32C (Castagnoli's polynomial, as iSCSI publishes it, RFC 3720, 12.1 and appendix B.4): bits go through lowest first, from a register
-- of ones, and the register's complement is the sum.
use Rattle.std.specs.Prelude.{ℕ, zero, suc, ◌/◌, ◌%◌, List, eqb, get_or, length}
use Rattle.std.specs.Int.Bits.{bit_xor}
use Rattle.rules.specs.Refusals.{pick}

-- the polynomial with its bits reversed, 0x82F63B78, and a register of ones, 0xFFFFFFFF
abbrev pub polynomial : ℕ
polynomial = 2197175160

abbrev pub ones : ℕ
ones = 4294967295

-- one bit goes out; where it is set the polynomial goes in
abbrev pub shifted : ℕ → ℕ
shifted r = pick (eqb (r % 2) 1) (bit_xor (r / 2) polynomial) (r / 2)

-- so many bits
unfoldable pub shifted_by : ℕ → ℕ → ℕ
shifted_by zero r = r
shifted_by (suc n) r = shifted (shifted_by n r)

-- a byte goes in at the low end
abbrev pub with_byte : ℕ → ℕ → ℕ
with_byte r b = shifted_by 8 (bit_xor r b)

-- the register after the first n bytes
unfoldable pub register : List ℕ → ℕ → ℕ
register bs zero = ones
register bs (suc n) = with_byte (register bs n) (get_or bs n 0)

unfoldable pub sum_of : List ℕ → ℕ
sum_of bs = bit_xor (register bs (length bs)) ones

-- a sum fits four bytes, which is how it is stored
abbrev pub sum_size : ℕ
sum_size = 4
