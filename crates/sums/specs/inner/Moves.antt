-- A register that is moved on by many bits at once, and the registers of parts of a row.
use Rattle.std.specs.Prelude.{ℕ, zero, suc, ◌+◌, ◌/◌, ◌%◌, ◌^◌, List, eqb, get_or}
use Rattle.std.specs.Int.Bits.{bit_xor}
use Rattle.rules.specs.Refusals.{pick}
use Rattle.sums.specs.Crc.{shifted, with_byte}

-- the register with its highest bit alone, 0x80000000: where that comes to by a move says where every bit comes to
abbrev pub highest : ℕ
highest = 2147483648

-- x, lowest bit first, each bit where k has come to
unfoldable pub moved_to : ℕ → ℕ → ℕ → ℕ
moved_to x k zero = 0
moved_to x k (suc i) = bit_xor (shifted (moved_to x k i)) (pick (eqb (x / 2 ^ i % 2) 1) k 0)

-- the register after n bytes from place `from` on, if it was r
unfoldable pub register_from : List ℕ → ℕ → ℕ → ℕ → ℕ
register_from bs from r zero = r
register_from bs from r (suc n) = with_byte (register_from bs from r n) (get_or bs (from + n) 0)
