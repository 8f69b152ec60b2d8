-- `sum_joined` meets its contract: the second row goes on with the register of the first.
-- Rests on the laws of registers of parts.
use mathlib.Core.Path.{ap}
use lib.Bits.{bit_xor}
use Rattle.sums.specs.Crc.{ones, sum_of}
use Rattle.sums.proofs.Parted.{joined_in}
use Rattle.sums.proofs.sum_joined.Goals as goal

pub returns : goal.returns
unfolding sum_of
returns c =
    let first = c.before in
    let a = first.args in
    ap (λ x. bit_xor x ones)
    (joined_in a.first.now a.second.now first.rest.result c.rest-2.result first.rest.ensures c.rest-2.ensures)
