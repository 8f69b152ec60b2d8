-- `behind` meets its contract: what is moved on differs from the second where their bits do.
use mathlib.Core.Path.{ap}
use lib.Bits.{bit_xor}
use Rattle.sums.proofs.behind.Goals as goal

pub returns : goal.returns
returns c = (ap (λ x. bit_xor x c.args.second) c.moved.ensures.0, c.moved.ensures.1)
