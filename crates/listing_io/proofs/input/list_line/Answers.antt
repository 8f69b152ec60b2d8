-- `listing_io::input::list_line` meets its contract: its row has room for any line.
use native.Mathlib.Omega.{arith}
use Rattle.listing_io.proofs.LinesFit.{shown}
use Rattle.listing_io.proofs.input.list_line.Goals as goal

pub returns : goal.returns
returns c = shown _ _ _ _ _ _ (omega arith) c.list_at-listed.ensures
