-- `listing_io::input::list_input` is safe and ends. The buffer keeps its length.
use mathlib.Core.Path.{◌≡◌}
use lib.ListN.{length}
use Rattle.listing_io.proofs.input.list_input.Given as goal

abbrev pub invariant-loop : goal.invariant-loop
invariant-loop l = 4096 ≡ length l.buffer
