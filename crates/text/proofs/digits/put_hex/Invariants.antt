-- What the loop keeps, and what falls.
use mathlib.Core.Path.{◌≡◌}
use lib.ListN.{length, drop}
use Rattle.text.specs.Output.{page, puts}
use Rattle.text.specs.Digits.{hex_text}
use Rattle.text.proofs.digits.put_hex.Given as goal

abbrev pub invariant-loop-b : goal.invariant-loop-b
invariant-loop-b l = (puts (page l.out l.place) (hex_text (drop l.b-index l.bytes)) ≡ puts (page l.initial.out l.at) (hex_text l.bytes)) × (length l.out ≡ length l.initial.out)
