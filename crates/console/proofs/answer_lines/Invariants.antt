-- Both rows keep their length.
use Rattle.std.proofs.Common.{◌≡◌, length}
use Rattle.console.proofs.answer_lines.Given as goal

abbrev pub invariant-loop : goal.invariant-loop
invariant-loop l = (length l.input ≡ 65536) × (length l.out ≡ 65536)
