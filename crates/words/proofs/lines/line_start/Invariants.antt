-- What the loop keeps.
use Prim.Native.Nat.{◌-◌, ◌≤◌}
use mathlib.Core.Path.{◌≡◌}
use lib.ListN.{length, drop}
use Rattle.words.specs.Lines.{line_numbered}
use Rattle.words.proofs.lines.line_start.Given as goal

abbrev pub invariant-loop : goal.invariant-loop
invariant-loop l = (line_numbered (drop l.from l.text) (l.k - l.counter) ≡ line_numbered l.text l.k) × (l.from ≤ length l.text)
