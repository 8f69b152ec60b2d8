-- What the loop keeps: reading on for as many words as are left gives what the whole line means.
use Prim.Native.Nat.{◌-◌}
use mathlib.Core.Path.{◌≡◌}
use Rattle.console_lines.specs.Lines.{read_on, numbers_most, meaning}
use Rattle.console_lines.proofs.lines.parse.Given as goal

abbrev pub invariant-loop : goal.invariant-loop
invariant-loop l = read_on (numbers_most - l.counter) l.s l.line ≡ meaning l.s
