-- A change that is entered as it is printed (docs/CONSOLE.md, "Commands": balance).
use Rattle.std.specs.Prelude.{◌≤◌, ◌≡◌}
use Rattle.text.specs.Numbers.{top}
use Rattle.planner.specs.Moves.{Move, as_event}
use Rattle.console_commands.specs.Commands.{no_fault, do_change}
use Rattle.console_lines.specs.Lines.{meaning}
use Rattle.console_acts.specs.Events.{event_in}
use Rattle.console_balance.specs.Balance.{change_text}

-- a change whose numbers the reader hands on as they are, which those of an accepted event are
pub record Spelt (m : Move) : Type 0 where
  pub title : m.title ≤ top
  pub time : m.time ≤ top
  pub count : m.count ≤ top

-- its line is a whole line, a change, and spells that event
pub record Enters (m : Move) : Type 0 where
  pub whole : (meaning (change_text m)).fault ≡ no_fault
  pub word : (meaning (change_text m)).command ≡ do_change
  pub event : event_in (meaning (change_text m)) ≡ as_event m
