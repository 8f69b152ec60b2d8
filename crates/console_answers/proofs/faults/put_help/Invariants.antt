-- What the loop keeps: with the commands that are left behind it, the page is the whole list.
use mathlib.Core.Path.{◌≡◌}
use lib.ListN.{drop}
use Rattle.text.specs.Output.{page, puts}
use Rattle.console_answers.specs.Faults.{usage_lines}
use Rattle.console_answers.proofs.faults.put_help.Given as goal

abbrev pub invariant-loop-command : goal.invariant-loop-command
invariant-loop-command l =
    (l.page.row.ghost_name ≡ l.initial.page.row.ghost_name)
    × (puts (page l.page.row.now l.page.at) (usage_lines (drop l.command-index l.command-items))
    ≡ puts (page l.initial.page.row.now l.initial.page.at) (usage_lines l.command-items))
