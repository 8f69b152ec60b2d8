-- `console_answers::faults::put_help` meets its contract: the commands passed are listed, in the order of the definition.
use mathlib.Core.Path.{◌∙◌}
use native.Mathlib.Omega.{arith}
use lib.ListN.{drop}
use Rattle.console_answers.specs.Faults.{help_order, help_text}
use Rattle.console_answers.proofs.Usages.{listing_on, listed_all}
use Rattle.console_answers.proofs.faults.put_help.Goals as goal

pub loop-command-preserved : goal.loop-command-preserved
unfolding help_order
loop-command-preserved c =
    let line = c.put_usage-in-loop-command.ensures in (
      line.same_row ∙ c.put.ensures.same_row ∙ c.loop-command.invariant.0,
      listing_on (drop 1 help_order) _ c.loop-command.command-index _ c.loop-command.invariant.1 _ _ (omega arith) c.put.ensures.written line.written,
    )

pub returns : goal.returns
unfolding help_text help_order
returns c =
    record {
      same_row = c.loop-command.invariant.0 ∙ c.put_usage.ensures.same_row;
      written =
          listed_all (drop 1 help_order) _ c.loop-command.command-index _ c.loop-command.invariant.1 _ _ (omega arith) c.put_usage.ensures.written;
    }
