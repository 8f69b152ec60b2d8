-- `console_notices::reading::put_own` meets its contract: each kind has its own numbers.
use Rattle.std.proofs.Common.{inl, inr}
use Rattle.text.proofs.Pages.{then, nothing}
use Rattle.console_answers.specs.Entries.{each}
use Rattle.console_notices.proofs.reading.put_own.Goals as goal

pub returns-in-Open : goal.returns-in-Open
returns-in-Open c = rw c.in-Open.is c.put_numbers.ensures

pub returns-in-Change : goal.returns-in-Change
unfolding each
returns-in-Change c = rw c.in-Change.is c.put_entry.ensures

pub returns-in-Skip : goal.returns-in-Skip
unfolding each
returns-in-Skip c = rw c.in-Skip.is (then c.put_entry-in-Skip.ensures c.put_entry-in-Skip-2.ensures)

pub returns-in-Close : goal.returns-in-Close
unfolding each
returns-in-Close c =
    elim c.in-Close.is [ inl e ↦ rw e nothing | inr rest ↦ elim rest [ inl e ↦ rw e nothing | inr e ↦ rw e nothing ] ]
