-- `console_answers::faults::put_fault` meets its contract: its parts are written one behind the other.
use Rattle.text.specs.Texts.{text}
use Rattle.console_answers.specs.Faults.{fault_text}
use Rattle.text.proofs.Pages.{then}
use Rattle.console_answers.proofs.faults.put_fault.Goals as goal

pub returns : goal.returns
unfolding fault_text text
returns c =
    rw (← c.from_one.ensures)
    (then (then (then (then (then c.put.ensures c.fault_words.ensures) c.put-2.ensures) c.put_number.ensures) c.put-3.ensures) c.put_usage.ensures)
