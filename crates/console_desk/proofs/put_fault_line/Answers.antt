-- `console_desk::put_fault_line` meets its contract: the fault, and a newline behind it.
use Rattle.text.proofs.Pages.{then}
use Rattle.console_desk.proofs.put_fault_line.Goals as goal

pub returns : goal.returns
returns c = then c.put_fault.ensures c.put.ensures
