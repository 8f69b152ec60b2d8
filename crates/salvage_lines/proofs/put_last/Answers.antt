-- `salvage_lines::put_last` meets its contract: the stretch that ends there, and the total.
use Rattle.text.proofs.Pages.{then}
use Rattle.salvage_lines.specs.Lines.{end_text}
use Rattle.salvage_lines.proofs.put_last.Goals as goal

pub returns : goal.returns
unfolding end_text
returns c = then c.put_open.ensures c.put_total.ensures
