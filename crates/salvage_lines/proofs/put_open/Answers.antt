-- `salvage_lines::put_open` meets its contract, by whether a stretch ends at the place.
use mathlib.Core.Path.{sym, ◌∙◌}
use Rattle.salvage_lines.proofs.Saying.{open_none, open_some}
use Rattle.salvage_lines.proofs.put_open.Goals as goal

pub returns-then-is_open : goal.returns-then-is_open
returns-then-is_open c = open_some _ c.args.p _ (sym c.is_open.ensures ∙ c.if-is_open.true) c.put_stretch.ensures

pub returns-else-is_open : goal.returns-else-is_open
returns-else-is_open c = open_none _ c.args.p (sym c.is_open.ensures ∙ c.if-is_open.false)
