-- `title_at` meets its contract: the title that begins at the id's place is the id's.
use mathlib.Core.Path.{sym, ap, ◌∙◌}
use native.Mathlib.Omega.{arith}
use Rattle.agent_rows.specs.Packed.{title_from}
use Rattle.agent_rows.proofs.Inverse.{title_at_lem}
use Rattle.agent_rows.proofs.reading.title_at.Goals as goal

pub returns : goal.returns
returns c =
    let a = c.args in
    c.title_from.ensures
    ∙ ap (title_from a.row.now) c.title_place.ensures
    ∙ sym (title_at_lem a.row.now a.id (omega arith))
