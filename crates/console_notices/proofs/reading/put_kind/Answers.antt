-- `console_notices::reading::put_kind` meets its contract: word, id, time and the kind's own numbers, one behind the other.
use mathlib.Core.Path.{sym}
use Rattle.text.proofs.Pages.{then, told_as}
use Rattle.text.specs.Texts.{text}
use Rattle.console_notices.proofs.Parts.{kind_parts}
use Rattle.console_notices.proofs.reading.put_kind.Goals as goal

pub returns : goal.returns
unfolding text
returns c =
    let a = c.args in
    told_as (sym (kind_parts a.id a.time a.kind))
    (then (then (then c.put_word.ensures c.put_entry.ensures) c.put_entry-2.ensures) c.put_own.ensures)
