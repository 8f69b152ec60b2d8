-- `words::put_refusal` meets its contract: its parts are written one behind the other.
use mathlib.Core.Path.{sym, ◌∙◌}
use mathlib.Core.List.{append-nil}
use Rattle.words.specs.Words.{refusal_text}
use Rattle.text.proofs.Pages.{then}
use Rattle.words.proofs.put_refusal.Goals as goal

pub returns-then-names_number : goal.returns-then-names_number
unfolding refusal_text
returns-then-names_number c = rw (sym c.names_number.ensures ∙ c.if-names_number.true) (then c.put_meaning.ensures (then c.put_naming.ensures c.put_number.ensures))

pub returns-else-names_number : goal.returns-else-names_number
unfolding refusal_text
returns-else-names_number c = rw (sym c.names_number.ensures ∙ c.if-names_number.false, append-nil) c.put_meaning.ensures
