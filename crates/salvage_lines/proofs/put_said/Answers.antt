-- `salvage_lines::put_said` meets its contract: a notice that is taken at the end of a stretch has lines.
use mathlib.Core.Path.{sym, ◌∙◌}
use Rattle.text.proofs.Pages.{then}
use Rattle.salvage_lines.proofs.Saying.{says_none, says_shut, says_seam}
use Rattle.salvage_lines.proofs.put_said.Goals.{else-p-next-via-then-p-next+else-is_open, else-p-next-via-else-p-next}
use Rattle.salvage_lines.proofs.put_said.Goals as goal

pub returns-then-is_open : goal.returns-then-is_open
returns-then-is_open c =
    says_seam _ _ _ c.if-p-next.true _ (sym c.is_open.ensures ∙ c.if-is_open.true)
    (then c.put_stretch.ensures c.put_gap.ensures)

pub returns-else-p-next : goal.returns-else-p-next
returns-else-p-next c =
    let x = c.args in
    elim c.else-p-next.branch [
      | else-p-next-via-then-p-next+else-is_open w ↦ says_shut _ x.p x.next w.if-p-next.true (sym w.is_open.ensures ∙ w.if-is_open.false)
      | else-p-next-via-else-p-next w ↦ says_none _ x.p x.next w.if-p-next.false
    ]
