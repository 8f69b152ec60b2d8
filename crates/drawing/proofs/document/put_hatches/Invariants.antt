-- What the loop keeps: the hatchings of the ids passed are written.
use Rattle.text.specs.Pages.{Puts}
use Rattle.drawing.specs.Document.{hatches_text}
use Rattle.drawing.proofs.document.put_hatches.Given as goal

abbrev pub invariant-loop-id : goal.invariant-loop-id
invariant-loop-id l = Puts l.initial.page (hatches_text l.id) l.page
