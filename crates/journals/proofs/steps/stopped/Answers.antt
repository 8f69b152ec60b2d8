-- `steps::stopped` meets its contract, by whether the bytes are torn, and by their kind alone.
use mathlib.Core.Path.{refl, sym, ◌∙◌}
use borrow.Author.Tests.{lt-ltb, le-ltb}
use Rattle.journals.proofs.StepCases.{kind_was, is_torn_lem, no_notice}
use Rattle.journals.proofs.steps.stopped.Goals.{else-start-via-then-start+else-had_kind, else-start-via-else-start}
use Rattle.journals.proofs.steps.stopped.Goals as goal

pub returns-then-had_kind : goal.returns-then-had_kind
returns-then-had_kind c =
    kind_was _ _ _ _ (sym c.is_torn.ensures ∙ c.if-is_torn.true)
    (rw (lt-ltb _ _ c.if-start.true) (sym c.had_kind.ensures ∙ c.if-had_kind.true)) c.ended.ensures

pub returns-then-is_torn : goal.returns-then-is_torn
returns-then-is_torn c =
    is_torn_lem _ _ _ _ (sym c.is_torn.ensures ∙ c.if-is_torn.true)
    (elim c.else-start.branch [
      | else-start-via-then-start+else-had_kind w ↦ rw (lt-ltb _ _ w.if-start.true) (sym w.had_kind.ensures ∙ w.if-had_kind.false)
      | else-start-via-else-start w ↦ rw (le-ltb _ _ w.if-start.false) refl
    ])
    c.ended-then-is_torn.ensures

pub returns : goal.returns
returns c = no_notice _ _ _ _ (sym c.is_torn.ensures ∙ c.if-is_torn.false) c.ended-2.ensures
