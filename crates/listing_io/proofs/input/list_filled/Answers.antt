-- `listing_io::input::list_filled` meets its contract: what is not decided of what was read is kept.
use mathlib.Core.Path.{sym, ◌∙◌}
use lib.Seq.{length-take-le}
use Rattle.notice.proofs.CaseSplits.{false_true}
use Rattle.listing_io.proofs.StepPlaces.{kept_few}
use Rattle.listing_io.proofs.input.list_filled.Goals as goal

pub slice_bounds-drain-end-2 : goal.slice_bounds-drain-end-2
slice_bounds-drain-end-2 c = sym (length-take-le _ _ c.requires)

pub returns-then-printed : goal.returns-then-printed
returns-then-printed c =
    kept_few _ _ _ _ _ _ _ c.drain-printed.ensures c.if-printed.true (sym (length-take-le _ _ c.requires)) c.compact.ensures.many

pub returns : goal.returns
returns c = λ q. false_true (sym c.ended.ensures ∙ q)
