-- `admissions::ended` meets its contract: whether the stretch has an admission, and the row up to its last.
use mathlib.Core.Path.{sym, ◌∙◌}
use Rattle.admissions.proofs.Slots.{admitting_open, not_open, ends_without, ends_with}
use Rattle.admissions.proofs.ended.Goals as goal

pub stretch_of-s-requires : goal.stretch_of-s-requires
stretch_of-s-requires c =
    c.requires.playing (admitting_open _ (sym c.admitting.ensures ∙ c.if-admitting.true))

pub returns-then-past-start : goal.returns-then-past-start
returns-then-past-start c =
    let here = c.before.before.before in
    ends_without _ _ _ (sym here.admitting.ensures ∙ here.if-admitting.true) _ c.stretch_of-s.ensures.0 _ _ c.next-past.ensures.is c.if-past-start.true

pub returns-then-admitting : goal.returns-then-admitting
returns-then-admitting c =
    let here = c.before.before.before.before in
    ends_with _ _ _ (sym here.admitting.ensures ∙ here.if-admitting.true) _ c.stretch_of-s.ensures.0 _ _ _ c.next-past.ensures.is c.if-past-start.false
    c.admit_all-all.ensures

pub returns : goal.returns
returns c = not_open _ _ _ _ (sym c.admitting.ensures ∙ c.if-admitting.false)
