-- `admissions::endless` meets its contract: the row up to the latest arrival there can be.
use mathlib.Core.Path.{sym, ◌∙◌}
use Rattle.admissions.proofs.Slots.{admitting_open, not_endless, never_ends}
use Rattle.admissions.proofs.endless.Goals as goal

pub stretch_of-requires : goal.stretch_of-requires
stretch_of-requires c =
    c.requires.playing (admitting_open _ (sym c.admitting.ensures ∙ c.if-admitting.true))

pub returns-then-admitting : goal.returns-then-admitting
returns-then-admitting c =
    let here = c.before.before in
    never_ends _ _ _ (sym here.admitting.ensures ∙ here.if-admitting.true) _ c.stretch_of.ensures.0 _ c.admit_all.ensures

pub returns : goal.returns
returns c = not_endless _ _ _ (sym c.admitting.ensures ∙ c.if-admitting.false)
