-- `scanning::steps::advance` meets its contract, by the move at the place.
use mathlib.Core.Path.{sym, ◌∙◌}
use native.Mathlib.Omega.{arith}
use Rattle.scanning.proofs.Stepping.{take_ends, skip_room, advances_take, advances_skip, advances_stop}
use borrow.Author.Rules.{rules}
use Rattle.scanning.proofs.steps.advance.Goals as goal

pub overflow_add-base : goal.overflow_add-base
overflow_add-base c =
    let looked = c in
    let pre = looked.requires in
    let ends = take_ends _ _ _ pre.0 pre.1 _ _ (sym looked.look.ensures ∙ c.in-Take.is) in
    record { fits = omega (arith, ends.1, pre.1.fits) }

pub take-requires : goal.take-requires
take-requires c =
    let looked = c in
    let pre = looked.requires in
    (pre.0, (take_ends _ _ _ pre.0 pre.1 _ _ (sym looked.look.ensures ∙ c.in-Take.is)).0)

pub skip-requires : goal.skip-requires
skip-requires c =
    let looked = c in
    let pre = looked.requires in
    let room = skip_room _ _ _ pre.0 pre.1 (sym looked.look.ensures ∙ c.in-Skip.is) in
    (pre.0, omega (arith, room, pre.1.fits))

pub returns-in-Take : goal.returns-in-Take
returns-in-Take c =
    let told = c in
    let looked = told in
    let pre = looked.requires in
    advances_take _ _ _ pre.0 pre.1 _ _ (sym looked.look.ensures ∙ told.in-Take.is) _ c.take.ensures

pub returns-in-Skip : goal.returns-in-Skip
returns-in-Skip c =
    let told = c in
    let looked = told in
    let pre = looked.requires in
    advances_skip _ _ _ pre.0 pre.1 (sym looked.look.ensures ∙ told.in-Skip.is) _ c.skip.ensures

pub returns-in-Stop : goal.returns-in-Stop
returns-in-Stop c =
    let looked = c in
    let pre = looked.requires in
    advances_stop _ _ _ pre.0 pre.1 (sym looked.look.ensures ∙ c.in-Stop.is)
