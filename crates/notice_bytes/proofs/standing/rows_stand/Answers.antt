-- `standing::rows_stand` meets its contract: the rows passed stand, and the next one starts after them.
-- Rests on the table's bounds.
use mathlib.Core.Path.{◌≡◌, refl, sym, ◌∙◌}
use native.Mathlib.Numerals.{add-one}
use native.Mathlib.Omega.{arith}
use Rattle.notice_fields.specs.Fields.{start_of}
use Rattle.notice_bytes.specs.Standing.{stands_to}
use Rattle.notice_fields.proofs.Table.{row_inside}
use Rattle.notice_bytes.proofs.Whole.{row_more, no_row}
use Rattle.notice_bytes.proofs.standing.rows_stand.Goals as goal

pub loop-i-init : goal.loop-i-init
unfolding start_of stands_to
loop-i-init c = (omega arith, refl)

pub row_stands-requires : goal.row_stands-requires
row_stands-requires c =
    let inside = row_inside c.args.kind c.loop-i.i (omega arith) in
    (omega arith, omega (arith, c.loop-i.invariant.0, c.requires))

pub overflow_add-at : goal.overflow_add-at
overflow_add-at c =
    let at = c in
    let start = at in
    let inside = row_inside start.args.kind at.loop-i.i (omega arith) in
    omega (arith, at.loop-i.invariant.0, c.span-at.ensures, start.requires)

pub loop-i-preserved : goal.loop-i-preserved
unfolding start_of
loop-i-preserved c =
    let stands = c in
    let l = stands.loop-i.invariant in (
      rw add-one (omega (arith, l.0, c.span-at.ensures)),
      row_more _ _ _ _ _ l.1 l.0 (sym stands.row_stands.ensures ∙ stands.if-not-row_stands.false),
    )

pub returns-then-not-row_stands : goal.returns-then-not-row_stands
returns-then-not-row_stands c =
    let turn = c in
    let l = turn.loop-i.invariant in
    no_row _ _ _ _ _ l.1 l.0 turn.loop-i-test.true (sym c.row_stands.ensures ∙ c.if-not-row_stands.true)

pub returns : goal.returns
returns c = let e : c.loop-i.i ≡ 8 = omega arith in cc
