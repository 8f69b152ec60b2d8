-- `standing::value` meets its contract: the number of the row's width after its head.
-- Rests on the table's law that a row lies within its notice.
use mathlib.Core.Path.{◌∙◌}
use native.Mathlib.Omega.{arith}
use Rattle.notice_bytes.specs.Standing.{value_at}
use Rattle.notice_fields.proofs.Table.{sound, value_inside}
use Rattle.notice_bytes.proofs.standing.value.Goals as goal

pub overflow_add-place : goal.overflow_add-place
overflow_add-place c =
    let inside = value_inside _ _ c.requires.0 c.requires.1.1 in
    omega (arith, c.start.ensures, c.requires)

pub overflow_add-place-2 : goal.overflow_add-place-2
overflow_add-place-2 c =
    let inside = value_inside _ _ c.requires.0 c.requires.1.1 in
    omega (arith, c.start.ensures, c.requires)

pub get-requires : goal.get-requires
get-requires c =
    let inside = value_inside _ _ c.requires.0 c.requires.1.1 in
    rw c.entry-f.ensures (
      omega (arith, c.start.ensures, c.requires),
      (sound _ c.requires.0).small,
    )

pub returns : goal.returns
unfolding value_at
returns c = (
  c.get.ensures.0 ∙ rw (c.start.ensures, c.entry-f.ensures),
  rw c.entry-f.ensures at c.get.ensures.1,
)
