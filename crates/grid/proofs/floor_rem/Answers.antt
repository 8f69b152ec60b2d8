-- `grid::floor_rem` meets its contract: below zero it takes the remainder of what is missing, elsewhere the plain one.
-- Rests on the laws of signed numbers.
use Rattle.grid.proofs.Signed.{below, above, flipped_fits, flipped_read, cast_of, rem_below, rem_above}
use mir.ValLaws.{to_z-of_z}
use mir.Syntax.{w64}
use mathlib.Core.Path.{◌∙◌}
use native.Mathlib.Nat.{mod-lt}
use Rattle.grid.proofs.floor_rem.Goals as goal

pub overflow_sub-n : goal.overflow_sub-n
overflow_sub-n c =
    let x = c.args.x in
    let b = below x c.ranges.x c.if-x-lt0.true in
    flipped_fits x b.0 c.ranges.x b.1

pub overflow_cast-n : goal.overflow_cast-n
overflow_cast-n c =
    let x = c.args.x in
    let b = below x c.ranges.x c.if-x-lt0.true in
    cast_of _ b.0 (flipped_read x b.0 c.ranges.x b.1) b.1.small

pub from_below-requires : goal.from_below-requires
from_below-requires c = mod-lt _ c.requires

pub overflow_cast-result : goal.overflow_cast-result
overflow_cast-result c =
    let x = c.args.x in
    let b = above x c.ranges.x c.if-x-lt0.false in
    cast_of _ b.0 (to_z-of_z w64 x c.ranges.x ∙ b.1.is) b.1.small

pub returns-then-x-lt0 : goal.returns-then-x-lt0
returns-then-x-lt0 c =
    let x = c.args.x in
    let b = below x c.ranges.x c.if-x-lt0.true in
    rw c.from_below.ensures
    (rem_below _ x b.0 c.args.m (flipped_read x b.0 c.ranges.x b.1) b.1.is c.requires)

pub returns-else-x-lt0 : goal.returns-else-x-lt0
returns-else-x-lt0 c =
    let x = c.args.x in
    let b = above x c.ranges.x c.if-x-lt0.false in
    rem_above _ x b.0 c.args.m (to_z-of_z w64 x c.ranges.x ∙ b.1.is) b.1.is c.requires
