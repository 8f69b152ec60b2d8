-- `by_id` meets its contract: the ids passed have the counts of their places.
use mathlib.Core.Path.{refl, ap, ◌∙◌}
use native.Mathlib.Omega.{arith}
use native.Mathlib.Numerals.{add-one}
use native.Mathlib.Nat.{le_antisymm}
use Rattle.rules.specs.Search.{how_many}
use Rattle.rules.proofs.Search.{how_many_le}
use Rattle.sharers.specs.Sharers.{takes_part}
use Rattle.wishes.specs.Shares.{shares_to}
use borrow.Author.Rules.{rules}
use Rattle.wishes.proofs.shares.by_id.Goals as goal

pub loop-i-init : goal.loop-i-init
unfolding shares_to how_many
loop-i-init c = search rules

pub offset_bounds-counts-place : goal.offset_bounds-counts-place
offset_bounds-counts-place c = omega (arith, how_many_le (takes_part c.args.s) c.loop-i.i)

pub bounds-counts-place : goal.bounds-counts-place
bounds-counts-place c = omega (arith, how_many_le (takes_part c.args.s) c.loop-i.i)

pub place_behind-place-requires : goal.place_behind-place-requires
place_behind-place-requires c = omega (arith, how_many_le (takes_part c.args.s) c.loop-i.i)

pub loop-i-preserved : goal.loop-i-preserved
unfolding shares_to how_many
loop-i-preserved c =
    let at_wide = c in
    let at = at_wide in (
      rw (add-one, ← at.loop-i.invariant.0) c.place_behind-place.ensures,
      rw (add-one, ← at.loop-i.invariant.1, ← at.loop-i.invariant.0, at_wide.from.ensures) refl,
    )

pub returns : goal.returns
returns c =
    let all = le_antisymm c.loop-i.auto.i-end c.loop-i-test.false in
    c.loop-i.invariant.1 ∙ ap (shares_to _ _) all
