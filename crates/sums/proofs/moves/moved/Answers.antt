-- `moved` meets its contract: after i rounds i bits are where k has come to.
use mathlib.Core.Path.{refl, ap, ap₂, ◌∙◌}
use native.Mathlib.Omega.{arith}
use native.Mathlib.Numerals.{add-one}
use lib.Bits.{bit_xor}
use Rattle.sums.specs.Crc.{shifted}
use Rattle.sums.specs.inner.Moves.{moved_to}
use Rattle.sums.proofs.moves.moved.Goals as goal

pub loop-i-init : goal.loop-i-init
unfolding moved_to
loop-i-init c = refl

pub loop-i-preserved : goal.loop-i-preserved
unfolding moved_to
loop-i-preserved c =
    let l = c.loop-i in
    rw add-one (ap₂ bit_xor (c.shift.ensures ∙ ap shifted l.invariant) c.chosen.ensures)

pub returns : goal.returns
returns c =
    let l = c.loop-i in
    let s = c.before.before in
    (l.invariant ∙ ap (moved_to s.args.x s.args.k) (omega arith), s.ranges.x.fits)
