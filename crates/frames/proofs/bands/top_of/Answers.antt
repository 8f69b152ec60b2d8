-- `frames::bands::top_of` meets its contract: the bands passed are summed up.
use mathlib.Core.Path.{ap, ◌∙◌}
use native.Mathlib.Nat.{le_antisymm}
use native.Mathlib.Omega.{arith}
use Rattle.frames.specs.Bands.{top_of}
use Rattle.frames.proofs.Tops.{top_none, top_next}
use Rattle.frames.proofs.bands.top_of.Goals as goal

pub loop-id-init : goal.loop-id-init
loop-id-init c = (top_none _, omega arith)

pub loop-id-preserved : goal.loop-id-preserved
loop-id-preserved c =
    let at-loop-test = c in
    let at-loop = at-loop-test in (
      top_next _ _ _ _ at-loop.loop-id.invariant.0 c.band_height-top.ensures.is,
      omega (arith, at-loop.loop-id.invariant.1, c.band_height-top.ensures.high),
    )

pub returns : goal.returns
returns c =
    let at-loop = c in
    let at_start = at-loop in
    let all = le_antisymm (omega arith) c.loop-id-test.false in
    (at-loop.loop-id.invariant.0 ∙ ap (top_of at_start.args.v) all, omega (arith, at-loop.loop-id.invariant.1, at-loop.loop-id.invariant.0, at_start.requires))
