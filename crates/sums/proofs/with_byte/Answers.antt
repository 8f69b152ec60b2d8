-- `with_byte` meets its contract: after each turn the register is shifted by as many bits.
use mathlib.Core.Path.{refl, ap, ◌∙◌}
use native.Mathlib.Omega.{arith}
use native.Mathlib.Numerals.{add-one}
use lib.Bits.{bit_xor}
use Rattle.sums.specs.Crc.{shifted, shifted_by}
use Rattle.sums.proofs.with_byte.Goals as goal

pub loop-init : goal.loop-init
unfolding shifted_by
loop-init c = refl

pub loop-preserved : goal.loop-preserved
unfolding shifted_by
loop-preserved c =
    let l = c.loop in
    rw add-one (c.shift-x.ensures ∙ ap shifted l.invariant)

pub returns : goal.returns
returns c =
    let l = c.loop in
    let a = c.args in
    l.invariant ∙ ap (λ n. shifted_by n (bit_xor a.r a.b)) (omega arith)
