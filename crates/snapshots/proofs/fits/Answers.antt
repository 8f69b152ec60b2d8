-- `fits` meets its contract: each way out has decided its test.
use native.Mathlib.Omega.{arith}
use mathlib.Core.Path.{sym, ◌∙◌}
use lib.Seq.{length-take-le}
use Rattle.snapshots.proofs.Answered.{wrong_size, wrong_sum, right_sum}
use Rattle.snapshots.proofs.fits.Goals as goal

pub returns-then-bytes-ne-BYTES : goal.returns-then-bytes-ne-BYTES
returns-then-bytes-ne-BYTES c = wrong_size _ c.if-bytes-ne-BYTES.true

pub slice_bounds-sum-end : goal.slice_bounds-sum-end
slice_bounds-sum-end c = sym (length-take-le 6048 c.args.bytes.now (omega (arith, c.if-bytes-ne-BYTES.false)))

pub returns-then-get-total : goal.returns-then-get-total
returns-then-get-total c =
    let got = c in
    let summed = got in
    rw c.get-then-get-total.ensures.0
    (right_sum _ summed.if-bytes-ne-BYTES.false (sym got.get.ensures.0 ∙ (c.if-get-total.true ∙ summed.sum-total.ensures)))

pub returns : goal.returns
returns c =
    let got = c in
    let summed = got in
    wrong_sum _ summed.if-bytes-ne-BYTES.false (λ e. c.if-get-total.false (got.get.ensures.0 ∙ (e ∙ sym summed.sum-total.ensures)))
