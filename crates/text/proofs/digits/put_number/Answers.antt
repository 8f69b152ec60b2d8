-- `text::digits::put_number` meets its contract: the part of the row that is written is its digits.
use Prim.Native.Nat.{◌-◌, ◌≤◌}
use mathlib.Core.Path.{◌∙◌, ap}
use native.Mathlib.Omega.{arith}
use lib.ListN.{length, drop, length-drop}
use lib.Seq.{take_all}
use Rattle.text.specs.Output.{page, puts}
use Rattle.text.specs.Digits.{digits_most}
use Rattle.text.proofs.digits.put_number.Goals as goal

pub slice_bounds-put-end : goal.slice_bounds-put-end
slice_bounds-put-end c = rw c.decimal-d.ensures.size (omega arith)

pub returns : goal.returns
returns c =
    let at-put = c in
    let at-decimal = at-put in
    let at_start = at-decimal in
    let x = at_start.args in
    let d = at-decimal.decimal-d.result in
    let e = at-decimal.decimal-d.ensures in
    let most : length (drop d.from d.row) ≤ digits_most - d.from = rw (length-drop, e.size) (omega arith) in
    at-put.put.ensures ∙ ap (puts (page x.out.now x.at))
    (take_all (digits_most - d.from) (drop d.from d.row) most ∙ e.text)
