-- `text::bytes::run_end` meets its contract: what is left of the run, from each place passed, ends where the whole run
-- ends.
use mathlib.Core.Path.{◌≡◌, sym, ◌∙◌}
use native.Mathlib.Omega.{arith}
use Rattle.text.proofs.Runs.{run_end_on, run_end_stop, run_end_end}
use Rattle.text.proofs.bytes.run_end.Goals as goal

pub loop-i-preserved : goal.loop-i-preserved
loop-i-preserved c =
    let a = c.args in
    let i = c.loop-i.i in (
      run_end_on a.sort a.s.now i (omega arith) (sym c.is_sort.ensures ∙ c.if-not-is_sort.false) ∙ c.loop-i.invariant.0,
      omega arith,
    )

pub returns-then-not-is_sort : goal.returns-then-not-is_sort
returns-then-not-is_sort c =
    let a = c.args in
    let i = c.loop-i.i in
    run_end_stop a.sort a.s.now i (omega arith) (sym c.is_sort.ensures ∙ c.if-not-is_sort.true)
    ∙ c.loop-i.invariant.0

pub returns : goal.returns
returns c =
    let a = c.args in
    let i = c.loop-i.i in
    let end : c.max.result ≡ i = omega (arith, c.max.ensures, c.loop-i.invariant.1) in
    end ∙ run_end_end a.sort a.s.now i (omega arith) ∙ c.loop-i.invariant.0
