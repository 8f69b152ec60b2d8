-- `waits::arrivals::take_text` meets its contract: byte by byte, and the last word's end.
use mathlib.Core.Path.{refl, ap, ◌∙◌}
use Prim.Native.Nat.{suc, ◌+◌}
use native.Mathlib.Nat.{le_antisymm}
use native.Mathlib.Numerals.{add-one}
use native.Mathlib.Omega.{arith}
use lib.ListN.{length, get_or}
use Rattle.waits.specs.Arrivals.{ArrivalsSoFar, arrivals_so_far, taking_arrival, arrivals_to, ending_arrival}
use Rattle.waits.proofs.Taking.{ending_length, taking_length}
use Rattle.waits.proofs.arrivals.take_text.Goals as goal

pub loop-i-init : goal.loop-i-init
unfolding arrivals_to
loop-i-init c = (refl, refl)

pub loop-i-preserved : goal.loop-i-preserved
unfolding arrivals_to
loop-i-preserved c =
    let at-loop = c in
    let x = at-loop.args in
    let l = at-loop.loop-i in
    let e = c.take_byte-scan.ensures in
    let b = get_or x.text.now l.i 0 in (
      e ∙ rw add-one (ap (λ s. taking_arrival s (suc l.i) b) l.invariant.0),
      ap (λ (s : ArrivalsSoFar). length s.row) e ∙ taking_length (arrivals_so_far l.row l.scan) (l.i + 1) b ∙ l.invariant.1,
    )

pub shape_of-row : goal.shape_of-row
shape_of-row c =
    let at-loop = c in
    let l = at-loop.loop-i in
    ap (λ (s : ArrivalsSoFar). length s.row) c.end_number.ensures
    ∙ ending_length (arrivals_so_far l.row l.scan)
    ∙ l.invariant.1

pub returns : goal.returns
returns c =
    let at-loop-test = c in
    let at-loop = at-loop-test in
    let l = at-loop.loop-i in
    let all = le_antisymm (omega arith) at-loop-test.loop-i-test.false in
    let x = at-loop.args in
    c.end_number.ensures ∙ ap ending_arrival (l.invariant.0 ∙ ap (arrivals_to x.text.now x.row.now) all)
