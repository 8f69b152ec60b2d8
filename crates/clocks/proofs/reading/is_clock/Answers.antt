-- `clocks::reading::is_clock` meets its contract: the run of digits parts hours and the rest.
use mathlib.Core.Path.{◌∙◌, ap}
use Prim.Native.Nat.{◌≤◌}
use mathlib.Core.Bool.{not}
use borrow.Author.Tests.{eq-eqb}
use native.Mathlib.Omega.{arith}
use lib.ListN.{length}
use Rattle.text.specs.declared.bytes.Sort.TheVariants.{Digit}
use Rattle.text.proofs.Runs.{run_end_high}
use Rattle.clocks.specs.Clocks.{is_tail}
use Rattle.clocks.proofs.Forms.{rest_of, no_hours, by_tail}
use Rattle.clocks.proofs.reading.is_clock.Tie as tie
use Rattle.clocks.proofs.reading.is_clock.Lts as lts
use Rattle.clocks.proofs.reading.is_clock.Reads as reads
use Rattle.clocks.proofs.reading.is_clock.Goals as goal

pub returns-else-n-ne0 : goal.returns-else-n-ne0
returns-else-n-ne0 c =
    ap not (eq-eqb _ _ c.if-n-ne0.false) ∙ no_hours _ _ c.run_end-n.ensures c.if-n-ne0.false

-- the hours end within the word
ends : (c : lts.After-run_end tie.the-claims reads.Pre reads.Post) → c.run_end-n.result ≤ length c.args.word.now
ends c = omega (arith, c.run_end-n.ensures, run_end_high Digit c.args.word.now 0 (omega arith))

pub returns-then-n-ne0 : goal.returns-then-n-ne0
returns-then-n-ne0 c =
    let at-run-end = c in
    let e = at-run-end.run_end-n.ensures in
    c.is_tail.ensures ∙ ap is_tail (rest_of _ _ e) ∙ by_tail _ _ e c.if-n-ne0.true

pub slice_bounds-is_tail-count : goal.slice_bounds-is_tail-count
slice_bounds-is_tail-count c = ends c.before.before

pub slice_bounds-is_tail-start : goal.slice_bounds-is_tail-start
slice_bounds-is_tail-start c = ends c.before.before
