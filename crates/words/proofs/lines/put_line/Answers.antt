-- `words::lines::put_line` meets its contract: from where the line begins to where it ends.
use Prim.Native.Nat.{◌≤◌}
use mathlib.Core.Path.{◌∙◌}
use native.Mathlib.Omega.{arith}
use lib.ListN.{length}
use Rattle.text.specs.declared.bytes.Sort.TheVariants.{Line}
use Rattle.text.proofs.Runs.{run_end_low, run_end_high}
use Rattle.text.proofs.Pages.{told_as}
use Rattle.text.specs.Texts.{text}
use Rattle.words.proofs.Listed.{line_part}
use Rattle.words.proofs.lines.put_line.Tie as tie
use Rattle.words.proofs.lines.put_line.Lts as lts
use Rattle.words.proofs.lines.put_line.Reads as reads
use Rattle.words.proofs.lines.put_line.Goals as goal

-- the line's ends are in order, and in the text
ends : (c : lts.After-run_end tie.the-claims reads.Pre reads.Post) →
    (c.line_start-from.result ≤ c.run_end-end.result) × (c.run_end-end.result ≤ length c.args.text.now)
ends c =
    let e = c.run_end-end.ensures in
    let s = c.args.text.now in
    let from = c.line_start-from.result in
    (omega (arith, e, run_end_low Line s from), omega (arith, e, run_end_high Line s from c.line_start-from.ensures.1))

pub slice_bounds-put-count : goal.slice_bounds-put-count
slice_bounds-put-count c = (ends c.before.before).0

pub slice_bounds-put-start : goal.slice_bounds-put-start
slice_bounds-put-start c = (ends c.before.before).0

pub slice_bounds-put-end : goal.slice_bounds-put-end
slice_bounds-put-end c = (ends c.before.before).1

pub returns : goal.returns
unfolding text
returns c = told_as (line_part _ _ _ c.run_end-end.ensures ∙ c.line_start-from.ensures.0) c.put.ensures
