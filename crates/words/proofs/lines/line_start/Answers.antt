-- `words::lines::line_start` meets its contract: from each place reached, the lines left to pass lead to the same line.
use Prim.Native.Nat.{◌+◌, ◌-◌}
use mathlib.Core.Path.{◌≡◌, ◌∙◌, ap}
use native.Mathlib.Omega.{arith}
use Rattle.words.specs.Lines.{line_numbered}
use Rattle.words.proofs.Listed.{nearer, at_hand}
use Rattle.words.proofs.lines.line_start.Goals as goal

pub loop-init : goal.loop-init
loop-init c =
    let all : c.args.k - 0 ≡ c.args.k = omega arith in
    (ap (line_numbered c.args.text.now) all, omega arith)

pub loop-preserved : goal.loop-preserved
loop-preserved c =
    let l = c.loop in
    let one : c.args.k - (l.counter + 1) ≡ c.args.k - l.counter - 1 = omega arith in (
      ap (line_numbered _) one ∙ nearer _ _ _ _ c.behind-from.ensures.0 (omega arith) l.invariant.0,
      c.behind-from.ensures.1,
    )

pub returns : goal.returns
returns c = (at_hand _ _ _ (omega arith) c.loop.invariant.0, c.loop.invariant.1)
