-- `console_lines::lines::parse` meets its contract: reading on from each word passed gives what the whole line means.
use Prim.Native.Nat.{◌+◌, ◌-◌}
use mathlib.Core.Path.{◌∙◌, ap}
use native.Mathlib.Omega.{arith}
use Rattle.console_lines.specs.Lines.{read_on, numbers_most, meaning}
use Rattle.console_lines.proofs.Reading.{read_on_lem, read_stop, read_none}
use Rattle.console_lines.proofs.lines.parse.Goals as goal

pub loop-init : goal.loop-init
unfolding meaning
loop-init c = ap (read_on numbers_most c.args.s.now) c.begin-line.ensures

pub loop-preserved : goal.loop-preserved
loop-preserved c =
    let s = c.args.s.now in
    let l = c.loop in
    ap (read_on (numbers_most - (l.counter + 1)) s) c.step-line.ensures
    ∙ read_on_lem s l.line (numbers_most - l.counter) _ (omega arith) c.if-line-ne-UNREAD.false
    ∙ l.invariant

pub returns-then-line-ne-UNREAD : goal.returns-then-line-ne-UNREAD
returns-then-line-ne-UNREAD c =
    read_stop c.args.s.now c.loop.line _ c.if-line-ne-UNREAD.true ∙ c.loop.invariant

pub returns : goal.returns
returns c = read_none c.args.s.now c.loop.line _ (omega arith) ∙ c.loop.invariant
