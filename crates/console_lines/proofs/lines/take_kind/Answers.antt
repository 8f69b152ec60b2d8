-- `console_lines::lines::take_kind` meets its contract: its tests are those of the definition.
use mathlib.Core.Path.{◌∙◌}
use Rattle.console_lines.proofs.Reading.{kind_low, kind_high, kind_told}
use Rattle.console_lines.proofs.lines.take_kind.Goals as goal
use Rattle.console_lines.proofs.lines.take_kind.Goals.{then-v-lt-OPEN-via-then-v-lt-OPEN, then-v-lt-OPEN-via-else-v-lt-OPEN+then-v-gt-SKIP}

pub returns-then-v-lt-OPEN : goal.returns-then-v-lt-OPEN
returns-then-v-lt-OPEN c =
    let x = c.args in
    c.faulted.ensures
    ∙ elim c.then-v-lt-OPEN.branch [
      | then-v-lt-OPEN-via-then-v-lt-OPEN w ↦ kind_low x.word.now x.line x.a x.e _ c.verb-v.ensures w.if-v-lt-OPEN.true
      | then-v-lt-OPEN-via-else-v-lt-OPEN+then-v-gt-SKIP w ↦
          kind_high x.word.now x.line x.a x.e _ c.verb-v.ensures w.if-v-lt-OPEN.false w.if-v-gt-SKIP.true
    ]

pub returns : goal.returns
returns c =
    let x = c.args in
    kind_told x.word.now x.line x.a x.e _ c.verb-v.ensures c.if-v-lt-OPEN.false c.if-v-gt-SKIP.false
