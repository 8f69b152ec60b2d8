-- `console_lines::lines::take_act` meets its contract: its tests are those of the definition.
use mathlib.Core.Path.{◌∙◌}
use Rattle.console_lines.proofs.Reading.{act_low, act_high, act_told}
use Rattle.console_lines.proofs.lines.take_act.Goals as goal
use Rattle.console_lines.proofs.lines.take_act.Goals.{then-v-lt-CLOSE-via-then-v-lt-CLOSE, then-v-lt-CLOSE-via-else-v-lt-CLOSE+then-v-gt-LIFT}

pub returns-then-v-lt-CLOSE : goal.returns-then-v-lt-CLOSE
returns-then-v-lt-CLOSE c =
    let x = c.args in
    c.take_number.ensures
    ∙ elim c.then-v-lt-CLOSE.branch [
      | then-v-lt-CLOSE-via-then-v-lt-CLOSE w ↦
          act_low x.s.now x.line x.a x.e c.requires.1.ends _ c.verb-v.ensures w.if-v-lt-CLOSE.true
      | then-v-lt-CLOSE-via-else-v-lt-CLOSE+then-v-gt-LIFT w ↦
          act_high x.s.now x.line x.a x.e c.requires.1.ends _ c.verb-v.ensures w.if-v-lt-CLOSE.false w.if-v-gt-LIFT.true
    ]

pub returns : goal.returns
returns c =
    let x = c.args in
    act_told x.s.now x.line x.a x.e c.requires.1.ends _ c.verb-v.ensures c.if-v-lt-CLOSE.false c.if-v-gt-LIFT.false
