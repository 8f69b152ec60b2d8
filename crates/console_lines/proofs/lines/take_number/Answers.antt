-- `console_lines::lines::take_number` meets its contract: its tests are those of the definition.
use mathlib.Core.Path.{◌∙◌}
use Rattle.console_lines.proofs.Reading.{number_clock, number_plain, number_untimed}
use Rattle.console_lines.proofs.lines.take_number.Goals as goal
use Rattle.console_lines.proofs.lines.take_number.Goals.{else-is_timed-via-then-is_timed+else-has_colon, else-is_timed-via-else-is_timed}

pub returns-then-has_colon : goal.returns-then-has_colon
returns-then-has_colon c =
    let x = c.args in
    c.take_clock.ensures
    ∙ number_clock x.s.now x.line x.a x.e c.requires.1.ends _ c.is_timed.ensures c.if-is_timed.true _ c.has_colon.ensures
    c.if-has_colon.true

pub returns : goal.returns
returns c =
    let x = c.args in
    c.take_digits.ensures
    ∙ elim c.else-is_timed.branch [
      | else-is_timed-via-then-is_timed+else-has_colon w ↦
          number_plain x.s.now x.line x.a x.e c.requires.1.ends _ c.is_timed.ensures w.if-is_timed.true _ w.has_colon.ensures
          w.if-has_colon.false
      | else-is_timed-via-else-is_timed w ↦
          number_untimed x.s.now x.line x.a x.e c.requires.1.ends _ c.is_timed.ensures w.if-is_timed.false
    ]
