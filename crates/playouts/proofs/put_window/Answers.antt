-- `playouts::put_window` meets its contract: the limits, then the window over numbers of its own.
use mathlib.Core.Path.{sym, ◌∙◌}
use native.Mathlib.Omega.{arith}
use lib.Seq.{length-take-le}
use Rattle.text.proofs.Pages.{told_as}
use Rattle.playouts.proofs.Answers.{ticks_low, ticks_high, text_outside}
use Rattle.playouts.proofs.put_window.Goals as goal

pub overflow_mul-n : goal.overflow_mul-n
overflow_mul-n c = record { fits = omega (arith, ticks_high _ _ _ _ (sym c.in_limits.ensures ∙ c.if-in_limits.true)) }

pub slice_bounds-numbers-end : goal.slice_bounds-numbers-end
slice_bounds-numbers-end c =
    let at_done = c in
    omega (arith, c.blank_numbers-numbers.ensures, ticks_high _ _ _ _ (sym at_done.in_limits.ensures ∙ at_done.if-in_limits.true))

pub slice_bounds-tell-end : goal.slice_bounds-tell-end
slice_bounds-tell-end c =
    let at-blank = c in
    let at_done = at-blank in
    sym (length-take-le _ _ (omega (arith, at-blank.blank_numbers-numbers.ensures, ticks_high _ _ _ _ (sym at_done.in_limits.ensures ∙ at_done.if-in_limits.true))))

pub tell-requires : goal.tell-requires
tell-requires c = let at-blank = c in
    let at_done = at-blank in
    let fits = sym at_done.in_limits.ensures ∙ at_done.if-in_limits.true in record {
      ticks_value = fits;
      whole_ticks = record {
        some = ticks_low _ _ _ _ fits;
        few = ticks_high _ _ _ _ fits;
        long = length-take-le _ _ (omega (arith, at-blank.blank_numbers-numbers.ensures, ticks_high _ _ _ _ fits));
      };
    }

pub returns-else-in_limits : goal.returns-else-in_limits
returns-else-in_limits c =
    let x = c.args in
    told_as (text_outside x.pool x.log.now x.title x.from x.ticks (sym c.in_limits.ensures ∙ c.if-in_limits.false)) c.put_refused.ensures
