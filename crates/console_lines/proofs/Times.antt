-- A time that was written (`clocks::put_clock`) may be typed where a line takes one: it is read as the number that it was written for. Rests
-- on `clocks` proofs/Back.
use Prim.Native.Nat.{ℕ, ◌≤◌}
use mathlib.Core.Path.{◌≡◌}
use mathlib.Core.Bool.{true}
use mathlib.Core.List.{List}
use Rattle.text.specs.Numbers.{top}
use Rattle.clocks.specs.Clocks.{clock_text}
use Rattle.clocks.proofs.Back.{written_has_colon, written_is_clock, ms_back}
use Rattle.console_commands.specs.Commands
use Rattle.console_lines.specs.declared.lines.Line.{Line}
use Rattle.console_lines.specs.Lines.{with_amount, word_at, with_clock, with_number}

pub written_typed : (s : List ℕ) (l : Line) (a e ms : ℕ) → Commands.is_timed l.command l.count ≡ true
    → word_at s a ≡ clock_text ms → ms ≤ top → with_number s l a e ≡ with_amount l a e ms
unfolding with_number with_clock
written_typed s l a e ms timed is h = rw (timed, is, written_has_colon ms, written_is_clock ms, ms_back ms h)
