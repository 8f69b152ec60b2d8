-- What the loop keeps.
use Rattle.text.specs.Pages.{Puts}
use Rattle.frames.specs.Times.{times_text}
use Rattle.frames.proofs.times.put_times.Given as goal

abbrev pub invariant-loop-n : goal.invariant-loop-n
invariant-loop-n l = Puts l.initial.page (times_text l.s l.base l.n) l.page
