-- `frames::times::put_time` meets its contract: where it lies in what is drawn, else nothing.
use borrow.Author.Tests.{le-leb, lt-leb}
use Rattle.text.proofs.Pages.{nothing}
use Rattle.frames.specs.Times.{time_text}
use Rattle.frames.proofs.times.put_time.Goals.{else-s-time-via-then-s-time+else-since-s, else-s-time-via-else-s-time}
use Rattle.frames.proofs.times.put_time.Goals as goal

pub returns-then-since-s : goal.returns-then-since-s
unfolding time_text
returns-then-since-s c = rw (le-leb _ _ c.if-s-time.true, ← c.since.ensures, le-leb _ _ c.if-since-s.true) c.put_across.ensures

pub returns-else-s-time : goal.returns-else-s-time
unfolding time_text
returns-else-s-time c =
    elim c.else-s-time.branch [
      | else-s-time-via-then-s-time+else-since-s w ↦ rw (le-leb _ _ w.if-s-time.true, ← w.since.ensures, lt-leb _ _ w.if-since-s.false) nothing
      | else-s-time-via-else-s-time w ↦ rw (lt-leb _ _ w.if-s-time.false) nothing
    ]
