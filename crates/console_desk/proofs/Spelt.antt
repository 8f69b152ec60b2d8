-- What lines and notices spell is an event of which `console_reasons` specs/Promise says what stands behind its refusal: `line_promise` and
-- `notice_promise`. Rests on `console_reasons` proofs/Promise `event_promise`, and on each kind of event being spelt in full.
use Prim.Native.Nat.{ℕ}
use mathlib.Core.Path.{◌≡◌, refl}
use mathlib.Core.Bool.{Bool, true, false}
use borrow.Author.Tests.{eq-eqb}
use lib.Dec.{eqb}
use Rattle.rules.specs.Refusals.{pick}
use Rattle.story.specs.declared.State.{State}
use Rattle.story.specs.declared.Act.TheVariants.{Changes, Closes}
use Rattle.story.specs.Story.{opens, skips, holds, lifts}
use Rattle.notice.specs.declared.Notice.{Notice}
use Rattle.notice.specs.declared.Kind.{Kind}
use Rattle.notice.specs.declared.Kind.TheVariants.{Open, Change, Close, Hold, Lift, Skip}
use Rattle.agent.specs.Turns.{act_of, event_of}
use Rattle.console_commands.specs.Commands
use Rattle.console_lines.specs.declared.lines.Line.{Line}
use Rattle.console_lines.specs.Lines.{number_in}
use Rattle.console_acts.specs.Events.{word_of, act_by, event_in}
use Rattle.console_reasons.specs.Events.{is_spelt}
use Rattle.console_reasons.specs.Promise.{EventReasons}
use Rattle.console_reasons.proofs.Promise.{event_promise}

skip_spelt : (d k : ℕ) → is_spelt (skips d k) ≡ true
skip_spelt d k = rw (eq-eqb k k refl) refl

act_spelt : (c w x y z : ℕ) → is_spelt (act_by c w x y z) ≡ true
unfolding act_by
act_spelt c w x y z =
    go (eqb c Commands.do_open) (eqb c Commands.do_change) (eqb c Commands.do_hold) (eqb c Commands.do_lift) (eqb c Commands.do_skip)
  where
    go : (a b d e f : Bool)
        → is_spelt (pick a (opens w x y z) (pick b (Changes w) (pick d holds (pick e lifts (pick f (skips w x) Closes))))) ≡ true
    go true b d e f = refl
    go false true d e f = refl
    go false false true e f = refl
    go false false false true f = refl
    go false false false false true = skip_spelt w x
    go false false false false false = refl

kind_spelt : (k : Kind) → is_spelt (act_of k) ≡ true
kind_spelt (Open d a k n) = refl
kind_spelt (Change n) = refl
kind_spelt Close = refl
kind_spelt Hold = refl
kind_spelt Lift = refl
kind_spelt (Skip d n) = skip_spelt d n

pub line_promise : (s : State) (l : Line) → EventReasons s (event_in l)
unfolding event_in
line_promise s l =
    event_promise s (event_in l) (act_spelt (word_of l.command) (number_in l 2) (number_in l 3) (number_in l 4) (number_in l 5))

pub notice_promise : (s : State) (n : Notice) → EventReasons s (event_of n)
notice_promise s n = event_promise s (event_of n) (kind_spelt n.kind)
