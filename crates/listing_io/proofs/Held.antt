-- The times at which lanes held are shown (01, "Numbers worked through"): an accepted notice's time is what the state keeps as
-- the last accepted event's, and a fresh agent, which has none, shows 0.
use Prim.Native.Nat.{ℕ}
use mathlib.Core.Path.{◌≡◌, refl}
use mathlib.Core.Bool.{Bool, true, false}
use lib.Dec.{eqb}
use Rattle.rules.specs.Refusals.{pick, done}
use Rattle.rules.specs.Search.{total}
use Rattle.story.specs.Kept.{lanes_held, title_held}
use Rattle.story.specs.Calls.{fresh_next}
use Rattle.scheduler.specs.Outcomes.{held_answer, held_shown}
use Rattle.notice.specs.declared.Notice.{Notice}
use Rattle.notice.specs.declared.Kind.{Kind}
use Rattle.notice.specs.declared.Kind.TheVariants.{Open, Change, Close, Hold, Lift, Skip}
use Rattle.notice.specs.declared.Reading.TheVariants as reading
use Rattle.agent.specs.declared.Agent.{Agent}
use Rattle.agent.specs.Turns.{notice_next, fresh_agent}
use Rattle.listing_io.specs.Step.{held_after}

abbrev of_kind : Notice → Kind → Notice
of_kind n k = record { sequence = n.sequence; title = n.title; time = n.time; kind = k }

-- an accepted notice leaves its own time as the last
pub own_time : (g : Agent) (n : Notice) → (notice_next g (reading.Whole n)).state.last ≡ n.time
own_time g n = go n.kind
  where
    go : (k : Kind) → (notice_next g (reading.Whole (of_kind n k))).state.last ≡ n.time
    go (Open d a c k) = refl
    go (Change k) = refl
    go Close = refl
    go Hold = refl
    go Lift = refl
    go (Skip d c) = refl

-- with nothing accepted no lane is held, at any time
nothing : (b : Bool) → ◌≡◌ {A = ℕ} (pick b 0 0) 0
nothing true = refl
nothing false = refl

pub none_held : (answer time : ℕ) → held_after (fresh_agent 8) answer time ≡ 0
unfolding held_after held_shown lanes_held total title_held
none_held answer time =
    nothing (eqb (held_answer (fresh_next 8) (pick (eqb answer done) time 0)) 0)
