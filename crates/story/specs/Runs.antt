-- A run of calls on a fresh pool: what the state answers to an event, and the state that the calls leave (01, "Numbers
-- that calls give back": a refused call gives back the state as it came in).
use Rattle.std.specs.Prelude.{ℕ, ◌≡◌, true, false, List, [], ◌∷◌, eqb}
use Rattle.rules.specs.Limits.{within, pool_min, pool_max}
use Rattle.rules.specs.Refusals.{pick, no_lanes}
use Rattle.story.specs.declared.State.{State}
use Rattle.story.specs.Next.{call_next}
use Rattle.story.specs.Calls.{call_answer, fresh_next, status_count}
use Rattle.story.specs.declared.Event.{Event}
use Rattle.story.specs.Story.{accepted, takes_lanes}

abbrev pub answered : State → Event → ℕ
answered s e = call_answer s e.title e.time e.act

-- the state after a call, as it came in where the call is refused
abbrev pub called : State → Event → State
called s e = pick (eqb (answered s e) 0) (call_next s e.title e.time e.act) s

-- the state after a sequence of calls on a fresh pool, newest first
unfoldable pub state_after : ℕ → List Event → State
state_after pool [] = fresh_next pool
state_after pool (c ∷ cs) = called (state_after pool cs) c

-- the lanes of the pool that a fresh call gives: none where it is refused
abbrev pub lanes_of : ℕ → ℕ
lanes_of pool = pick (within pool_min pool_max pool) pool 0

-- some calls on a fresh pool leave the state s, with es the accepted ones among them
pub record Reached (pool : ℕ) (es : List Event) (s : State) : Type 0 where
  pub calls : List Event
  pub events : es ≡ accepted (lanes_of pool) calls
  pub state : s ≡ state_after pool calls

-- 02, 14: a call of e and then one of f are accepted in a state
pub record BothCalled (s : State) (e f : Event) : Type 0 where
  pub first : answered s e ≡ 0
  pub second : answered (called s e) f ≡ 0

-- a call of f gets 9, one of e is accepted behind it, and of the two events f alone takes lanes
pub record CallWantsLanes (s : State) (e f : Event) : Type 0 where
  pub nine : answered s f ≡ no_lanes
  pub other : answered (called s f) e ≡ 0
  pub takes : takes_lanes f.act (status_count s f.title) ≡ true
  pub takes_none : takes_lanes e.act (status_count s e.title) ≡ false

-- a call of e is accepted, and one of f, which takes lanes, gets 9 behind it
pub record CallNineAfter (s : State) (e f : Event) : Type 0 where
  pub first : answered s e ≡ 0
  pub nine : answered (called s e) f ≡ no_lanes
  pub takes : takes_lanes f.act (status_count s f.title) ≡ true
