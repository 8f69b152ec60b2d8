-- Demand 3 and what the state says of it: the page to read first, from top to bottom. Each statement has its name, and proofs/Demands
-- shows them all, of every pool, sequence, id and moment.
-- `es` are the accepted ones, newest first, of some calls on a fresh pool, and `s` is the state that those calls leave (Runs
-- `Reached`). i is an id, l a lane, c a cell, a the tick at which a box begins, t and T are ticks, τ, υ and ω moments in ms.
use Rattle.std.specs.Prelude.{◌≡◌, true, false, ◌⊎◌, List, ◌∷◌, ◌++◌, ℕ, suc, ◌+◌, ◌≤◌, ◌<◌, ltb}
use Rattle.rules.specs.Limits.{titles_max, id_max, lane_max, asked_max}
use Rattle.rules.specs.Refusals.{pick, no_lanes}
use Rattle.rules.specs.Search.{how_many}
use Rattle.scheme.specs.Scheme.{steady_kind}
use Rattle.story.specs.declared.State.{State}
use Rattle.story.specs.declared.Event.{Event}
use Rattle.story.specs.Life.{Life, is_film, is_active, is_owed, reach, owed_within, owes, cell, is_held}
use Rattle.story.specs.Story.{life_of, life_at, last_time, up_to, moment_of, count_in, is_marked_in, is_active_in, is_held_in, air_at}
use Rattle.story.specs.Story.{held_in, held_over, answer, accepted, Accepted, lane_answer_to, status_answer_to, release_of}
use Rattle.story.specs.Story.{InTick, ReceivedBy, Received, Begins, Dropped, DropsAt, Quiet}
use Rattle.story.specs.Story.{OneMoment, BothAccepted, WantsLanes, NineAfter}
use Rattle.story.specs.Kept.{state_ok, lanes_held}
use Rattle.story.specs.Calls.{lane_answer, lane_shows, AnswersCell, status_answer, status_count, status_held, status_mark}
use Rattle.story.specs.Runs.{answered, called, state_after, lanes_of, Reached, BothCalled, CallWantsLanes, CallNineAfter}

-- 0. Every run of calls reaches its accepted events and the state it leaves: so what follows is said of every run.
abbrev pub EveryRun : Type 0
EveryRun = (pool : ℕ) (cs : List Event) → Reached pool (accepted (lanes_of pool) cs) (state_after pool cs)

-- 1. The state tells the story.
pub record TellsTheStory (pool : ℕ) (es : List Event) (s : State) : Type 0 where
  -- The accepted events are an accepted sequence, and alone they leave the same state, which never gets 1 for itself.
  pub in_sequence : Accepted (lanes_of pool) es
  pub left_alone : s ≡ state_after pool es
  pub sound : state_ok s ≡ true
  -- Every event is answered as the sequence alone says.
  pub every_answer : (e : Event) → answered s e ≡ answer (lanes_of pool) es e
  -- So is every lane question, and its cell is the one on air, for any time from the id's latest event on.
  pub every_lane : (i l τ : ℕ) → lane_answer s i l τ ≡ lane_answer_to es i l τ
  pub on_air_holds : (i l τ : ℕ) → lane_answer s i l τ ≡ 0 → air_at es i l τ ≡ cell (lane_shows s i l τ)
  -- So is status, with every count, number of lanes held and mark, for any time from the last event on.
  pub every_status : (τ : ℕ) (ids : List ℕ) (m h d : ℕ) → status_answer s τ ids m h d ≡ status_answer_to es τ ids m h d
  pub every_count : (i τ : ℕ) → i < titles_max → last_time es ≤ τ → status_count s i ≡ count_in (life_of es i) τ
  pub every_held : (i τ : ℕ) → i < titles_max → last_time es ≤ τ → status_held s i τ ≡ held_in (life_of es i) τ
  pub every_mark : (i τ : ℕ) → i < titles_max → last_time es ≤ τ → status_mark s i ≡ pick (is_marked_in (life_of es i) τ) 1 0
  pub all_held : (τ : ℕ) → last_time es ≤ τ → lanes_held s τ ≡ held_over es τ

-- 2. No box runs dry.
pub record NoBoxRunsDry (pool : ℕ) (es : List Event) : Type 0 where
  -- A box that may begin at a moment receives every cell that holds film in time, whatever accepted events follow.
  pub boxes : (i τ a c : ℕ) → i < titles_max → Begins es i τ a → is_film (life_at es i τ) c ≡ true →
      Received es i (life_at es i τ) a c
  -- Of a skip-forward title (02, 12) it has the next block, if that has film, by the time the one before it plays.
  pub ahead : (i τ a c : ℕ) → i < titles_max → (life_at es i τ).film.kind ≡ steady_kind → Begins es i τ a →
      is_film (life_at es i τ) (suc c) ≡ true → ReceivedBy es i (life_at es i τ) a (suc c) (a + c)
  -- What is on air at a moment is what the lane question answers then, asked of the state that the events up to then have left.
  pub asked : (i l τ c : ℕ) → i ≤ id_max → l ≤ lane_max → τ ≤ asked_max → air_at es i l τ ≡ cell c →
      AnswersCell (state_after pool (up_to τ es)) i l τ c
  -- So a box receives a cell by what the calls say, at every moment of that tick that may be asked.
  pub by_the_calls : (i τ a c : ℕ) → i < titles_max → (r : Received es i (life_at es i τ) a c) → (υ : ℕ) →
      InTick (life_at es i τ) r.tick υ → υ ≤ asked_max → AnswersCell (state_after pool (up_to υ es)) i r.lane υ c

-- 3. The pool: at every moment the lanes held, counted from the sequence, are at most the pool.
abbrev pub WithinThePool : ℕ → List Event → Type 0
WithinThePool pool es = (τ : ℕ) → held_over (up_to τ es) τ ≤ lanes_of pool

-- 4. Held exactly.
pub record HeldAsOwed (pool : ℕ) (es : List Event) : Type 0 where
  -- No tick is owed later than 2^(K-1) ticks after a drop: however many ticks are looked at, what a lane owes is counted in full.
  pub owed_soon : (i l T t : ℕ) → i < titles_max → is_owed (life_of es i) l T t ≡ true → t < T + reach (life_of es i).film.cap
  pub owed_in_all : (i l T n : ℕ) → i < titles_max → reach (life_of es i).film.cap ≤ n →
      owed_within (life_of es i) l T n ≡ owes (life_of es i) l T
  -- An accepted event that takes a lane away drops it, at the start of a tick.
  pub every_drop : (e : Event) → answer (lanes_of pool) es e ≡ 0 → (l : ℕ) →
      is_active_in (life_of es e.title) l e.time ≡ true → is_active_in (life_of (e ∷ es) e.title) l e.time ≡ false →
      (t : ℕ) × DropsAt (e ∷ es) e.title l t e.time (suc e.time)
  -- A lane that is dropped, and not raised meanwhile, is held up to its release and no longer, at every moment as the events up to
  -- that moment say: what it owes is settled by the events up to its drop, and the id does not open again before the release.
  pub held_until : (i l t τ ω : ℕ) → i < titles_max → DropsAt es i l t τ ω → (υ : ℕ) → τ ≤ υ → υ < ω →
      is_held_in (life_at es i υ) l υ ≡ ltb υ (release_of (life_at es i τ) l (suc t))
  -- So in the n ticks from the drop on, at whatever moment of each one looks, it is held in exactly as many as it owes cells.
  pub held_exactly : (i l t τ n : ℕ) → i < titles_max → DropsAt es i l t τ (moment_of (life_at es i τ) (suc t + n)) →
      owes (life_at es i τ) l (suc t) ≤ n →
      (look : ℕ → ℕ) → ((j : ℕ) → j < n → InTick (life_at es i τ) (suc t + j) (look j)) →
      how_many (λ j. is_held_in (life_at es i (look j)) l (look j)) n ≡ owes (life_at es i τ) l (suc t)
  -- One that is raised before its release, or just then, is held throughout.
  pub held_throughout : (i l t τ ω : ℕ) → i < titles_max → DropsAt es i l t τ ω → is_active_in (life_at es i ω) l ω ≡ true →
      ω ≤ release_of (life_at es i τ) l (suc t) → (υ : ℕ) → τ ≤ υ → υ ≤ ω → is_held_in (life_at es i υ) l υ ≡ true

-- The same of any one life, in its own ticks.
pub record HeldInALife (L : Life) : Type 0 where
  pub exactly : (l t n : ℕ) → Dropped L l t n → owes L l (suc t) ≤ n →
      how_many (λ j. is_held L l (suc t + j)) n ≡ owes L l (suc t)
  pub throughout : (l t n j : ℕ) → Dropped L l t n → is_active L l (suc t + n) ≡ true →
      n ≤ owes L l (suc t) → j ≤ n → is_held L l (suc t + j) ≡ true

-- 5. Refusal 9 is exact: an event that gets it would hold more than the pool at its time, one that is accepted holds no more.
pub record NineIsExact (pool : ℕ) (es : List Event) : Type 0 where
  pub nine : (e : Event) → answer (lanes_of pool) es e ≡ no_lanes → lanes_of pool < held_over (e ∷ es) e.time
  pub room : (e : Event) → answer (lanes_of pool) es e ≡ 0 → held_over (e ∷ es) e.time ≤ lanes_of pool

-- 6. What was answered for a later time stays true until an event of that title at or before that time is accepted.
abbrev pub AnswersStay : ℕ → List Event → Type 0
AnswersStay pool es = (new : List Event) (t : State) → Reached pool (new ++ es) t → (i τ : ℕ) → Quiet i τ new →
    life_at (new ++ es) i τ ≡ life_at es i τ

-- 7. Which orders matter, of two events at one moment on titles of different ids (02, 14).
pub record OrdersThatMatter (pool : ℕ) (es : List Event) (s : State) : Type 0 where
  -- Where e and then f are accepted, so are f and then e, or that other order refuses only f, which takes lanes, and with 9; e takes
  -- none, and is accepted.
  pub orders : (e f : Event) → OneMoment e f → BothAccepted (lanes_of pool) es e f →
      BothAccepted (lanes_of pool) es f e ⊎ WantsLanes (lanes_of pool) es e f
  -- Where either is accepted alone, and not both, either order answers 0 and then 9, and both take lanes.
  pub room_for_one : (e f : Event) → OneMoment e f → answer (lanes_of pool) es e ≡ 0 → answer (lanes_of pool) es f ≡ 0 →
      (BothAccepted (lanes_of pool) es e f → ⊥) → NineAfter (lanes_of pool) es e f × NineAfter (lanes_of pool) es f e
  -- And so by the calls: the sequence and the calls accept the same two.
  pub both_answered : (e f : Event) → BothAccepted (lanes_of pool) es e f → BothCalled s e f
  pub orders_called : (e f : Event) → OneMoment e f → BothCalled s e f → BothCalled s f e ⊎ CallWantsLanes s e f
  pub room_for_one_called : (e f : Event) → OneMoment e f → answered s e ≡ 0 → answered s f ≡ 0 →
      (BothCalled s e f → ⊥) → CallNineAfter s e f × CallNineAfter s f e

-- Where both are accepted in both orders the order is all one.
pub record OrderIsAllOne (pool : ℕ) (es : List Event) (s : State) : Type 1 where
  -- The calls leave one state, and so do any that follow, so that whatever is asked of the state later is answered the same.
  pub all_one : (e f : Event) → OneMoment e f → BothCalled s e f → BothCalled s f e →
      called (called s e) f ≡ called (called s f) e
  pub all_one_later : (e f : Event) → OneMoment e f → BothCalled s e f → BothCalled s f e → (cs : List Event) →
      state_after pool (cs ++ f ∷ e ∷ es) ≡ state_after pool (cs ++ e ∷ f ∷ es)
  pub later_asked : {A : Type 0} (ask : State → A) (e f : Event) → OneMoment e f → BothCalled s e f → BothCalled s f e →
      (cs : List Event) → ask (state_after pool (cs ++ f ∷ e ∷ es)) ≡ ask (state_after pool (cs ++ e ∷ f ∷ es))
  -- By the sequence, what is accepted after one order is accepted after the other.
  pub later_accepted : (e f : Event) → OneMoment e f → BothAccepted (lanes_of pool) es f e → (new : List Event) →
      Accepted (lanes_of pool) (new ++ f ∷ e ∷ es) → Accepted (lanes_of pool) (new ++ e ∷ f ∷ es)

-- Of any sequence: whatever follows the two, either order answers every event, lane question and status the same, holds as many
-- lanes, and has the same life of each title at every moment: its count, its lanes and what they show.
pub record ToldAlike (one other : List Event) : Type 0 where
  pub later_answer : (lanes : ℕ) (d : Event) → answer lanes one d ≡ answer lanes other d
  pub later_lane : (i l τ : ℕ) → lane_answer_to one i l τ ≡ lane_answer_to other i l τ
  pub later_status : (τ : ℕ) (ids : List ℕ) (m h d : ℕ) → status_answer_to one τ ids m h d ≡ status_answer_to other τ ids m h d
  pub later_held : (τ : ℕ) → held_over (up_to τ one) τ ≡ held_over (up_to τ other) τ
  pub later_life : (i τ : ℕ) → life_at one i τ ≡ life_at other i τ
  pub later_air : (i l τ : ℕ) → air_at one i l τ ≡ air_at other i l τ

abbrev pub EitherOrder : Type 0
EitherOrder = (es : List Event) (e f : Event) → OneMoment e f → (new : List Event) →
    ToldAlike (new ++ f ∷ e ∷ es) (new ++ e ∷ f ∷ es)
