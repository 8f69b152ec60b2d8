-- When an event that only lanes may refuse has room: it takes none, or it would hold the same lanes whenever it came, so that it is tried
-- once, as if it came at its own time. Rests on the laws of falling lanes and of the earliest time.
use mathlib.Core.Path.{◌≡◌, refl, ap, ◌∙◌}
use mathlib.Core.Bool.{true, false, not, false≢true}
use Prim.Native.Nat.{ℕ, zero, suc, ◌≤◌}
use native.Mathlib.Omega.{arith}
use lib.Dec.{ltb, eqb}
use borrow.Author.Tests.{ltb-true, leb-true, eqb-false, not-false, eq-eqb, ne_eqb}
use Rattle.rules.specs.Limits.{event_time_max}
use Rattle.rules.specs.Search.{every}
use Rattle.rules.specs.Refusals.{hits_of, not_there, is_closing, no_lanes, done}
use Rattle.rules.proofs.Tests.{both_l}
use Rattle.story.specs.declared.Title.{Title}
use Rattle.story.specs.declared.State.{State}
use Rattle.story.specs.declared.Event.{Event}
use Rattle.story.specs.declared.Act.{Act}
use Rattle.story.specs.declared.Act.TheVariants.{Opens, Changes, Closes, Doors}
use Rattle.story.specs.Kept.{absent_mode, open_mode, closing_mode, no_title, title_at, numbers_ok, title_ok, lanes_held, is_there}
use Rattle.story.specs.Next.{opened_title, next_title, with_title, call_next}
use Rattle.story.specs.Story.{event, takes_lanes}
use Rattle.story.specs.Calls.{too_many}
use Rattle.measures.proofs.Within.{numbers, title_ok_lem}
use Rattle.owed.proofs.Fixed.{stored}
use Rattle.moments.specs.Searched.{Timed, AllTimed, Frees}
use Rattle.moments.proofs.Earliest.{lessens_first, first_now}
use Rattle.moments.proofs.Falling.{taken_held}
use Rattle.moments.proofs.Due.{timed, raise_timed}
use Rattle.title_verdicts.proofs.Stands.{in_slot}
use Rattle.verdicts.specs.Before.{first_answer}
use Rattle.verdicts.proofs.Event.{cleared_all, taken_event, event_state, event_id, event_time, event_title}
use Rattle.scheduler.proofs.Taken.{taken_filmed}
use Rattle.outlook.specs.Outlook.{is_hit_by, finds_room, room_from}

-- a title that is there and not closing is open
mode_high : (t : Title) → title_ok t ≡ true → t.mode ≤ closing_mode
unfolding numbers_ok
mode_high t ok = let n = numbers t ok in search (both_l, leb-true)

pub open_there : (t : Title) (τ : ℕ) → title_ok t ≡ true → is_there t τ ≡ true → eqb t.mode closing_mode ≡ false → t.mode ≡ open_mode
open_there t τ ok there other = go t.mode (mode_high t ok) (in_slot t τ there) (eqb-false t.mode closing_mode other)
  where
    go : (m : ℕ) → m ≤ closing_mode → (m ≡ absent_mode → ⊥) → (m ≡ closing_mode → ⊥) → m ≡ open_mode
    go zero high some other = absurd (some refl)
    go (suc zero) high some other = refl
    go (suc (suc zero)) high some other = absurd (other refl)
    go (suc (suc (suc m))) high some other = absurd (omega arith)

module _ (s : State) (i τ : ℕ) where
  opened_timed : (a : Act) (none : first_answer s (event i τ a) ≡ 0) (t : Title) → Rattle.measures.specs.Readable.Filmed t.film →
      t.opened ≡ τ → t.dropped ≡ (opened_title t.film τ 0).dropped → t.owed ≡ (opened_title t.film τ 0).owed → Timed t
  unfolding every
  opened_timed a none t film opened dropped owed =
      record {
        film = film;
        opened = rw opened (event_time s i τ (taken_event s i τ a none));
        dropped = rw dropped refl;
        owed = rw owed refl;
      }

  -- what it leaves has releases that can be told
  pub taken_timed : (a : Act) → first_answer s (event i τ a) ≡ 0 → takes_lanes a (title_at s i).count ≡ true → AllTimed (call_next s i τ a)
  unfolding hits_of
  taken_timed (Opens f k) none takes j b =
      let ok = event_state s i τ (taken_event s i τ (Opens f k) none) in
      stored (λ t. (t.mode ≡ absent_mode → ⊥) → Timed t) s.titles i j (opened_title f τ k) no_title
      (λ there. opened_timed (Opens f k) none (opened_title f τ k) (taken_filmed s i τ (Opens f k) none) refl refl refl)
      (timed (title_at s j) (title_ok_lem s ok j b))
  taken_timed (Changes k) none takes j b =
      let fits = taken_event s i τ (Changes k) none in
      let clear = cleared_all s i τ (Changes k) none in
      let there = not-false (is_there (title_at s i) τ) (clear not_there) in
      let low = event_id s i τ fits in
      let up = ltb-true (title_at s i).count k takes in
      raise_timed s (event_state s i τ fits) i k τ (omega arith)
      (open_there (title_at s i) τ (event_title s i τ fits) there (clear is_closing)) (omega arith) j b
  taken_timed Closes none takes j b = absurd (false≢true takes)
  taken_timed (Doors d) none takes j b = absurd (false≢true takes)

-- the state that it would leave, made step by step
pub next_made : (s : State) (i τ : ℕ) (a : Act) {t q : Title} {z : State} → t ≡ title_at s i → q ≡ next_title t τ a → z ≡ with_title s i q τ →
    z ≡ call_next s i τ a
next_made s i τ a is turned made = made ∙ ap (λ t. with_title s i t τ) (turned ∙ ap (λ t. next_title t τ a) is)

full_rule : (s : State) (i : ℕ) (a : Act) (υ τ : ℕ) → takes_lanes a (title_at s i).count ≡ true →
    is_hit_by no_lanes s (event i τ a) υ ≡ too_many (call_next s i υ a) υ
unfolding hits_of
full_rule s i (Opens f k) υ τ takes = refl
full_rule s i (Changes k) υ τ takes = refl
full_rule s i Closes υ τ takes = absurd (false≢true takes)
full_rule s i (Doors b) υ τ takes = absurd (false≢true takes)

-- whether it has room at a time is told by what it would hold had it come at τ
pub room_at : (s : State) (i : ℕ) (a : Act) (σ τ υ : ℕ) → takes_lanes a (title_at s i).count ≡ true →
    finds_room s (event i σ a) υ ≡ not (ltb s.pool (lanes_held (call_next s i τ a) υ))
unfolding finds_room
room_at s i a σ τ υ takes =
    rw takes (ap not (full_rule s i a υ σ takes ∙ ap (λ n. ltb s.pool n) (taken_held s i a takes υ τ υ)))

-- ---- the first time with room, as it is worked out

pub room_refused : (s : State) (e : Event) → (first_answer s e ≡ 0 → ⊥) → 0 ≡ room_from s e
unfolding room_from
room_refused s e some = rw (ne_eqb (first_answer s e) done some) refl

pub room_found : (s : State) (e : Event) → first_answer s e ≡ 0 → takes_lanes e.act (title_at s e.title).count ≡ true → {r : ℕ} →
    Frees (call_next s e.title e.time e.act) e.time r → r ≡ room_from s e
unfolding room_from finds_room
room_found s e none takes {r} f =
    rw (eq-eqb (first_answer s e) done none)
    (lessens_first (lanes_held (call_next s e.title e.time e.act)) s.pool (finds_room s e)
    (λ υ. room_at s e.title e.act e.time e.time υ takes) f)

pub room_now : (s : State) (e : Event) → first_answer s e ≡ 0 → takes_lanes e.act (title_at s e.title).count ≡ false →
    e.time ≤ suc event_time_max → e.time ≡ room_from s e
unfolding room_from finds_room
room_now s e none takes within =
    rw (eq-eqb (first_answer s e) done none) (first_now (finds_room s e) e.time within (rw takes refl))
