-- What 7, 16 and 8 ask of an event is what its title's rules permit, so that the first time that these permit is the next start.
-- Rests on the laws of the earliest time.
use mathlib.Core.Path.{◌≡◌, refl}
use mathlib.Core.Bool.{Bool, true, false, not}
use Prim.Native.Nat.{ℕ, suc, ◌≤◌, min}
use native.Mathlib.Omega.{arith}
use lib.Dec.{ltb, eqb}
use borrow.Author.Tests.{eq-eqb, ne_eqb}
use Rattle.rules.specs.Limits.{both, either, event_time_max}
use Rattle.rules.proofs.Refusals.{hits_of}
use Rattle.story.specs.declared.Film.{Film}
use Rattle.story.specs.declared.Title.{Title}
use Rattle.story.specs.declared.State.{State}
use Rattle.story.specs.declared.Event.{Event}
use Rattle.story.specs.declared.Act.{Act}
use Rattle.story.specs.declared.Act.TheVariants.{Opens, Changes, Closes, Doors}
use Rattle.story.specs.Kept.{absent_mode, title_at, settled_at}
use Rattle.story.specs.Story.{event}
use Rattle.story.specs.Calls.{event_ok, at_slot_start}
use Rattle.moments.specs.Searched.{Found, turns, permits}
use Rattle.moments.proofs.Earliest.{found_first}
use Rattle.outlook.specs.Outlook.{is_allowed, next_start}
use Rattle.outlook.specs.inner.Tries.{allows}

retunes : (a b c : Bool) → not (either a (either b (not c))) ≡ both (not a) (both (not b) c)
retunes true b c = refl
retunes false true c = refl
retunes false false true = refl
retunes false false false = refl

turned : (a c : Bool) → not (either a (either false (not c))) ≡ both (not a) c
turned true c = refl
turned false true = refl
turned false false = refl

allowed_act : (s : State) (i : ℕ) (a : Act) (τ υ : ℕ) → is_allowed s (event i τ a) υ ≡ allows (title_at s i) a υ
unfolding is_allowed allows permits turns hits_of
allowed_act s i (Opens f k) τ υ = refl
allowed_act s i (Changes k) τ υ =
    let t : Title = title_at s i in
    retunes (eqb υ t.last) (ltb υ (settled_at t)) (at_slot_start t (min t.count k) υ)
allowed_act s i Closes τ υ = let t : Title = title_at s i in turned (eqb υ t.last) (at_slot_start t t.film.floor υ)
allowed_act s i (Doors b) τ υ = let t : Title = title_at s i in turned (eqb υ t.last) (at_slot_start t t.count υ)

pub allowed_by : (s : State) (e : Event) (υ : ℕ) → is_allowed s e υ ≡ allows (title_at s e.title) e.act υ
unfolding is_allowed
allowed_by s e υ = allowed_act s e.title e.act e.time υ

-- ---- the next start, as it is worked out

pub start_outside : (s : State) (e : Event) → event_ok s e.title e.time ≡ false → 0 ≡ next_start s e
unfolding next_start
start_outside s e out = rw out refl

pub start_absent : (s : State) (e : Event) → event_ok s e.title e.time ≡ true → (title_at s e.title).mode ≡ absent_mode →
    0 ≡ next_start s e
unfolding next_start
start_absent s e fits none = rw (fits, eq-eqb (title_at s e.title).mode absent_mode none) refl

pub start_found : (s : State) (e : Event) → event_ok s e.title e.time ≡ true → ((title_at s e.title).mode ≡ absent_mode → ⊥) →
    e.time ≤ suc event_time_max → {t : Title} {hi r : ℕ} → t ≡ title_at s e.title → Found (allows t e.act) e.time hi r →
    min r (suc event_time_max) ≡ next_start s e
unfolding next_start
start_found s e fits there within {t} {hi} {r} is f =
    rw (fits, ne_eqb (title_at s e.title).mode absent_mode there)
    (found_first (allows t e.act) (is_allowed s e) (λ υ. rw is (allowed_by s e υ)) within f)

-- ---- an opening may come at any time

pub any_time : (t : Title) (f : Film) (k τ hi : ℕ) → τ ≤ hi → Found (allows t (Opens f k)) τ hi τ
unfolding allows
any_time t f k τ hi le =
    record { after = omega arith; high = le; hit = refl; none = λ υ lo until. absurd (omega arith) }

-- and a change at a permitted slot start of the smaller count
pub change_found : (t : Title) (k : ℕ) {c τ hi r : ℕ} → c ≡ min t.count k → Found (permits t c) τ hi r → Found (allows t (Changes k)) τ hi r
unfolding allows
change_found t k {c} {τ} {hi} {r} is f =
    let g = rw is at f in
    record { after = g.after; high = g.high; hit = g.hit; none = g.none }
