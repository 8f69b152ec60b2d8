-- An event tried at one time after another: what each step leaves out is refused, so that the first time that is accepted is the earliest.
-- Rests on the laws of skipped times and of the earliest time.
use mathlib.Core.Path.{◌≡◌, refl, sym, ap, ◌∙◌}
use mathlib.Core.Bool.{Bool, true, false, not, false≢true}
use mathlib.Core.Logic.{⊎_elim}
use Prim.Native.Nat.{ℕ, suc, ◌+◌, ◌≤◌, ◌<◌, min, max}
use native.Mathlib.Omega.{arith}
use native.Mathlib.Nat.{le_antisymm}
use lib.Dec.{leb, ltb, eqb}
use borrow.Author.Tests.{ltb-true, ltb-false, leb-true, le-leb, lt-leb, eqb-true, ne_eqb, not-true, not-false}
use Rattle.rules.specs.Limits.{both, either, event_time_max}
use Rattle.rules.specs.Refusals.{pick, done, id_taken, too_early, past_clock}
use Rattle.rules.proofs.Tests.{decide, fails, both_l, both_r, either_false}
use Rattle.rules.proofs.Refusals.{hits_of, distinct, is_listed, first_hit_lem}
use Rattle.story.specs.declared.State.{State}
use Rattle.story.specs.declared.Event.{Event}
use Rattle.story.specs.declared.Act.{Act}
use Rattle.story.specs.declared.Act.TheVariants.{Opens, Changes, Closes, Doors}
use Rattle.story.specs.Kept.{absent_mode, title_at, is_there}
use Rattle.story.specs.Story.{order_of}
use Rattle.story.specs.Calls.{event_ok, tests_in, call_answer}
use Rattle.story.specs.Runs.{answered}
use Rattle.moments.specs.Moments.{earliest}
use Rattle.moments.proofs.Earliest.{earliest_hits, found, earliest_past}
use Rattle.verdicts.specs.Before.{first_answer}
use Rattle.outlook.specs.Outlook.{asked_at, is_accepted_at, first_accepted, is_mended, is_allowed, next_start, finds_room, room_from}
use Rattle.outlook.specs.Outlook.{id_free_from, when_answer, when_time}
use Rattle.outlook.specs.inner.Tries.{Skips}
use Rattle.outlook.proofs.Skipped.{clears, clears_start, clears_room, clears_last, clears_clock, is_timely, timely}

module _ (s : State) (e : Event) (τ : ℕ) (clock : τ ≤ event_time_max) where
  -- a time before the earliest that passes a test is refused, where what is accepted passes it; nothing is left out by 0
  picked_skips : (b : Bool) (q : ℕ → Bool) → ((υ : ℕ) → answered s (asked_at e υ) ≡ 0 → q υ ≡ true) → Skips s e τ (pick b (earliest q τ) 0)
  picked_skips false q passes = record { high = omega arith; refused = λ υ lo hi. absurd (omega arith) }
  picked_skips true q passes =
      let first = earliest_hits q τ (omega arith) in
      record {
        high = first.high;
        refused = λ υ lo hi.
            fails (is_accepted_at s e υ)
            (λ h.
            let ok = eqb-true (answered s (asked_at e υ)) 0 h in
            false≢true (sym (first.none υ lo hi (clears_clock s e υ ok)) ∙ passes υ ok));
      }

  pub start_skips : Skips s e τ (next_start s (asked_at e τ))
  unfolding next_start is_allowed
  start_skips =
      picked_skips (both (event_ok s e.title τ) (not (eqb (title_at s e.title).mode absent_mode))) (is_allowed s (asked_at e τ))
      (clears_start s e)

  room_skips : Skips s e τ (room_from s (asked_at e τ))
  unfolding room_from finds_room
  room_skips =
      picked_skips (eqb (first_answer s (asked_at e τ)) done) (finds_room s (asked_at e τ)) (clears_room s e)

  -- the later of both
  pub moment_skips : {f : Event} → f ≡ asked_at e τ → {a b r : ℕ} → a ≡ next_start s f → b ≡ room_from s f → r ≡ max a b → Skips s e τ r
  moment_skips {f} is {a} {b} {r} first second later =
      let x : Skips s e τ a = rw (first, is) start_skips in
      let y : Skips s e τ b = rw (second, is) room_skips in
      record {
        high = omega (arith, x.high, y.high);
        refused = λ υ lo hi.
            ⊎_elim (λ z. x.refused υ lo (ltb-true υ a z)) (λ z. y.refused υ lo (omega (arith, ltb-false υ a z))) (decide (ltb υ a));
      }

  pub early_skips : (r : ℕ) → r ≡ min s.last (suc event_time_max) → Skips s e τ r
  early_skips r is =
      record {
        high = omega arith;
        refused = λ υ lo hi.
            fails (is_accepted_at s e υ) (λ h. omega (arith, clears_last s e υ (eqb-true (answered s (asked_at e υ)) 0 h)));
      }

  -- 4 is answered to openings alone
  pub taken_there : (a : Act) → call_answer s e.title τ a ≡ id_taken → (υ : ℕ) →
      hits_of id_taken (order_of a (tests_in s e.title υ a)) ≡ is_there (title_at s e.title) υ
  unfolding call_answer hits_of distinct is_listed
  taken_there (Opens f k) is υ = refl
  taken_there (Changes k) is υ =
      absurd (false≢true (first_hit_lem (order_of (Changes k) (tests_in s e.title τ (Changes k))) refl id_taken (omega arith) is).0)
  taken_there Closes is υ =
      absurd (false≢true (first_hit_lem (order_of Closes (tests_in s e.title τ Closes)) refl id_taken (omega arith) is).0)
  taken_there (Doors b) is υ =
      absurd (false≢true (first_hit_lem (order_of (Doors b) (tests_in s e.title τ (Doors b))) refl id_taken (omega arith) is).0)

  pub id_skips : answered s (asked_at e τ) ≡ id_taken → Skips s e τ (id_free_from s e.title τ)
  unfolding id_free_from
  id_skips is =
      picked_skips (event_ok s e.title τ) (λ υ. not (is_there (title_at s e.title) υ))
      (λ υ ok. ap not (sym (taken_there e.act is υ) ∙ clears s e υ ok id_taken))

  -- any other refusal stays
  pub never_skips : is_mended (answered s (asked_at e τ)) ≡ false → (answered s (asked_at e τ) ≡ too_early → ⊥) →
      (answered s (asked_at e τ) ≡ id_taken → ⊥) → Skips s e τ (suc event_time_max)
  never_skips lasting late free =
      record {
        high = omega arith;
        refused = λ υ lo hi.
            fails (is_accepted_at s e υ)
            (λ h.
            let n : ℕ = answered s (asked_at e τ) in
            let stays : is_timely n ≡ false =
            either_false (is_mended n) (either (eqb n too_early) (eqb n id_taken)) lasting
            (either_false (eqb n too_early) (eqb n id_taken) (ne_eqb n too_early late) (ne_eqb n id_taken free)) in
            false≢true (sym stays ∙ timely s e τ υ lo clock (eqb-true (answered s (asked_at e υ)) 0 h)));
      }

-- ---- from try to try

-- from its own time on an event is refused at every time before x
pub record Tried (s : State) (e : Event) (x : ℕ) : Type 0 where
  pub after : e.time ≤ x
  pub high : x ≤ max e.time (suc event_time_max)
  pub refused : (υ : ℕ) → e.time ≤ υ → υ < x → is_accepted_at s e υ ≡ false

pub tried_none : (s : State) (e : Event) → Tried s e e.time
tried_none s e = record { after = omega arith; high = omega arith; refused = λ υ lo hi. absurd (omega arith) }

module _ (s : State) (e : Event) (x : ℕ) where
  pub tried_early : both (leb x event_time_max) (not (is_accepted_at s e x)) ≡ true → x ≤ event_time_max
  tried_early h = leb-true x event_time_max (both_l (leb x event_time_max) (not (is_accepted_at s e x)) h)

  pub tried_on : Tried s e x → both (leb x event_time_max) (not (is_accepted_at s e x)) ≡ true → {r y : ℕ} → Skips s e x r → y ≡ max r (x + 1) →
      Tried s e y
  tried_on tried h {r} {y} skips is =
      let early = tried_early h in
      let not-here : is_accepted_at s e x ≡ false = not-true (is_accepted_at s e x) (both_r (leb x event_time_max) (not (is_accepted_at s e x)) h) in
      record {
        after = omega (arith, tried.after);
        high = omega (arith, skips.high);
        refused = λ υ lo hi.
            ⊎_elim (λ b. tried.refused υ lo (ltb-true υ x b))
            (λ b.
            let from : x ≤ υ = ltb-false υ x b in
            ⊎_elim (λ c. skips.refused υ from (ltb-true υ r c))
            (λ c.
            let here : υ ≡ x = le_antisymm (omega (arith, ltb-false υ r c)) from in
            ap (is_accepted_at s e) here ∙ not-here)
            (decide (ltb υ r)))
            (decide (ltb υ x));
      }

  -- where the clock has no such time, or it is accepted there, it is the earliest
  pub tried_over : Tried s e x → both (leb x event_time_max) (not (is_accepted_at s e x)) ≡ false → x ≡ first_accepted s e
  unfolding first_accepted
  tried_over tried h =
      ⊎_elim
      (λ b.
      let late : event_time_max < e.time = ltb-true event_time_max e.time b in
      le_antisymm (omega (arith, tried.high)) tried.after ∙ sym (earliest_past (is_accepted_at s e) e.time late))
      (λ b.
      let on : e.time ≤ event_time_max = ltb-false event_time_max e.time b in
      found (is_accepted_at s e) e.time x
      (record {
        after = tried.after;
        high = omega (arith, tried.high);
        hit = λ early. not-false (is_accepted_at s e x) (rw (le-leb x event_time_max early) at h);
        none = λ υ lo until _. tried.refused υ lo until;
      }))
      (decide (ltb event_time_max e.time))

-- ---- the answer

module _ (s : State) (e : Event) (x : ℕ) (is : x ≡ first_accepted s e) where
  pub when_on : x ≤ event_time_max → (0 ≡ when_answer s e) × (x ≡ when_time s e)
  unfolding when_answer when_time
  when_on early = rw (← is, le-leb x event_time_max early) (refl, refl)

  pub when_past : event_time_max < x → {n : ℕ} → n ≡ answered s (asked_at e (max e.time s.last)) → {q : ℕ} →
      q ≡ pick (is_mended n) past_clock n → (q ≡ when_answer s e) × (0 ≡ when_time s e)
  unfolding when_answer when_time
  when_past late {n} said {q} lasts = rw (← is, lt-leb x event_time_max late, ← said) (lasts, refl)
