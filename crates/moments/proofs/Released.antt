-- The next release after a time: no lane is released before it, so that as many lanes are held until then.
-- Rests on the laws of searches and of the clock.
use mathlib.Core.Path.{◌≡◌, refl}
use mathlib.Core.Bool.{Bool, true, false}
use mathlib.Core.Logic.{⊎_elim}
use Prim.Native.Nat.{ℕ, zero, suc, ◌+◌, ◌-◌, ◌*◌, ◌/◌, ◌≤◌, ◌<◌, min}
use native.Mathlib.Omega.{arith}
use native.Mathlib.Nat.{div-le_self, div-lt_iff_lt-mul}
use lib.Dec.{leb, ltb, eqb}
use lib.ListN.{get_or}
use borrow.Author.Tests.{ltb-true, ltb-false, lt-ltb, leb-true, leb-false, le-leb, ne_eqb, eqb-true, eqb-false}
use Rattle.rules.specs.Limits.{both, event_time_max, titles_max}
use Rattle.rules.specs.Refusals.{pick}
use Rattle.rules.specs.Search.{how_many}
use Rattle.rules.proofs.Tests.{decide, both_l, both_r, either_l, either_r, either_out}
use Rattle.rules.proofs.Search
use Rattle.scheme.proofs.Clock.{tick_pos}
use Rattle.story.specs.declared.Title.{Title}
use Rattle.story.specs.declared.State.{State}
use Rattle.story.specs.Kept.{absent_mode, title_tick, title_at, tick_at, ruling, kept_held, title_held, lanes_held}
use Rattle.moments.specs.Searched.{Timed, AllTimed, release_moment, Lessens}
use Rattle.moments.specs.inner.Steps.{sooner_of, lanes_release, title_release, release_in}

-- r is no later than a, comes after τ where a does, and where b does it is no later than b
record Sooner (τ a b r : ℕ) : Type 0 where
  pub low : τ < a → τ < r
  pub first : r ≤ a
  pub second : τ < b → r ≤ b

sooner_of_lem : (τ a b : ℕ) → Sooner τ a b (sooner_of τ a b)
unfolding sooner_of
sooner_of_lem τ a b =
    ⊎_elim
    (λ h. rw h (record { low = λ l. l; first = omega arith; second = λ l. absurd (omega (arith, leb-true b τ h)) }))
    (λ h. rw h (record { low = λ l. omega (arith, leb-false b τ h); first = omega arith; second = λ l. omega arith }))
    (decide (leb b τ))

module _ (t : Title) (τ a : ℕ) where
  pub lanes_first : (n : ℕ) → lanes_release t τ a n ≤ a
  unfolding lanes_release
  lanes_first zero = omega arith
  lanes_first (suc n) =
      let s = sooner_of_lem τ (lanes_release t τ a n) (release_moment t n) in
      omega (arith, s.first, lanes_first n)

  pub lanes_low : (n : ℕ) → τ < a → τ < lanes_release t τ a n
  unfolding lanes_release
  lanes_low zero l = l
  lanes_low (suc n) l = (sooner_of_lem τ (lanes_release t τ a n) (release_moment t n)).low (lanes_low n l)

  lanes_each : (n l : ℕ) → l < n → τ < release_moment t l → lanes_release t τ a n ≤ release_moment t l
  unfolding lanes_release
  lanes_each zero l b h = absurd (omega arith)
  lanes_each (suc n) l b h =
      let s = sooner_of_lem τ (lanes_release t τ a n) (release_moment t n) in
      ⊎_elim (λ below. omega (arith, s.first, lanes_each n l below h))
      (λ e. rw e (s.second (rw e at h)))
      (Search.below_suc l n b)

-- the same of a slot; one without a title releases nothing
module _ (t : Title) (τ a : ℕ) where
  title_first : title_release t τ a ≤ a
  unfolding title_release
  title_first = go (eqb t.mode absent_mode)
    where
      go : (b : Bool) → pick b a (lanes_release t τ a t.film.cap) ≤ a
      go true = omega arith
      go false = lanes_first t τ a t.film.cap

  title_low : τ < a → τ < title_release t τ a
  unfolding title_release
  title_low l = go (eqb t.mode absent_mode)
    where
      go : (b : Bool) → τ < pick b a (lanes_release t τ a t.film.cap)
      go true = l
      go false = lanes_low t τ a t.film.cap l

  title_each : (t.mode ≡ absent_mode → ⊥) → (l : ℕ) → l < t.film.cap → τ < release_moment t l → title_release t τ a ≤ release_moment t l
  unfolding title_release
  title_each there l b h = rw (ne_eqb t.mode absent_mode there) (lanes_each t τ a t.film.cap l b h)

module _ (s : State) (τ : ℕ) where
  pub release_high : (n : ℕ) → release_in s τ n ≤ suc event_time_max
  unfolding release_in
  release_high zero = omega arith
  release_high (suc n) = omega (arith, title_first (title_at s n) τ (release_in s τ n), release_high n)

  pub release_low : (n : ℕ) → τ ≤ event_time_max → τ < release_in s τ n
  unfolding release_in
  release_low zero l = omega arith
  release_low (suc n) l = title_low (title_at s n) τ (release_in s τ n) (release_low n l)

  release_each : (n i : ℕ) → i < n → ((title_at s i).mode ≡ absent_mode → ⊥) → (l : ℕ) → l < (title_at s i).film.cap →
      τ < release_moment (title_at s i) l → release_in s τ n ≤ release_moment (title_at s i) l
  unfolding release_in
  release_each zero i b there l c h = absurd (omega arith)
  release_each (suc n) i b there l c h =
      ⊎_elim
      (λ below. omega (arith, title_first (title_at s n) τ (release_in s τ n), release_each n i below there l c h))
      (λ e. rw e (title_each (title_at s n) τ (release_in s τ n) (rw e at there) l (rw e at c) (rw e at h)))
      (Search.below_suc i n b)

-- ---- until the next release

-- a list of n ticks that has not gone at τ has not gone at υ, unless its release comes between
still_sends_lem : (B p τ υ n : ℕ) → 0 < p → τ ≤ event_time_max → (τ - B) / p < n →
    (τ < B + min n (suc event_time_max) * p → υ < B + min n (suc event_time_max) * p) → (υ - B) / p < n
still_sends_lem B p τ υ n pos early h until =
    let m : ℕ = min n (suc event_time_max) in
    let q : (τ - B) / p ≤ τ - B = div-le_self (τ - B) p in
    let x : (τ - B) / p < m = omega arith in
    let y : τ - B < m * p = (div-lt_iff_lt-mul pos).0 x in
    let z : υ < B + m * p = until (omega arith) in
    let w : (υ - B) / p < m = (div-lt_iff_lt-mul pos).1 (omega arith) in
    omega arith

module _ (t : Title) (timed : Timed t) (τ υ : ℕ) (early : τ ≤ event_time_max) where
  lane_steady : (l : ℕ) → (τ < release_moment t l → υ < release_moment t l) → kept_held t l (tick_at t τ) ≡ true →
      kept_held t l (tick_at t υ) ≡ true
  unfolding kept_held tick_at release_moment
  lane_steady l until h =
      let n : ℕ = get_or t.dropped l 0 + get_or t.owed l 0 in
      let p : ℕ = title_tick t in
      let f = timed.film in
      let pos : 0 < p = tick_pos t.film.kind t.film.length t.film.floor t.film.cap (omega (arith, f.sized.low)) f.cut.low f.cut.fit in
      ⊎_elim (λ a. either_l (ltb l (ruling t)) (ltb ((υ - t.opened) / p) n) a)
      (λ b.
      either_r (ltb l (ruling t)) (ltb ((υ - t.opened) / p) n)
      (lt-ltb ((υ - t.opened) / p) n
      (still_sends_lem t.opened p τ υ n pos early (ltb-true ((τ - t.opened) / p) n b) until)))
      (either_out (ltb l (ruling t)) (ltb ((τ - t.opened) / p) n) h)

  -- so a title holds as many lanes where none of its releases comes between
  held_steady : ((l : ℕ) → l < t.film.cap → τ < release_moment t l → υ < release_moment t l) → title_held t τ ≤ title_held t υ
  unfolding title_held
  held_steady until = go (eqb t.mode absent_mode)
    where
      held : ℕ → ℕ
      held x = how_many (λ l. kept_held t l (tick_at t x)) t.film.cap

      go : (b : Bool) → pick b 0 (held τ) ≤ pick b 0 (held υ)
      go true = omega arith
      go false =
          Search.how_many_wider (λ l. kept_held t l (tick_at t τ)) (λ l. kept_held t l (tick_at t υ)) t.film.cap
          (λ l c h. lane_steady l (until l c) h)

  -- as until the next release of its lanes
  pub title_steady : υ < lanes_release t τ (suc event_time_max) t.film.cap → title_held t τ ≤ title_held t υ
  title_steady until =
      held_steady (λ l c after. omega (arith, lanes_each t τ (suc event_time_max) t.film.cap l c after))

empty_held : (t : Title) (τ : ℕ) → t.mode ≡ absent_mode → title_held t τ ≡ 0
unfolding title_held
empty_held t τ none = rw none refl

-- until the next release as many lanes are held
pub lanes_steady : (s : State) → AllTimed s → (τ υ : ℕ) → τ ≤ event_time_max → υ < release_in s τ titles_max →
    lanes_held s τ ≤ lanes_held s υ
unfolding lanes_held
lanes_steady s timed τ υ early until =
    Search.total_le (λ i. title_held (title_at s i) τ) (λ i. title_held (title_at s i) υ) titles_max
    (λ i b.
    ⊎_elim (λ none. omega (arith, empty_held (title_at s i) τ (eqb-true (title_at s i).mode absent_mode none)))
    (λ some.
    let is : (title_at s i).mode ≡ absent_mode → ⊥ = eqb-false (title_at s i).mode absent_mode some in
    held_steady (title_at s i) (timed i b is) τ υ early
    (λ l c after. omega (arith, release_each s τ titles_max i b is l c after)))
    (decide (eqb (title_at s i).mode absent_mode)))

-- ---- from release to release

-- from τ on up to x more than m lanes are held
pub record Waits (held : ℕ → ℕ) (m τ x : ℕ) : Type 0 where
  pub after : τ ≤ x
  pub high : x ≤ suc event_time_max
  pub full : (υ : ℕ) → τ ≤ υ → υ < x → m < held υ

module _ (held : ℕ → ℕ) (m τ : ℕ) where
  pub waits_none : τ ≤ suc event_time_max → Waits held m τ τ
  waits_none le = record { after = omega arith; high = le; full = λ υ lo hi. absurd (omega arith) }

  module _ (x : ℕ) where
    pub full_early : both (leb x event_time_max) (ltb m (held x)) ≡ true → x ≤ event_time_max
    full_early h = leb-true x event_time_max (both_l (leb x event_time_max) (ltb m (held x)) h)

    -- up to a time before which no fewer are held
    pub waits_on : Waits held m τ x → (y : ℕ) → x < y → y ≤ suc event_time_max → ((υ : ℕ) → υ < y → held x ≤ held υ) →
        both (leb x event_time_max) (ltb m (held x)) ≡ true → Waits held m τ y
    waits_on waits y later high steady h =
        let full : m < held x = ltb-true m (held x) (both_r (leb x event_time_max) (ltb m (held x)) h) in
        record {
          after = omega (arith, waits.after);
          high = high;
          full = λ υ lo hi.
              ⊎_elim (λ b. waits.full υ lo (ltb-true υ x b)) (λ b. omega (arith, steady υ hi)) (decide (ltb υ x));
        }

    pub waits_over : Waits held m τ x → both (leb x event_time_max) (ltb m (held x)) ≡ false → Lessens held m τ x
    waits_over waits h =
        record {
          after = waits.after;
          high = waits.high;
          free = λ early. ltb-false m (held x) (rw (le-leb x event_time_max early) at h);
          full = waits.full;
        }
