-- What is read off a stored title is what its life says: at every tick from its latest event on, which lanes are held
-- and what each shows. Rests on `kept_owed_lem`, and on what the events keep true of a title (`Present`).
use mathlib.Core.Path.{◌≡◌, refl, sym, ◌∙◌}
use mathlib.Core.Bool.{true, false, false≢true}
use mathlib.Core.Logic.{◌⊎◌, ⊎_elim}
use Prim.Native.Nat.{ℕ, ◌+◌, ◌-◌, ◌%◌, ◌≤◌, ◌<◌}
use native.Mathlib.Omega.{arith}
use lib.Dec.{ltb, eqb}
use lib.ListN.{get_or, length}
use borrow.Author.Tests.{ltb-true, ltb-false, lt-ltb, le-ltb, ne_eqb}
use Rattle.rules.specs.Limits.{either, asked_max, event_time_max, length_min, length_max, floor_min, floor_max, count_max, steady_max}
use Rattle.rules.specs.Limits.{count_places, lane_places}
use Rattle.rules.specs.Refusals.{pick}
use Rattle.rules.specs.Search.{first}
use Rattle.rules.proofs.Tests.{decide, same}
use Rattle.rules.proofs.Search
use Rattle.scheme.specs.Scheme.{steady_kind}
use Rattle.scheme.proofs.Clock
use Rattle.story.specs.declared.Title.{Title}
use Rattle.story.specs.Life.{Life, Course, usual_cell, is_active, dropped_at, is_owed, reach, owed_within, owes, is_nth}
use Rattle.story.specs.Life.{nth_owed, cell, sends, on_air, is_held}
use Rattle.story.specs.Ruled.{Ruled}
use Rattle.story.proofs.Admissions.{Legal, admits, is_admitting, last_end}
use Rattle.story.specs.Kept.{held_mark, is_shut, is_steady_title, scheme_in, title_tick, tick_at, ruling}
use Rattle.story.specs.Kept.{kept_owed, kept_within, kept_held, title_held, kept_nth}
use Rattle.story.specs.Kept.{sending_tick, shows}
use Rattle.story.specs.Story.{tick_in, held_in}
use Rattle.story.proofs.Clock.{tick_mono}
use Rattle.story.proofs.Owed.{air_sends, air_active}
use Rattle.story.proofs.Held.{dropped_le, held_active, held_sending}
use Rattle.story.proofs.Stored.{admits_le, life_in, kept_owed_lem, EndsAt}

-- the tick of a title's latest event, and the one at which lane l was last dropped, as they are stored
abbrev pub last_tick : Title → ℕ
last_tick t = tick_at t t.last

abbrev pub drop_tick : Title → ℕ → ℕ
drop_tick t l = get_or t.dropped l 0

-- the numbers that an accepted opening gives, and the rows' lengths
pub record Sized (t : Title) : Type 0 where
  pub kind_high : t.film.kind ≤ steady_kind
  pub opened_high : t.opened ≤ event_time_max
  pub length_low : length_min ≤ t.film.length
  pub length_high : t.film.length ≤ length_max
  pub floor_low : floor_min ≤ t.film.floor
  pub floor_high : t.film.floor ≤ pick (is_steady_title t) steady_max floor_max
  pub flat : t.film.kind ≡ steady_kind → t.film.floor ≡ t.film.cap
  pub cap_high : t.film.cap ≤ count_max
  pub count_low : t.film.floor ≤ t.count
  pub count_high : t.count ≤ t.film.cap
  pub mark_high : t.mark ≤ held_mark
  pub last_high : t.last ≤ event_time_max
  pub tuned_high : t.tuned ≤ event_time_max
  pub ends_long : length t.ends ≡ count_places
  pub dropped_long : length t.dropped ≡ lane_places
  pub owed_long : length t.owed ≡ lane_places
  pub ends_high : (j : ℕ) → get_or t.ends j 0 ≤ asked_max
  pub dropped_high : (j : ℕ) → get_or t.dropped j 0 ≤ asked_max
  pub owed_high : (j : ℕ) → get_or t.owed j 0 ≤ asked_max

-- a title, open or closing, whose stored numbers tell the course r up to its latest event, and that r is steady since
pub record Present (t : Title) (r : Course) : Type 0 where
  pub mode : (t.mode ≡ 1) ⊎ (t.mode ≡ 2)
  pub sized : Sized t
  pub since : t.opened ≤ t.last
  pub on_tick : (t.last - t.opened) % title_tick t ≡ 0
  pub steady : (u : ℕ) → last_tick t ≤ u → r.rule u ≡ ruling t
  pub doors : t.mode ≡ 1 → (u : ℕ) → last_tick t ≤ u → r.shut u ≡ is_shut t
  pub ruled : Ruled (life_in t r)
  pub legal : Legal (life_in t r)
  pub ends : (c : ℕ) → t.film.floor ≤ c → c ≤ t.film.cap → get_or t.ends c 0 ≡ last_end (life_in t r) c (last_tick t)
  pub drops : (l : ℕ) → l < t.film.cap → ruling t ≤ l →
      drop_tick t l ≡ dropped_at (life_in t r) l (last_tick t)
  pub owing : (l : ℕ) → l < t.film.cap → ruling t ≤ l →
      get_or t.owed l 0 ≡ owes (life_in t r) l (drop_tick t l)

-- what a held lane that is not active shows
air_held : (L : Life) (l n : ℕ) → is_active L l n ≡ false → is_held L l n ≡ true →
    on_air L l n ≡ cell (usual_cell L l (dropped_at L l n + nth_owed L l (dropped_at L l n) (n - dropped_at L l n)))
unfolding is_held sends
air_held L l n off held =
    let air : on_air L l n ≡ sends L l (dropped_at L l n) (n - dropped_at L l n) = air_sends L l n off in
    let i : ℕ = nth_owed L l (dropped_at L l n) (n - dropped_at L l n) in
    ⊎_elim (λ x. air ∙ rw x refl) (λ x. absurd (false≢true (rw x at (rw air at held))))
    (decide (ltb i (reach L.film.cap)))

module _ (t : Title) (r : Course) (here : Present t r) where
  pub active_kept : (l n : ℕ) → last_tick t ≤ n → is_active (life_in t r) l n ≡ ltb l (ruling t)
  unfolding is_active
  active_kept l n le = rw (here.steady n le) refl

  -- a lane that is not active was dropped at the stored tick
  pub dropped_kept : (l n : ℕ) → l < t.film.cap → ruling t ≤ l → last_tick t ≤ n →
      dropped_at (life_in t r) l n ≡ drop_tick t l
  unfolding dropped_at
  dropped_kept l n lane off le =
      Search.after_flat (is_active (life_in t r) l) (last_tick t) n le
      (λ i lo hi. active_kept l i lo ∙ le-ltb l (ruling t) off)
      ∙ sym (here.drops l lane off)

  -- the lane was not active from its drop on
  pub off_since : (l v : ℕ) → l < t.film.cap → ruling t ≤ l → drop_tick t l ≤ v → r.rule v ≤ l
  unfolding dropped_at is_active
  off_since l v lane off le =
      ⊎_elim
      (λ x.
      let since : dropped_at (life_in t r) l (last_tick t) ≤ v = rw (here.drops l lane off) at le in
      ltb-false l (r.rule v) (Search.after_none (is_active (life_in t r) l) (last_tick t) v since (ltb-true v (last_tick t) x)))
      (λ x. rw (here.steady v (ltb-false v (last_tick t) x)) off)
      (decide (ltb v (last_tick t)))

  -- the stored ends are those before the lane's drop: no count that has the lane has admitted a box since
  pub ends_kept : (l : ℕ) → l < t.film.cap → ruling t ≤ l → EndsAt t r l (drop_tick t l)
  unfolding last_end
  ends_kept l lane off c had low high =
      here.ends c low high
      ∙ Search.after_flat (is_admitting (life_in t r) c) (drop_tick t l) (last_tick t)
      (rw (here.drops l lane off) (dropped_le (life_in t r) l (last_tick t)))
      (λ i lo hi. ne_eqb (admits (life_in t r) i) c (λ e. omega (arith, admits_le (life_in t r) i, off_since l i lane off lo)))

  -- the stored ends say which of its ticks are owed
  pub owed_kept : (l u : ℕ) → l < t.film.cap → ruling t ≤ l → drop_tick t l ≤ u →
      is_owed (life_in t r) l (drop_tick t l) u ≡ kept_owed t l u
  owed_kept l u lane off le =
      kept_owed_lem t r l (drop_tick t l) u here.ruled here.legal lane
      (off_since l (drop_tick t l) lane off (omega arith)) le (ends_kept l lane off)

  pub within_kept : (l n : ℕ) → l < t.film.cap → ruling t ≤ l →
      owed_within (life_in t r) l (drop_tick t l) n ≡ kept_within t l (drop_tick t l) n
  unfolding owed_within kept_within
  within_kept l n lane off =
      Search.how_many_ext (λ o. is_owed (life_in t r) l (drop_tick t l) (drop_tick t l + o))
      (λ o. kept_owed t l (drop_tick t l + o)) n (λ o b. owed_kept l (drop_tick t l + o) lane off (omega arith))

  -- a lane is held, at any tick from the latest event on, as the stored numbers say
  pub held_kept_lem : (l n : ℕ) → l < t.film.cap → last_tick t ≤ n → is_held (life_in t r) l n ≡ kept_held t l n
  unfolding kept_held
  held_kept_lem l n lane le = ⊎_elim on off (decide (ltb l (ruling t)))
    where
      on : ltb l (ruling t) ≡ true →
          is_held (life_in t r) l n
          ≡ either (ltb l (ruling t)) (ltb n (drop_tick t l + get_or t.owed l 0))
      on x = held_active (life_in t r) l n (active_kept l n le ∙ x) ∙ rw x refl

      off : ltb l (ruling t) ≡ false →
          is_held (life_in t r) l n
          ≡ either (ltb l (ruling t)) (ltb n (drop_tick t l + get_or t.owed l 0))
      off x =
          let quiet : ruling t ≤ l = ltb-false l (ruling t) x in
          let d : dropped_at (life_in t r) l n ≡ drop_tick t l = dropped_kept l n lane quiet le in
          let m : ℕ = get_or t.owed l 0 in
          let past : drop_tick t l ≤ n = rw d at (dropped_le (life_in t r) l n) in
          held_sending (life_in t r) l n (active_kept l n le ∙ x)
          ∙ rw (d, x, ← here.owing l lane quiet)
          (same (ltb (n - drop_tick t l) m) (ltb n (drop_tick t l + m))
          (λ h. lt-ltb n (drop_tick t l + m) (omega (arith, ltb-true (n - drop_tick t l) m h)))
          (λ h. lt-ltb (n - drop_tick t l) m (omega (arith, ltb-true n (drop_tick t l + m) h))))

  -- the tick whose cell goes out is found from the stored ends
  pub nth_kept : (l i : ℕ) → l < t.film.cap → ruling t ≤ l →
      nth_owed (life_in t r) l (drop_tick t l) i
      ≡ first (kept_nth t l (drop_tick t l) i) (reach t.film.cap)
  unfolding nth_owed is_nth kept_nth
  nth_kept l i lane off =
      Search.first_ext (is_nth (life_in t r) l (drop_tick t l) i) (kept_nth t l (drop_tick t l) i) (reach t.film.cap)
      (λ o b. rw (owed_kept l (drop_tick t l + o) lane off (omega arith), within_kept l o lane off) refl)

  -- a held lane shows the cell that the stored numbers give
  pub shows_kept : (l n : ℕ) → l < t.film.cap → last_tick t ≤ n → is_held (life_in t r) l n ≡ true →
      on_air (life_in t r) l n ≡ cell (shows t l n)
  unfolding shows sending_tick
  shows_kept l n lane le held = ⊎_elim on off (decide (ltb l (ruling t)))
    where
      on : ltb l (ruling t) ≡ true →
          on_air (life_in t r) l n
          ≡ cell ((scheme_in t).on_lane l (pick (ltb l (ruling t)) n (sending_tick t l n)))
      on x = air_active (life_in t r) l n (active_kept l n le ∙ x) ∙ rw x refl

      off : ltb l (ruling t) ≡ false →
          on_air (life_in t r) l n
          ≡ cell ((scheme_in t).on_lane l (pick (ltb l (ruling t)) n (sending_tick t l n)))
      off x =
          let quiet : ruling t ≤ l = ltb-false l (ruling t) x in
          let still : is_active (life_in t r) l n ≡ false = active_kept l n le ∙ x in
          let d : dropped_at (life_in t r) l n ≡ drop_tick t l = dropped_kept l n lane quiet le in
          air_held (life_in t r) l n still held ∙ rw (d, nth_kept l (n - drop_tick t l) lane quiet, x) refl

  -- a stored title's tick is of some length
  pub tick_some : 0 < title_tick t
  tick_some =
      let z = here.sized in
      Clock.tick_pos t.film.kind t.film.length t.film.floor t.film.cap
      (omega (arith, z.length_low)) (omega (arith, z.floor_low))
      (omega (arith, z.count_low, z.count_high))

  pub later : (τ : ℕ) → t.last ≤ τ → last_tick t ≤ tick_at t τ
  unfolding tick_at
  later τ le = tick_mono t.opened (title_tick t) tick_some t.last τ le

  pub mode_some : eqb t.mode 0 ≡ false
  mode_some = ⊎_elim (λ e. rw e refl) (λ e. rw e refl) here.mode

  -- how many lanes the title holds, at any moment from its latest event on
  pub title_held_kept : (τ : ℕ) → t.last ≤ τ → held_in (life_in t r) τ ≡ title_held t τ
  unfolding held_in title_held tick_in tick_at
  title_held_kept τ le =
      Search.how_many_ext (λ l. is_held (life_in t r) l (tick_at t τ)) (λ l. kept_held t l (tick_at t τ)) t.film.cap
      (λ l b. held_kept_lem l (tick_at t τ) b (later τ le))
      ∙ rw mode_some refl
