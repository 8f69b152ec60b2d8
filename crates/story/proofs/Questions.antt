-- Lane questions and status are answered from the state as the sequence says, for every time that the call takes.
-- Rests on `Told` and on what is read off a title.
use mathlib.Core.Path.{◌≡◌, refl, sym, ap, ◌∙◌}
use mathlib.Core.Bool.{Bool, true, false, not, false≢true}
use mathlib.Core.Logic.{⊎_elim}
use mathlib.Core.List.{List}
use Prim.Native.Nat.{ℕ, zero, suc, ◌-◌, ◌≤◌, ◌<◌}
use native.Mathlib.Omega.{arith}
use lib.Dec.{ltb, leb, eqb}
use borrow.Author.Tests.{ltb-true, ltb-false, lt-ltb, le-ltb, leb-true, eq-eqb, ne_eqb, not-false}
use Rattle.rules.specs.Limits.{both, pool_max, id_max, lane_max, asked_max, titles_max}
use Rattle.rules.specs.Refusals.{pick, outside_limits, too_early, not_there, wrong_rows}
use Rattle.rules.specs.Search.{after}
use Rattle.rules.proofs.Tests.{decide, both_l, both_r}
use Rattle.rules.proofs.Search
use Rattle.rules.proofs.Refusals.{hits_of, numbered, cleared, hit_same}
use Rattle.story.specs.declared.Title.{Title}
use Rattle.story.specs.declared.State.{State}
use Rattle.story.specs.Life.{Life, is_active, dropped_at, reach, owes, cell, is_held}
use Rattle.story.specs.Kept.{clear_mark, held_mark, title_at, state_ok, tick_at, ruling, shows}
use Rattle.story.specs.Calls.{lane_held, lane_answer, lane_shows, status_answer, status_count, status_held}
use Rattle.story.specs.Calls.{status_mark}
use Rattle.story.specs.declared.Event.{Event}
use Rattle.story.specs.Story.{unopened, life_of, latest_of, last_time, tick_in, count_in, air_in, is_held_in}
use Rattle.story.specs.Story.{held_in, is_marked_in, lane_rules_to, lane_answer_to, status_answer_to}
use Rattle.story.proofs.Held.{held_sending}
use Rattle.story.proofs.Stored.{life_in}
use Rattle.story.proofs.Kept.{last_tick, later, held_kept_lem, shows_kept, mode_some}
use Rattle.story.proofs.Tells.{TellsTitle, absent, present, owes_none, count_told, held_told}
use Rattle.story.proofs.Tells.{open_some, closed_none}
use Rattle.story.proofs.Runs.{Told, sound_state}

-- a lane that no count up to a tick has is not held then
pub no_lane : (L : Life) (l n : ℕ) → ((u : ℕ) → u ≤ n → L.rule u ≤ l) → is_held L l n ≡ false
unfolding dropped_at is_active owes after
no_lane L l n off =
    let quiet : (u : ℕ) → u ≤ n → is_active L l u ≡ false = λ u b. le-ltb l (L.rule u) (off u b) in
    let d : dropped_at L l n ≡ 0 = Search.after_flat (is_active L l) 0 n (omega arith) (λ u lo hi. quiet u (omega arith)) in
    held_sending L l n (quiet n (omega arith)) ∙ rw (d, owes_none L l (reach L.film.cap)) (le-ltb (n - 0) 0 (omega arith))

-- the latest event of a title
pub last_told : (L : Life) (m : ℕ) (t : Title) → TellsTitle L m t → t.last ≡ m
last_told L m t (absent e f g) = ap (λ (x : Title). x.last) g ∙ sym f
last_told L m t (present r e f p) = sym f

-- whether a lane is held
pub lane_held_told : (L : Life) (m : ℕ) (t : Title) (l τ : ℕ) → TellsTitle L m t → m ≤ τ →
    lane_held t l τ ≡ is_held_in L l τ
unfolding tick_in tick_at
lane_held_told L m t l τ (absent e f g) le =
    rw g (sym (rw e (no_lane unopened l (tick_in unopened τ) (λ u b. omega arith))))
lane_held_told L m t l τ (present r e f p) le =
    rw (mode_some t r p, e)
    (⊎_elim
    (λ x. rw x (sym (held_kept_lem t r p l (tick_at t τ) (ltb-true l t.film.cap x) (later t r p τ (omega arith)))))
    (λ x.
    rw x
    (sym (no_lane (life_in t r) l (tick_at t τ) (λ u b. omega (arith, ltb-false l t.film.cap x, p.ruled.high u)))))
    (decide (ltb l t.film.cap)))

-- what it shows
pub lane_shows_told : (L : Life) (m : ℕ) (t : Title) (l τ : ℕ) → TellsTitle L m t → m ≤ τ → is_held_in L l τ ≡ true →
    air_in L l τ ≡ cell (shows t l (tick_at t τ))
unfolding tick_in tick_at
lane_shows_told L m t l τ (absent e f g) le h =
    absurd (false≢true (sym (no_lane unopened l (tick_in unopened τ) (λ u b. omega arith)) ∙ rw e at h))
lane_shows_told L m t l τ (present r e f p) le h =
    let held : is_held (life_in t r) l (tick_at t τ) ≡ true = rw e at h in
    rw e
    (shows_kept t r p l (tick_at t τ)
    (⊎_elim (λ x. ltb-true l t.film.cap x)
    (λ x.
    let free : is_held (life_in t r) l (tick_at t τ) ≡ false =
    no_lane (life_in t r) l (tick_at t τ) (λ u b. omega (arith, ltb-false l t.film.cap x, p.ruled.high u)) in
    absurd (false≢true (sym free ∙ held)))
    (decide (ltb l t.film.cap)))
    (later t r p τ (omega arith)) held)

-- a mark within its limit is the number of its test
mark_number : (n : ℕ) → n ≤ held_mark → n ≡ pick (eqb n held_mark) 1 0
mark_number zero h = refl
mark_number (suc zero) h = refl
mark_number (suc (suc n)) h = absurd (omega arith)

-- the mark that status shows
mark_told : (L : Life) (m : ℕ) (t : Title) (τ : ℕ) → TellsTitle L m t → m ≤ τ →
    pick (eqb (ruling t) 0) clear_mark t.mark ≡ pick (is_marked_in L τ) 1 0
unfolding tick_in tick_at ruling
mark_told L m t τ (absent e f g) le = rw (e, g) refl
mark_told L m t τ (present r e f p) le =
    let now : last_tick t ≤ tick_at t τ = later t r p τ (omega arith) in
    let count : r.rule (tick_at t τ) ≡ ruling t = p.steady (tick_at t τ) now in
    rw (e, count)
    (⊎_elim
    (λ x.
    let some : 0 < ruling t = open_some t r p x in
    rw (ne_eqb (ruling t) 0 (λ z. omega arith), lt-ltb 0 (ruling t) some, p.doors x (tick_at t τ) now)
    (mark_number t.mark p.sized.mark_high))
    (λ x. rw (closed_none t x) refl)
    p.mode)

module _ (lanes : ℕ) (high : lanes ≤ pool_max) (es : List Event) (s : State) (w : Told lanes es s) where
  pub lane_answer_told : (i l τ : ℕ) → lane_answer s i l τ ≡ lane_answer_to es i l τ
  unfolding lane_answer lane_answer_to
  lane_answer_told i l τ =
      hit_same outside_limits _ _ _ _ (rw (sound_state lanes high es s w) refl)
      (λ t1.
      let rest : Bool = both (leb l lane_max) (leb τ asked_max) in
      let nums : both (leb i id_max) rest ≡ true =
      both_r (state_ok s) (both (leb i id_max) rest) (not-false (both (state_ok s) (both (leb i id_max) rest)) t1) in
      let told = w.tells.title i (omega (arith, leb-true i id_max (both_l (leb i id_max) rest nums))) in
      let last : (title_at s i).last ≡ latest_of es i = last_told (life_of es i) (latest_of es i) (title_at s i) told in
      hit_same too_early _ _ _ _ (ap (λ x. ltb τ x) last)
      (λ t2.
      hit_same not_there _ _ _ _
      (ap not (lane_held_told (life_of es i) (latest_of es i) (title_at s i) l τ told (omega (arith, ltb-false τ (title_at s i).last t2))))
      (λ t3. refl)))

  -- a question that is answered clears every refusal
  lane_clears : (i l τ : ℕ) → lane_answer s i l τ ≡ 0 → (n : ℕ) → hits_of n (lane_rules_to es i l τ) ≡ false
  unfolding lane_answer_to numbered
  lane_clears i l τ h = cleared (lane_rules_to es i l τ) refl (sym (lane_answer_told i l τ) ∙ h)

  -- it was not too early for its id
  pub lane_late : (i l τ : ℕ) → lane_answer s i l τ ≡ 0 → latest_of es i ≤ τ
  unfolding hits_of
  lane_late i l τ h = ltb-false τ (latest_of es i) (lane_clears i l τ h too_early)

  -- and the cell that is answered is the cell on air
  pub lane_cell_told : (i l τ : ℕ) → lane_answer s i l τ ≡ 0 → air_in (life_of es i) l τ ≡ cell (lane_shows s i l τ)
  unfolding hits_of lane_shows
  lane_cell_told i l τ h =
      let clear = lane_clears i l τ h in
      let rest : Bool = both (leb l lane_max) (leb τ asked_max) in
      let nums : both (leb i id_max) rest ≡ true = not-false (both (leb i id_max) rest) (clear outside_limits) in
      let told = w.tells.title i (omega (arith, leb-true i id_max (both_l (leb i id_max) rest nums))) in
      lane_shows_told (life_of es i) (latest_of es i) (title_at s i) l τ told (lane_late i l τ h)
      (not-false (is_held_in (life_of es i) l τ) (clear not_there))
      ∙ ap cell (sym (rw (eq-eqb (lane_answer s i l τ) 0 h) refl))

  pub status_answer_told : (τ : ℕ) (ids : List ℕ) (m h d : ℕ) →
      status_answer s τ ids m h d ≡ status_answer_to es τ ids m h d
  unfolding status_answer status_answer_to
  status_answer_told τ ids m h d =
      hit_same wrong_rows _ _ _ _ refl
      (λ t1.
      hit_same outside_limits _ _ _ _ (rw (sound_state lanes high es s w) refl)
      (λ t2. hit_same too_early _ _ _ _ (ap (λ x. ltb τ x) w.tells.last) (λ t3. refl)))

  pub status_count_told : (i τ : ℕ) → i < titles_max → last_time es ≤ τ → status_count s i ≡ count_in (life_of es i) τ
  status_count_told i τ id late =
      sym (count_told (life_of es i) (latest_of es i) (title_at s i) τ (w.tells.title i id) (omega (arith, w.tells.newest i)))

  pub status_held_told : (i τ : ℕ) → i < titles_max → last_time es ≤ τ → status_held s i τ ≡ held_in (life_of es i) τ
  status_held_told i τ id late =
      sym (held_told (life_of es i) (latest_of es i) (title_at s i) τ (w.tells.title i id) (omega (arith, w.tells.newest i)))

  pub status_mark_told : (i τ : ℕ) → i < titles_max → last_time es ≤ τ →
      status_mark s i ≡ pick (is_marked_in (life_of es i) τ) 1 0
  status_mark_told i τ id late =
      mark_told (life_of es i) (latest_of es i) (title_at s i) τ (w.tells.title i id) (omega (arith, w.tells.newest i))
