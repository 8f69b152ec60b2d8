-- What a lane question and the question of lanes held answer of a row that was tested, as their code meets it, and of any other row.
-- Rests on the laws of tests.
use mathlib.Core.Path.{◌≡◌, refl, sym, ◌∙◌}
use mathlib.Core.Bool.{Bool, true, false}
use mathlib.Core.List.{List}
use mathlib.Core.Logic.{⊎_elim}
use Prim.Native.Nat.{ℕ, ◌≤◌, ◌<◌}
use native.Mathlib.Omega.{arith}
use lib.Dec.{leb, eqb}
use lib.ListN.{length}
use borrow.Author.Tests.{lt-ltb, le-ltb, le-leb, lt-leb, eq-eqb, ne_eqb, eqb-true, eqb-false}
use Rattle.rules.specs.Limits.{both, id_max, lane_max, asked_max}
use Rattle.rules.specs.Refusals.{pick, first_hit, outside_limits, too_early, not_there, wrong_rows}
use Rattle.rules.proofs.Tests.{decide}
use Rattle.story.specs.declared.Title.{Title}
use Rattle.story.specs.declared.State.{State}
use Rattle.story.specs.Kept.{absent_mode, title_at, state_ok, scheme_in, tick_at, ruling, kept_held, lanes_held}
use Rattle.story.specs.Calls.{lane_answer, lane_shows}
use Rattle.owed.specs.Shown.{shown_tick}
use Rattle.owed.proofs.Shown.{shown_cell}
use Rattle.questions.specs.Asked.{asked_answer}
use Rattle.scheduler.specs.Outcomes.{held_answer, held_shown}
use Rattle.agent_rows.specs.Layout.{row_length}
use Rattle.agent_rows.specs.Packed.{unpacked, row_sound}
use Rattle.row_calls.specs.Answers.{asked_tick, row_lane, row_tick, row_shows, row_held, row_lanes}
use Rattle.row_calls.specs.inner.Steps.{Tested, Early, lane_told, tick_told}
use Rattle.row_calls.proofs.Rows.{row_out}

-- an answer and what is told beside it, each known by another name
pub told : {a b x y p q : ℕ} → a ≡ x → b ≡ y → (x ≡ p) × (y ≡ q) → (a ≡ p) × (b ≡ q)
told is-a is_b w = (is-a ∙ w.0, is_b ∙ w.1)

pub told_tick : {a b x y p q : ℕ} → a ≡ x → Early y b → (x ≡ p) × (y ≡ q) → (a ≡ p) × Early q b
told_tick is-a is_b w = (is-a ∙ w.0, record { is = is_b.is ∙ w.1; high = is_b.high })

picked_again : (b : Bool) (x y : ℕ) → pick b x y ≡ pick b (pick b x y) y
picked_again true x y = refl
picked_again false x y = refl

-- ---- what a title alone answers

module _ (t : Title) (l τ : ℕ) where
  pub asked_early : τ < t.last → (too_early ≡ lane_told t l τ) × (0 ≡ tick_told t l τ)
  unfolding lane_told tick_told
  asked_early early = rw (lt-ltb τ t.last early) (refl, refl)

  module _ (late : t.last ≤ τ) where
    pub asked_absent : t.mode ≡ absent_mode → (not_there ≡ lane_told t l τ) × (0 ≡ tick_told t l τ)
    unfolding lane_told tick_told
    asked_absent none = rw (le-ltb τ t.last late, eq-eqb t.mode absent_mode none) (refl, refl)

    module _ (there : t.mode ≡ absent_mode → ⊥) where
      pub asked_above : t.film.cap ≤ l → (not_there ≡ lane_told t l τ) × (0 ≡ tick_told t l τ)
      unfolding lane_told tick_told
      asked_above above = rw (le-ltb τ t.last late, ne_eqb t.mode absent_mode there, le-ltb l t.film.cap above) (refl, refl)

      -- where it is known whether the lane is held
      pub asked_held : l < t.film.cap → (tick : ℕ) → tick ≡ tick_at t τ →
          (pick (kept_held t l tick) 0 not_there ≡ lane_told t l τ) × (pick (kept_held t l tick) (shown_tick t l tick) 0 ≡ tick_told t l τ)
      unfolding lane_told tick_told
      asked_held capped tick is-tick =
          rw (le-ltb τ t.last late, ne_eqb t.mode absent_mode there, lt-ltb l t.film.cap capped, ← is-tick) (go (kept_held t l tick))
        where
          go : (b : Bool) →
              (pick b 0 not_there ≡ pick (mathlib.Core.Bool.not b) not_there 0)
              × (pick b (shown_tick t l tick) 0 ≡ pick (eqb (pick (mathlib.Core.Bool.not b) not_there 0) 0) (shown_tick t l tick) 0)
          go true = (refl, refl)
          go false = (refl, refl)

-- an active lane is held
pub active_is_held : (t : Title) (l tick : ℕ) → l < ruling t → kept_held t l tick ≡ true
unfolding kept_held
active_is_held t l tick active = rw (lt-ltb l (ruling t) active) refl

-- ---- what a state answers

module _ (s : State) (i l τ : ℕ) (ok : state_ok s ≡ true) where
  pub lane_in : both (leb i id_max) (both (leb l lane_max) (leb τ asked_max)) ≡ true →
      (lane_told (title_at s i) l τ ≡ lane_answer s i l τ) × (tick_told (title_at s i) l τ ≡ asked_tick s i l τ)
  unfolding lane_answer first_hit lane_told tick_told
  lane_in fits = rw (ok, fits) (refl, refl)

  pub lane_out : both (leb i id_max) (both (leb l lane_max) (leb τ asked_max)) ≡ false →
      (outside_limits ≡ lane_answer s i l τ) × (0 ≡ asked_tick s i l τ)
  unfolding lane_answer first_hit
  lane_out out = rw (ok, out) (refl, refl)

module _ (s : State) (τ : ℕ) (ok : state_ok s ≡ true) where
  pub held_outside : asked_max < τ → (outside_limits ≡ held_answer s τ) × (0 ≡ held_shown s τ)
  unfolding held_answer held_shown asked_answer first_hit
  held_outside out = rw (ok, lt-leb τ asked_max out) (refl, refl)

  module _ (fits : τ ≤ asked_max) where
    pub held_early : τ < s.last → (too_early ≡ held_answer s τ) × (0 ≡ held_shown s τ)
    unfolding held_answer held_shown asked_answer first_hit
    held_early early = rw (ok, le-leb τ asked_max fits, lt-ltb τ s.last early) (refl, refl)

    pub held_told : s.last ≤ τ → (0 ≡ held_answer s τ) × (lanes_held s τ ≡ held_shown s τ)
    unfolding held_answer held_shown asked_answer first_hit
    held_told late = rw (ok, le-leb τ asked_max fits, le-ltb τ s.last late) (refl, refl)

-- ---- what a row answers

module _ (r : List ℕ) (i l τ : ℕ) where
  pub lane_elsewhere : (length r ≡ row_length → ⊥) → (wrong_rows ≡ row_lane r i l τ) × (0 ≡ row_tick r i l τ)
  unfolding row_lane row_tick
  lane_elsewhere other = rw (ne_eqb (length r) row_length other) (refl, refl)

  pub lane_row_in : Tested r → (lane_answer (unpacked r).state i l τ ≡ row_lane r i l τ) × (asked_tick (unpacked r).state i l τ ≡ row_tick r i l τ)
  unfolding row_lane row_tick
  lane_row_in tested =
      rw (eq-eqb (length r) row_length tested.long, tested.sound) (refl, picked_again (eqb (lane_answer (unpacked r).state i l τ) 0) _ 0)

  pub lane_row_out : length r ≡ row_length → both (row_sound r) (state_ok (unpacked r).state) ≡ false →
      (outside_limits ≡ row_lane r i l τ) × (0 ≡ row_tick r i l τ)
  unfolding row_lane row_tick lane_answer first_hit
  lane_row_out long out =
      let one : outside_limits ≡ pick (row_sound r) (lane_answer (unpacked r).state i l τ) outside_limits =
      row_out r (lane_answer (unpacked r).state i l τ) out (λ bad. rw bad refl) in
      rw (eq-eqb (length r) row_length long, ← one) (refl, refl)

-- a lane question of a row that is answered
module _ (r : List ℕ) (i l τ : ℕ) (none : row_lane r i l τ ≡ 0) where
  pub lane_long : length r ≡ row_length
  lane_long =
      ⊎_elim (λ e. eqb-true (length r) row_length e)
      (λ e. absurd (omega (arith, (lane_elsewhere r i l τ (eqb-false (length r) row_length e)).0, none)))
      (decide (eqb (length r) row_length))

  pub lane_answered : lane_answer (unpacked r).state i l τ ≡ 0
  unfolding row_lane
  lane_answered =
      let on-it : pick (row_sound r) (lane_answer (unpacked r).state i l τ) outside_limits ≡ 0 = rw (eq-eqb (length r) row_length lane_long) at none in
      ⊎_elim (λ e. rw e at on-it) (λ e. let one : outside_limits ≡ 0 = rw e at on-it in absurd (omega (arith, one))) (decide (row_sound r))

  pub lane_tick : row_tick r i l τ ≡ shown_tick (title_at (unpacked r).state i) l (tick_at (title_at (unpacked r).state i) τ)
  unfolding row_tick
  lane_tick = rw (none, lane_answered) refl

  -- shows the cell of its tick
  pub lane_cell_shown : (scheme_in (title_at (unpacked r).state i)).on_lane l (row_tick r i l τ) ≡ row_shows r i l τ
  unfolding row_tick row_shows lane_shows
  lane_cell_shown = rw (none, lane_answered) (sym (shown_cell (title_at (unpacked r).state i) l (tick_at (title_at (unpacked r).state i) τ)))

pub lane_not_shown : (r : List ℕ) (i l τ : ℕ) → (row_lane r i l τ ≡ 0 → ⊥) → 0 ≡ row_shows r i l τ
unfolding row_shows
lane_not_shown r i l τ n = rw (ne_eqb (row_lane r i l τ) 0 n) refl

module _ (r : List ℕ) (τ : ℕ) where
  pub held_elsewhere : (length r ≡ row_length → ⊥) → (wrong_rows ≡ row_held r τ) × (0 ≡ row_lanes r τ)
  unfolding row_held row_lanes
  held_elsewhere other = rw (ne_eqb (length r) row_length other) (refl, refl)

  pub held_row_in : Tested r → (held_answer (unpacked r).state τ ≡ row_held r τ) × (held_shown (unpacked r).state τ ≡ row_lanes r τ)
  unfolding row_held row_lanes held_shown
  held_row_in tested =
      rw (eq-eqb (length r) row_length tested.long, tested.sound) (refl, picked_again (eqb (held_answer (unpacked r).state τ) 0) _ 0)

  pub held_row_out : length r ≡ row_length → both (row_sound r) (state_ok (unpacked r).state) ≡ false →
      (outside_limits ≡ row_held r τ) × (0 ≡ row_lanes r τ)
  unfolding row_held row_lanes held_answer asked_answer first_hit
  held_row_out long out =
      let one : outside_limits ≡ pick (row_sound r) (held_answer (unpacked r).state τ) outside_limits =
      row_out r (held_answer (unpacked r).state τ) out (λ bad. rw bad refl) in
      rw (eq-eqb (length r) row_length long, ← one) (refl, refl)
