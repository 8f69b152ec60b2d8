-- A question of a lent row is the call's own question of the state that the row stands for, and 10 where the row has another length; by a
-- table that was filled the small box's cell is that of its own call.
use Prim.Native.Nat.{ℕ}
use mathlib.Core.Path.{◌≡◌, refl, sym, ap, subst, ◌∙◌}
use mathlib.Core.Bool.{Bool, true, false}
use mathlib.Core.List.{List}
use mathlib.Core.Logic.{⊎_elim}
use native.Mathlib.Omega.{arith}
use lib.Dec.{leb, eqb}
use lib.ListN.{length}
use borrow.Author.Tests.{eq-eqb, ne_eqb, eqb-true, eqb-false}
use Rattle.rules.specs.Limits.{both, id_max}
use Rattle.rules.specs.Refusals.{pick, outside_limits, wrong_rows}
use Rattle.rules.proofs.Tests.{decide}
use Rattle.story.specs.declared.State.{State}
use Rattle.story.specs.Kept.{title_at}
use Rattle.rom_table.specs.Table.{rom_entries, IsTable, table_cell}
use Rattle.rom.specs.Lanes.{is_foreign, rom_lane_answer, rom_lane_shows}
use Rattle.rom.proofs.Answered.{rule_hits, rule_passed, table_lane, table_shown}
use Rattle.planner.specs.Outcome.{Answered}
use Rattle.agent_rows.specs.Layout.{row_length}
use Rattle.agent_rows.specs.Packed.{unpacked, row_sound}
use Rattle.row_calls.specs.Answers.{on_sound, row_lane}
use Rattle.row_questions.specs.Questions.{state_in, row_rom_lane, tick_out, row_rom_shows, RowListed}

-- ---- the small box

module _ (r : List ℕ) (i l τ : ℕ) where
  -- the answer about a row of the right length, by any table of the right length
  abbrev pub sound_answer : ℕ
  sound_answer = on_sound r (rom_lane_answer (unpacked r).state i l τ)

  pub rule_told : both (leb i id_max) (is_foreign (title_at (unpacked r).state i)) ≡ true → outside_limits ≡ sound_answer
  rule_told h = sym (ap (λ a. pick (row_sound r) a outside_limits) (rule_hits (unpacked r).state i l τ h) ∙ both_ways (row_sound r))
    where
      both_ways : (b : Bool) → pick b outside_limits outside_limits ≡ outside_limits
      both_ways true = refl
      both_ways false = refl

  pub passed_told : length r ≡ row_length → both (leb i id_max) (is_foreign (title_at (unpacked r).state i)) ≡ false → row_lane r i l τ ≡ sound_answer
  unfolding row_lane
  passed_told long h = rw (eq-eqb (length r) row_length long, rule_passed (unpacked r).state i l τ h) refl

  -- a question that is answered is the small box's own
  pub told_sound : sound_answer ≡ 0 → rom_lane_answer (unpacked r).state i l τ ≡ 0
  told_sound none =
      ⊎_elim (λ e. rw e at none) (λ e. let one : outside_limits ≡ 0 = rw e at none in absurd (omega (arith, one))) (decide (row_sound r))

module _ (r T : List ℕ) (i l τ : ℕ) where
  pub rom_elsewhere : (length r ≡ row_length → ⊥) → (wrong_rows ≡ row_rom_lane r T i l τ) × (0 ≡ row_rom_shows r T i l τ)
  unfolding row_rom_lane row_rom_shows
  rom_elsewhere n = rw (ne_eqb (length r) row_length n) (refl, refl)

  module _ (long : length r ≡ row_length) where
    pub rom_untabled : (length T ≡ rom_entries → ⊥) → (wrong_rows ≡ row_rom_lane r T i l τ) × (0 ≡ row_rom_shows r T i l τ)
    unfolding row_rom_lane row_rom_shows
    rom_untabled n = rw (eq-eqb (length r) row_length long, ne_eqb (length T) rom_entries n) (refl, refl)

    pub rom_told : length T ≡ rom_entries → sound_answer r i l τ ≡ row_rom_lane r T i l τ
    unfolding row_rom_lane
    rom_told e = rw (eq-eqb (length r) row_length long, eq-eqb (length T) rom_entries e) refl

  pub rom_shown : row_rom_lane r T i l τ ≡ 0 → table_cell T l (tick_out r i l τ) ≡ row_rom_shows r T i l τ
  unfolding row_rom_shows
  rom_shown none = rw none refl

  pub rom_not_shown : (row_rom_lane r T i l τ ≡ 0 → ⊥) → 0 ≡ row_rom_shows r T i l τ
  unfolding row_rom_shows
  rom_not_shown n = rw (ne_eqb (row_rom_lane r T i l τ) 0 n) refl

  -- by a table that was filled the cell is the small box's own, as its own call has it of the row's state
  pub rom_by_table : IsTable T → row_rom_lane r T i l τ ≡ 0
      → (rom_lane_answer (unpacked r).state i l τ ≡ 0) × (row_rom_shows r T i l τ ≡ rom_lane_shows (unpacked r).state i l τ)
  unfolding row_rom_lane
  rom_by_table h none =
      let long : length r ≡ row_length = ⊎_elim (λ e. eqb-true (length r) row_length e) (λ e. absurd (omega (arith, (rom_elsewhere (eqb-false (length r) row_length e)).0, none))) (decide (eqb (length r) row_length)) in
      let own = told_sound r i l τ (rom_told long h.long ∙ none) in
      let by = table_lane T (unpacked r).state i l τ h in
      (own, sym (rom_shown none) ∙ table_shown T (unpacked r).state i l τ (by.0 ∙ own) ∙ by.1)

-- ---- the planner

pub planner_asked : (row : List ℕ) (τ : ℕ) (rates is ts ks : List ℕ) (s : State) (r n : ℕ) (is' ts' ks' : List ℕ) →
    length row ≡ row_length → s ≡ state_in row → Answered s τ rates is ts ks r n is' ts' ks' →
    RowListed row τ rates is ts ks r n is' ts' ks'
planner_asked row τ rates is ts ks s r n is' ts' ks' l e p =
    record {
      wrong_length = λ f. absurd (eqb-false (length row) row_length f l);
      lists = λ f. subst (λ (q : State). Answered q τ rates is ts ks r n is' ts' ks') e p;
    }

pub planner_refused : (row : List ℕ) (τ : ℕ) (rates is ts ks : List ℕ) → (length row ≡ row_length → ⊥) →
    RowListed row τ rates is ts ks wrong_rows 0 is ts ks
planner_refused row τ rates is ts ks n =
    record {
      wrong_length = λ f. (refl, (refl, (refl, (refl, refl))));
      lists = λ f. absurd (n (eqb-true (length row) row_length f));
    }
