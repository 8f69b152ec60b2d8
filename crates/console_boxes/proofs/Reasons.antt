-- What 1 says of a plan and of the small box is so: the number that is named is out of its limits, and none before it. No state is asked for a plan, so
-- that a number is always named; the small box names its floor and cap where these are what it misses. Rests on `console_limits`
-- and `console_reasons` proofs/Naming.
use Prim.Native.Nat.{ℕ}
use mathlib.Core.Path.{◌≡◌, refl, sym, ◌∙◌}
use mathlib.Core.Bool.{true, false}
use mathlib.Core.List.{[], ◌∷◌}
use native.Mathlib.Omega.{arith}
use lib.Dec.{leb}
use Rattle.rules.specs.Limits.{asked_max}
use Rattle.rules.specs.Refusals.{first_hit, outside_limits}
use Rattle.rules.proofs.Tests.{both_r, both_in}
use Rattle.rules.proofs.Refusals.{first_hit_lem, hits_of, distinct, is_listed}
use Rattle.story.specs.declared.State.{State}
use Rattle.story.specs.Kept.{state_ok}
use Rattle.story.specs.Calls.{lane_answer}
use Rattle.plans.specs.Padded.{plan_limits, plan_rules, plan_answer}
use Rattle.plans.specs.Forward.{skip_plan_limits, skip_rules, skip_answer}
use Rattle.rom.specs.Lanes.{rom_lane_answer}
use Rattle.rom.specs.Plan.{rom_plan_answer}
use Rattle.rom_table.specs.Table.{is_other}
use Rattle.console_commands.specs.Commands.{do_lane, do_plan, do_rom_plan, do_skip_plan}
use Rattle.console_limits.specs.Quantities.{bounds_of, bounds_table, quantity_at, column_of, row_of, quantity_table}
use Rattle.console_limits.specs.Outside.{SaysOut}
use Rattle.console_limits.proofs.Naming.{within_all, by_limits}
use Rattle.console_reasons.proofs.Naming.{lane_out}
use Rattle.console_boxes.specs.Lanes.{is_foreign_at}

module _ (A K k a n : ℕ) where
  pub plan_out : plan_answer A K k a n ≡ outside_limits → SaysOut true do_plan (A ∷ K ∷ k ∷ a ∷ [])
  unfolding plan_answer hits_of distinct is_listed quantity_at column_of row_of quantity_table bounds_of bounds_table
  plan_out h =
      by_limits do_plan (A ∷ K ∷ k ∷ a ∷ []) true (plan_limits A K k a)
      (first_hit_lem (plan_rules A K k a n) refl outside_limits (omega arith) h).0
      (λ none.
      let inside = within_all do_plan (A ∷ K ∷ k ∷ a ∷ []) none in
      both_in _ _ (inside 0 (omega arith))
      (both_in _ _ (inside 1 (omega arith))
      (both_in _ _ (inside 2 (omega arith)) (both_r (leb 0 a) (leb a asked_max) (inside 3 (omega arith))))))

  -- of the small box, where its floor and cap are asked for
  pub rom_plan_out : is_other A K ≡ false → rom_plan_answer A K k a n ≡ outside_limits → SaysOut true do_rom_plan (A ∷ K ∷ k ∷ a ∷ [])
  unfolding rom_plan_answer first_hit hits_of distinct is_listed quantity_at column_of row_of quantity_table bounds_of bounds_table
  rom_plan_out own h =
      by_limits do_rom_plan (A ∷ K ∷ k ∷ a ∷ []) true (plan_limits A K k a)
      (first_hit_lem (plan_rules A K k a n) refl outside_limits (omega arith) (rw own at h)).0
      (λ none.
      let inside = within_all do_rom_plan (A ∷ K ∷ k ∷ a ∷ []) none in
      both_in _ _ (inside 0 (omega arith))
      (both_in _ _ (inside 1 (omega arith))
      (both_in _ _ (inside 2 (omega arith)) (both_r (leb 0 a) (leb a asked_max) (inside 3 (omega arith))))))

-- of a skip-forward title's plan
pub skip_plan_out : (k a n : ℕ) → skip_answer k a n ≡ outside_limits → SaysOut true do_skip_plan (k ∷ a ∷ [])
unfolding skip_answer hits_of distinct is_listed quantity_at column_of row_of quantity_table bounds_of bounds_table
skip_plan_out k a n h =
    by_limits do_skip_plan (k ∷ a ∷ []) true (skip_plan_limits k a)
    (first_hit_lem (skip_rules k a n) refl outside_limits (omega arith) h).0
    (λ none.
    let inside = within_all do_skip_plan (k ∷ a ∷ []) none in
    both_in _ _ (inside 0 (omega arith)) (both_r (leb 0 a) (leb a asked_max) (inside 1 (omega arith))))

-- a title that is the box's own is answered as by any lane question
rom_lane_same : (s : State) (i l τ : ℕ) → is_foreign_at s i ≡ false → rom_lane_answer s i l τ ≡ lane_answer s i l τ
unfolding rom_lane_answer lane_answer first_hit
rom_lane_same s i l τ own = rw own refl

-- so are the words behind its refusals: `console_reasons` proofs/Promise `lane_promise`
pub rom_lane_out : (s : State) (i l τ : ℕ) → is_foreign_at s i ≡ false → rom_lane_answer s i l τ ≡ outside_limits
    → SaysOut (state_ok s) do_lane (i ∷ l ∷ τ ∷ [])
rom_lane_out s i l τ own h = lane_out s i l τ (sym (rom_lane_same s i l τ own) ∙ h)
