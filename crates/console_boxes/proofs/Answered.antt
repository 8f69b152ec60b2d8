-- What the calls of a box gave, put behind a place, is what the definitions say: a cell or a plan behind a 0, or the
-- refusal and why.
use Prim.Native.Nat.{ℕ, ◌^◌, ◌≤◌}
use mathlib.Core.Path.{◌≡◌, refl, ap, ◌∙◌}
use mathlib.Core.Bool.{Bool, true, false}
use mathlib.Core.List.{List, [], ◌++◌}
use native.Mathlib.Omega.{arith}
use borrow.Author.Tests.{eqb-true}
use lib.Dec.{eqb}
use Rattle.rules.specs.Refusals.{pick, done}
use Rattle.story.specs.declared.State.{State}
use Rattle.story.specs.Calls.{lane_answer, lane_shows}
use Rattle.plans.specs.Row.{Planned}
use Rattle.plans.specs.Forward.{blocks}
use Rattle.plans.specs.Row.{SkipPlanned}
use Rattle.rom.specs.Lanes.{rom_lane_answer, rom_lane_shows}
use Rattle.rom.specs.Plan.{RomPlanned}
use Rattle.text.specs.declared.page.Page.{Page}
use Rattle.text.specs.Pages.{Puts}
use Rattle.words.specs.Words.{missed}
use Rattle.console_answers.specs.Entries.{each}
use Rattle.console_reasons.specs.Lanes.{lane_reason}
use Rattle.console_answers.specs.Outcomes.{done_text, with_text, value_text}
use Rattle.console_boxes.specs.Lanes.{lane_text, rom_lane_reason, rom_lane_text}
use Rattle.console_boxes.specs.Plan.{cells_text, planned_text, plan_text, rom_plan_text, skip_plan_text}

module _ {p r : Page} where
  pub lane_told_lem : (s : State) (i l τ a v : ℕ) → a ≡ lane_answer s i l τ → v ≡ lane_shows s i l τ
      → Puts p (value_text a v 0 ++ lane_reason a s i l τ) r → Puts p (lane_text s i l τ) r
  unfolding lane_text
  lane_told_lem s i l τ a v e f g = rw (← e, ← f) g

  pub rom_lane_told : (s : State) (i l τ a v : ℕ) → a ≡ rom_lane_answer s i l τ → v ≡ rom_lane_shows s i l τ
      → Puts p (value_text a v 0 ++ rom_lane_reason a s i l τ) r → Puts p (rom_lane_text s i l τ) r
  unfolding rom_lane_text
  rom_lane_told s i l τ a v e f g = rw (← e, ← f) g

-- the cells of a plan stand behind a 0, and none behind a refusal
cells_pick : (b : Bool) (row : List ℕ) (n : ℕ) → cells_text row (pick b n 0) ≡ pick b (cells_text row n) []
unfolding each
cells_pick true row n = refl
cells_pick false row n = refl

cells_behind : (a x m n : ℕ) (row : List ℕ) → m ≡ pick (eqb a done) n 0
    → done_text a x ++ cells_text row m ≡ with_text a x (cells_text row n)
unfolding with_text
cells_behind a x m n row e =
    ap (λ (k : ℕ). done_text a x ++ cells_text row k) e ∙ ap (λ (t : List ℕ). done_text a x ++ t) (cells_pick (eqb a done) row n)

-- they have room where the call that answered had
pub cells_fit : (a m n size : ℕ) → m ≡ pick (eqb a done) n 0 → (a ≡ done → n ≤ size) → m ≤ size
cells_fit a m n size e h = go (eqb a done) refl
  where
    go : (b : Bool) → eqb a done ≡ b → m ≤ size
    go true t =
        let most : m ≡ n = rw t at e in
        omega (arith, h (eqb-true a done t))
    go false t =
        let none : m ≡ 0 = rw t at e in
        omega arith

-- the plan of the computing call, and that of the small box
module _ (A K k a n x m : ℕ) (row row' : List ℕ) (f : x ≡ missed n A K) (g : m ≡ pick (eqb n done) (2 ^ K) 0) where
  planned : done_text n x ++ cells_text row' m ≡ planned_text n A K row'
  unfolding planned_text
  planned = rw f (cells_behind n (missed n A K) m (2 ^ K) row' g)

  pub padded_told : Planned A K k a row n row' → done_text n x ++ cells_text row' m ≡ plan_text A K k a row
  unfolding plan_text
  padded_told e = rw (← e.answer, ← e.left) planned

  pub small_told : RomPlanned A K k a row n row' → done_text n x ++ cells_text row' m ≡ rom_plan_text A K k a row
  unfolding rom_plan_text
  small_told e = rw (← e.answer, ← e.left) planned

-- the plan of a skip-forward title's box
pub forward_told : (k a n m : ℕ) (row row' : List ℕ) → m ≡ pick (eqb n done) (blocks k) 0 → SkipPlanned k a row n row'
    → done_text n 0 ++ cells_text row' m ≡ skip_plan_text k a row
unfolding skip_plan_text
forward_told k a n m row row' g e = rw (← e.answer, ← e.left) (cells_behind n 0 m (blocks k) row' g)
