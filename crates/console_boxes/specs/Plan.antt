-- The plan of a box (docs/CONSOLE.md, "Commands": plan, romplan and skipplan).
use Rattle.std.specs.Prelude.{ℕ, ◌≤◌, min, ◌≡◌, Bool, List, [], ◌∷◌, ◌++◌, eqb, ltb, length, get_or, take, replicate}
use Rattle.rules.specs.Limits.{both}
use Rattle.rules.specs.Refusals.{pick, outside_limits}
use Rattle.grid.specs.Ticks.{cells}
use Rattle.plans.specs.Padded.{plan_answer, never}
use Rattle.plans.specs.Row as plan
use Rattle.plans.specs.Forward.{blocks, skip_answer}
use Rattle.plans.specs.Row.{skip_row}
use Rattle.rom.specs.Plan.{rom_plan_answer, rom_plan_row}
use Rattle.rom_table.specs.Table.{is_other}
use Rattle.text.specs.Texts.{text}
use Rattle.console_commands.specs.Commands.{places_most, do_skip_plan, do_rom_plan}
use Rattle.console_lines.specs.declared.lines.Line.{Line}
use Rattle.console_lines.specs.Lines.{number_in}
use Rattle.words.specs.Words.{missed}
use Rattle.console_answers.specs.Entries.{entry, each}
use Rattle.console_answers.specs.Outcomes.{done_text, with_text}
use Rattle.console_limits.specs.Asked.{limit_reason}
use Rattle.console_boxes.specs.Small.{small_text}
use Rattle.console_boxes.specs.declared.calls.Told.{Told}

-- a cell of a plan, `-` where it is never taken
unfoldable pub cell_entry : ℕ → List ℕ
cell_entry n = pick (eqb n never) (text " -") (entry n)

-- the first n cells of a plan
abbrev pub cells_text : List ℕ → ℕ → List ℕ
cells_text row n = each (λ (i : ℕ). cell_entry (get_or row i 0)) n

-- the 2^K numbers of a plan in a row; a refusal names the line's own floor or cap
unfoldable pub planned_text : ℕ → ℕ → ℕ → List ℕ → List ℕ
planned_text n A K row = with_text n (missed n A K) (cells_text row (cells K))

-- of the plan that a lent row takes
unfoldable pub plan_text : ℕ → ℕ → ℕ → ℕ → List ℕ → List ℕ
plan_text A K k a row = planned_text (plan_answer A K k a (length row)) A K (plan.plan_row A K k a row)

unfoldable pub rom_plan_text : ℕ → ℕ → ℕ → ℕ → List ℕ → List ℕ
rom_plan_text A K k a row = planned_text (rom_plan_answer A K k a (length row)) A K (rom_plan_row A K k a row)

-- the 2^(k-1) numbers of a skip-forward title's plan
unfoldable pub skip_plan_text : ℕ → ℕ → List ℕ → List ℕ
skip_plan_text k a row = with_text (skip_answer k a (length row)) 0 (cells_text (skip_row k a row) (blocks k))

-- what a plan's call leaves: its answer, and behind it the first cells of the row, as many as it has
pub record PlanFilled (text : List ℕ) (answer : ℕ) (t : Told) (row : List ℕ) : Type 0 where
  pub answered : t.answer ≡ answer
  pub told : done_text t.answer t.named ++ cells_text row t.cells ≡ text
  pub room : t.cells ≤ length row

-- by the line's command, over a row that is lent
unfoldable pub plan_over : Line → List ℕ → List ℕ
plan_over l row =
    pick (eqb l.command do_skip_plan) (skip_plan_text (number_in l 0) (number_in l 1) row)
    (pick (eqb l.command do_rom_plan) (rom_plan_text (number_in l 0) (number_in l 1) (number_in l 2) (number_in l 3) row)
    (plan_text (number_in l 0) (number_in l 1) (number_in l 2) (number_in l 3) row))

-- what it is answered, with room for n cells
unfoldable pub answer_over : Line → ℕ → ℕ
answer_over l n =
    pick (eqb l.command do_skip_plan) (skip_answer (number_in l 0) (number_in l 1) n)
    (pick (eqb l.command do_rom_plan) (rom_plan_answer (number_in l 0) (number_in l 1) (number_in l 2) (number_in l 3) n)
    (plan_answer (number_in l 0) (number_in l 1) (number_in l 2) (number_in l 3) n))

-- the numbers of the title and of the box in a line
unfoldable pub plan_numbers : Line → List ℕ
plan_numbers l =
    pick (eqb l.command do_skip_plan) (number_in l 0 ∷ number_in l 1 ∷ [])
    (number_in l 0 ∷ number_in l 1 ∷ number_in l 2 ∷ number_in l 3 ∷ [])

-- a refusal says why: the small box asks for its own floor and cap first
abbrev pub is_other_plan : ℕ → Line → Bool
is_other_plan a l = both (eqb a outside_limits) (both (eqb l.command do_rom_plan) (is_other (number_in l 0) (number_in l 1)))

unfoldable pub plan_reason : ℕ → Line → List ℕ
plan_reason a l = pick (is_other_plan a l) small_text (limit_reason a l.command (plan_numbers l))

unfoldable pub plan_said : Line → List ℕ → List ℕ
plan_said l row = plan_over l row ++ plan_reason (answer_over l (length row)) l

-- where the places stand in a line that asks for a plan: behind the four numbers of a title and a box, or behind count and
-- arrival
unfoldable pub place_of : ℕ → ℕ
place_of c = pick (eqb c do_skip_plan) 2 4

-- the places that a plan is lent, the most where the line leaves them out
unfoldable pub places_in : Line → ℕ
places_in l = pick (ltb (place_of l.command) l.count) (min (number_in l (place_of l.command)) places_most) places_most

unfoldable pub zeros : ℕ → List ℕ
zeros n = replicate n 0

-- what a line that asks for a plan is answered, over the row that it lends
unfoldable pub plan_in : Line → List ℕ
plan_in l = plan_said l (take (places_in l) (zeros places_most))
