-- What a question of all titles at a time answers: status over records, and lanes held (01, "Numbers that calls give back"); and
-- from when on a title may change again (02, 9).
use Rattle.std.specs.Prelude.{ℕ, Bool, false, not, List, leb, ltb, eqb}
use Rattle.rules.specs.Limits.{both, id_max, asked_max}
use Rattle.rules.specs.Refusals.{pick, Rule, first_hit, behind, wrong_rows}
use Rattle.story.specs.declared.State.{State}
use Rattle.story.specs.Orders.{status_order}
use Rattle.story.specs.Kept.{absent_mode, title_at, state_ok, settled_at}

-- with the question's other numbers within their limits or not: status's order without its rows
abbrev pub asked_rules : State → ℕ → Bool → List Rule
asked_rules s τ others =
    behind wrong_rows (status_order false (not (both (state_ok s) (both (leb τ asked_max) others))) (ltb τ s.last))

unfoldable pub asked_answer : State → ℕ → Bool → ℕ
asked_answer s τ others = first_hit (asked_rules s τ others)

-- the moment from which on the title of an id may change again; 0 where there is none, or the state is outside its limits
unfoldable pub settled_in : State → ℕ → ℕ
settled_in s i =
    pick (both (state_ok s) (leb i id_max))
    (pick (eqb (title_at s i).mode absent_mode) 0 (settled_at (title_at s i)))
    0
