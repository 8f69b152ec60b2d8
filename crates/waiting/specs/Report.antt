-- The report of waits (02, request 1): its refusals in order, and its numbers for the title's life since its latest opening.
use Rattle.std.specs.Prelude.{ℕ, ◌≡◌, Bool, not, List, [], ◌∷◌, leb, ltb, get_or, length}
use Rattle.rules.specs.Limits.{both, within, pool_min, pool_max, id_max, asked_max}
use Rattle.rules.specs.Refusals.{Rule, refuse, first_hit, done, outside_limits, wrong_rows, malformed}
use Rattle.rules.specs.Search.{every}
use Rattle.notice.specs.Log.{is_whole_log}
use Rattle.admissions.specs.Waits.{nobody, Tallied, row_max}
use Rattle.waiting.specs.declared.Report.{Report}
use Rattle.agent.specs.Played.{life_in}

-- every arrival of the row, also of one that is too long
unfoldable pub row_in_limits : List ℕ → Bool
row_in_limits xs = every (λ j. leb (get_or xs j 0) asked_max) (length xs)

-- pool, title and arrivals within their limits
abbrev pub all_in_limits : ℕ → ℕ → List ℕ → Bool
all_in_limits pool title xs = both (within pool_min pool_max pool) (both (leb title id_max) (row_in_limits xs))

abbrev pub report_rules : ℕ → List ℕ → ℕ → List ℕ → List Rule
report_rules pool log title xs =
    refuse outside_limits (not (all_in_limits pool title xs))
    ∷ refuse wrong_rows (ltb row_max (length xs))
    ∷ refuse malformed (not (is_whole_log log))
    ∷ []

unfoldable pub report_answer : ℕ → List ℕ → ℕ → List ℕ → ℕ
report_answer pool log title xs = first_hit (report_rules pool log title xs)

-- beside a refusal the other numbers are 0
abbrev pub refused_report : ℕ → Report
refused_report n = record { answer = n; arrivals = 0; waits = nobody }

-- what the report promises
pub record Reports (pool : ℕ) (log : List ℕ) (title : ℕ) (xs : List ℕ) (r : Report) : Type 0 where
  pub answers : r.answer ≡ report_answer pool log title xs
  pub all_counted : r.answer ≡ done → r.arrivals ≡ length xs
  pub tallied : r.answer ≡ done → Tallied (life_in pool log title) xs (length xs) r.waits
  pub refuses : (r.answer ≡ done → ⊥) → r ≡ refused_report r.answer
