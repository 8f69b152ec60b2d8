-- Why a record was refused, where the refusal's number alone does not tell (02, request 13: 3 for a title not opened in the log or
-- last opened as skip-forward, 1 for a cell number that it can't have).
use Rattle.std.specs.Prelude.{ℕ, Bool, not, List, ltb, eqb, get_or, length}
use Rattle.rules.specs.Limits.{both}
use Rattle.rules.specs.Refusals.{pick, done, not_there}
use Rattle.rules.specs.Search.{first}
use Rattle.scheme.specs.Scheme.{steady_kind}
use Rattle.story.specs.Life.{Life}
use Rattle.agent.specs.Played.{life_in}
use Rattle.airing.specs.Air.{is_cell_of, ticks_answer}

-- the title was opened, and last as a skip-forward title
unfoldable pub is_steady_life : Life → Bool
is_steady_life L = both (ltb 0 L.film.cap) (eqb L.film.kind steady_kind)

-- so it was in a whole log, which has no film title of that id
unfoldable pub is_skip_forward : ℕ → List ℕ → ℕ → Bool
is_skip_forward pool log title = both (eqb (ticks_answer pool log title) not_there) (is_steady_life (life_in pool log title))

-- the place of the first number of a record that is no cell of a title with cap K, or the record's end
unfoldable pub first_stray : ℕ → List ℕ → ℕ
first_stray K r = first (λ j. not (is_cell_of K (get_or r j 0))) (length r)

-- of a film title of a log
unfoldable pub stray_in : ℕ → List ℕ → ℕ → List ℕ → ℕ
stray_in pool log title r =
    pick (eqb (ticks_answer pool log title) done) (first_stray (life_in pool log title).film.cap r) (length r)
