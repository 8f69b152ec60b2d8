-- The rows of the titles that share the pool, filled one id after the other.
use Rattle.std.specs.Prelude.{ℕ, zero, suc, ◌+◌, ◌≤◌, ◌≡◌, List, get_or, length, replicate, set}
use Rattle.rules.specs.Limits.{titles_max}
use Rattle.rules.specs.Refusals.{pick}
use Rattle.story.specs.declared.Title.{Title}
use Rattle.story.specs.declared.State.{State}
use Rattle.story.specs.Kept.{title_at}
use Rattle.sharers.specs.declared.rows.Rows.{Rows}
use Rattle.sharers.specs.Sharers.{takes_part}

abbrev pub no_row : List ℕ
no_row = replicate titles_max 0

abbrev pub no_rows : Rows
no_rows = record { many = 0; rates = no_row; lengths = no_row; floors = no_row; caps = no_row }

-- a title joins the rows behind the others
abbrev pub joined : Rows → Title → ℕ → Rows
joined q t rate =
    record {
      many = q.many + 1;
      rates = set q.rates q.many rate;
      lengths = set q.lengths q.many t.film.length;
      floors = set q.floors q.many t.film.floor;
      caps = set q.caps q.many t.film.cap;
    }

-- those of the ids below n that take part have joined
unfoldable pub rows_to : State → List ℕ → ℕ → Rows
rows_to s rates zero = no_rows
rows_to s rates (suc n) =
    pick (takes_part s n) (joined (rows_to s rates n) (title_at s n) (get_or rates n 0)) (rows_to s rates n)

-- four rows with a place for each id, of which so many are in use
pub record FullRows (q : Rows) : Type 0 where
  pub few : q.many ≤ titles_max
  pub rates : length q.rates ≡ titles_max
  pub lengths : length q.lengths ≡ titles_max
  pub floors : length q.floors ≡ titles_max
  pub caps : length q.caps ≡ titles_max
