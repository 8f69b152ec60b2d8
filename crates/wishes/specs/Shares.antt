-- The counts of a sharing in the order of its rows, and at the ids of the titles.
use Rattle.std.specs.Prelude.{ℕ, zero, suc, ◌<◌, ◌≡◌, true, List, get_or, set, take}
use Rattle.rules.specs.Limits.{titles_max}
use Rattle.rules.specs.Search.{how_many}
use Rattle.sharing.specs.Verdict.{row_after}
use Rattle.story.specs.declared.State.{State}
use Rattle.sharers.specs.declared.rows.Rows.{Rows}
use Rattle.sharers.specs.Sharers.{takes_part}
use Rattle.sharers.specs.Rows.{no_row}
use Rattle.wishes.specs.Wishes.{share_of}

-- what the sharing of a pool among the titles of the rows leaves in a row of zeros
unfoldable pub counts_of : ℕ → Rows → List ℕ
counts_of pool q =
    row_after pool (take q.many q.rates) (take q.many q.lengths) (take q.many q.floors)
    (take q.many q.caps) no_row

-- each id below n has the count at the place that its title has among those that take part
unfoldable pub shares_to : State → List ℕ → ℕ → List ℕ
shares_to s counts zero = no_row
shares_to s counts (suc n) = set (shares_to s counts n) n (get_or counts (how_many (takes_part s) n) 0)

-- a row has at its id the share of each title that takes part
pub record ByShare (s : State) (rates row : List ℕ) : Type 0 where
  pub each : (i : ℕ) → i < titles_max → takes_part s i ≡ true → get_or row i 0 ≡ share_of s rates i
