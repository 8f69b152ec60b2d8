-- Who shares a pool (02, 11 and 12): the titles that take part, what the sharing knows of each, their floors together, and what is
-- left of the pool to share.
use Rattle.std.specs.Prelude.{ℕ, zero, suc, ◌-◌, Bool, not, List, [], ◌∷◌, ◌++◌, map, eqb, get_or, length}
use Rattle.rules.specs.Limits.{both, within, rate_min, rate_max, titles_max}
use Rattle.rules.specs.Refusals.{pick}
use Rattle.rules.specs.Search.{every, total}
use Rattle.sharing.specs.Titles.{Rated}
use Rattle.sharing.specs.Titles.{row_total}
use Rattle.story.specs.declared.Title.{Title}
use Rattle.story.specs.declared.State.{State}
use Rattle.story.specs.Kept.{open_mode, is_steady_title, title_at, ruling}

-- every rate of the row is within its limits, also of ids that take no part
unfoldable pub rates_ok : List ℕ → Bool
rates_ok rates = every (λ j. within rate_min rate_max (get_or rates j 0)) (length rates)

-- a title takes part while it is open and not closing; a skip-forward title never does
abbrev pub is_sharer : Title → Bool
is_sharer t = both (eqb t.mode open_mode) (not (is_steady_title t))

abbrev pub takes_part : State → ℕ → Bool
takes_part s i = is_sharer (title_at s i)

-- the lanes that a skip-forward title keeps to itself: its count until it closes
abbrev pub kept_apart : Title → ℕ
kept_apart t = pick (is_steady_title t) (ruling t) 0

-- what is left of the pool to share
unfoldable pub shared_pool : State → ℕ
shared_pool s = s.pool - total (λ i. kept_apart (title_at s i)) titles_max

-- the ids below n that pass a test, lowest first
unfoldable pub ids_where : (ℕ → Bool) → ℕ → List ℕ
ids_where p zero = []
ids_where p (suc n) = ids_where p n ++ pick (p n) (n ∷ []) []

-- those that share the pool, in id order
unfoldable pub sharers : State → List ℕ
sharers s = ids_where (takes_part s) titles_max

-- what the sharing knows of a title, with its rate
abbrev pub rated_at : State → List ℕ → ℕ → Rated
rated_at s rates i =
    record { rate = get_or rates i 0; length = (title_at s i).film.length; floor = (title_at s i).film.floor; cap = (title_at s i).film.cap }

unfoldable pub rated : State → List ℕ → List Rated
rated s rates = map (rated_at s rates) (sharers s)

-- their floors together
unfoldable pub floors_of : State → ℕ
floors_of s = row_total (map (λ i. (title_at s i).film.floor) (sharers s))
