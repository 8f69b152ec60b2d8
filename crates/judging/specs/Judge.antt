-- What the function that judges a record builds on, and what it settles: the results and the counts of every life that has the
-- title's numbers and the marked admissions.
use Rattle.std.specs.Prelude.{ℕ, ◌≤◌, ◌<◌, ◌≡◌, List, get_or, length}
use Rattle.rules.specs.Refusals.{pick}
use Rattle.grid.specs.Bounds.{Length, FloorCap}
use Rattle.scheme.specs.Scheme.{padded_kind}
use Rattle.story.specs.declared.Title.{Title}
use Rattle.story.specs.Life.{Life, is_admission}
use Rattle.judging.specs.declared.Counts.{Counts}
use Rattle.judging.specs.Record.{ticks_max, ticks_in}
use Rattle.judging.specs.Judged.{judged_in, played_in, outlasting_in, results_in}

-- a title within its limits, a record that is not too long, and a mark and a place in the row for each of its ticks
pub record Judgeable (t : Title) (r marks row : List ℕ) : Type 0 where
  pub sized : Length t.film.length
  pub cut : FloorCap t.film.floor t.film.cap
  pub few : ticks_in r ≤ ticks_max
  pub marked : ticks_in r ≤ length marks
  pub room : ticks_in r ≤ length row

-- a life of the title's film, which is sent by the padded grid, and of whose first n ticks the admissions are marked 1 and the others 0
pub record MarkedBy (t : Title) (marks : List ℕ) (n : ℕ) (L : Life) : Type 0 where
  pub padded : t.film.kind ≡ padded_kind
  pub same_film : L.film ≡ t.film
  pub mark : (a : ℕ) → a < n → get_or marks a 0 ≡ pick (is_admission L a) 1 0

-- how many admissions of a life the record judges, how many of those played through, and how many outlast it
abbrev pub counts_in : Life → List ℕ → Counts
counts_in L r = record { judged = judged_in L r; played = played_in L r; outlast = outlasting_in L r }

-- the row and the counts that are left
pub record Judges (t : Title) (r marks row after : List ℕ) (w : Counts) : Type 0 where
  pub results : (L : Life) → MarkedBy t marks (ticks_in r) L → after ≡ results_in L r row
  pub counts : (L : Life) → MarkedBy t marks (ticks_in r) L → w ≡ counts_in L r
