-- The numbers of a title by which it is read, within their limits (01, "What the product holds"): its film, which its opening fixes, and
-- the rows by which its lanes are known.
use Rattle.std.specs.Prelude.{ℕ, ◌≤◌, ◌<◌, ◌≡◌, true}
use Rattle.rules.specs.Limits.{titles_max, count_places, lane_places}
use Rattle.grid.specs.Bounds.{Length, FloorCap}
use Rattle.scheme.specs.Scheme.{steady_kind}
use Rattle.story.specs.declared.Film.{Film}
use Rattle.story.specs.declared.Title.{Title}
use Rattle.story.specs.declared.State.{State}
use Rattle.story.specs.Kept.{absent_mode, title_at, row_ok}

-- a film within its limits: of a skip-forward title floor and cap are one
pub record Filmed (f : Film) : Type 0 where
  pub sized : Length f.length
  pub cut : FloorCap f.floor f.cap
  pub flat : f.kind ≡ steady_kind → f.floor ≡ f.cap

-- a slot without a title, or with one whose film is within its limits
abbrev pub Readable : Title → Type 0
Readable t = (t.mode ≡ absent_mode → ⊥) → Filmed t.film

abbrev pub AllReadable : State → Type 0
AllReadable s = (i : ℕ) → i < titles_max → Readable (title_at s i)

-- the numbers by which its owed ticks are read,
pub record Owing (t : Title) : Type 0 where
  pub film : Filmed t.film
  pub ends : row_ok t.ends count_places ≡ true

-- and those by which the cell of a sending lane is found
pub record Sending (t : Title) : Type 0 where
  pub owing : Owing t
  pub dropped : row_ok t.dropped lane_places ≡ true

-- and those by which a title is changed or closed
pub record Changeable (t : Title) : Type 0 where
  pub owing : Owing t
  pub ruled : t.count ≤ t.film.cap
