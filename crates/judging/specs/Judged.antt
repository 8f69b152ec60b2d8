-- What became of each admission of a title by a record of the air (02, request 13), told of the title's life: `is_admission` and
-- `is_film` are the story's own.
use Rattle.std.specs.Prelude.{ℕ, zero, suc, ◌+◌, ◌≤◌, ◌<◌, ◌≡◌, Bool, true, not, List, leb, eqb, set}
use Rattle.rules.specs.Limits.{both}
use Rattle.rules.specs.Refusals.{pick}
use Rattle.rules.specs.Search.{how_many}
use Rattle.grid.specs.Ticks.{cells}
use Rattle.story.specs.Life.{Life, is_film, is_admission}
use Rattle.judging.specs.Record.{nothing_seen, lowest, ticks_in, is_shown, is_in_time}

-- a box that began at tick a was without cell c at its turn: the cell holds film, and no lane showed it in time
unfoldable pub is_missed : Life → List ℕ → ℕ → ℕ → Bool
is_missed L r a c = both (is_film L c) (not (is_in_time r a c))

-- every cell of film is shown in time to a box that begins at tick a
abbrev pub HasAll : Life → List ℕ → ℕ → Type 0
HasAll L r a = (c : ℕ) → c < cells L.film.cap → is_film L c ≡ true → is_in_time r a c ≡ true

-- what an admission gets: the lowest cell that was missed, or that none was
unfoldable pub result_of : Life → List ℕ → ℕ → ℕ
result_of L r a = lowest (is_missed L r a) (cells L.film.cap)

-- the play ticks of a box that begins at tick a lie in the record
unfoldable pub is_covered : Life → List ℕ → ℕ → Bool
is_covered L r a = leb (a + cells L.film.cap) (ticks_in r)

-- an admission that is judged, and one that outlasts the record
unfoldable pub is_judged : Life → List ℕ → ℕ → Bool
is_judged L r a = both (is_admission L a) (is_covered L r a)

unfoldable pub is_outlasting : Life → List ℕ → ℕ → Bool
is_outlasting L r a = both (is_admission L a) (not (is_covered L r a))

-- one that was played through
unfoldable pub is_played : Life → List ℕ → ℕ → Bool
is_played L r a = both (is_judged L r a) (eqb (result_of L r a) nothing_seen)

-- how many there are of each: every one begins in the record
abbrev pub judged_in : Life → List ℕ → ℕ
judged_in L r = how_many (is_judged L r) (ticks_in r)

abbrev pub played_in : Life → List ℕ → ℕ
played_in L r = how_many (is_played L r) (ticks_in r)

abbrev pub outlasting_in : Life → List ℕ → ℕ
outlasting_in L r = how_many (is_outlasting L r) (ticks_in r)

-- the row of results after the first n ticks: each admission that is judged gets the next place, later places stay
unfoldable pub results_to : Life → List ℕ → List ℕ → ℕ → List ℕ
results_to L r row zero = row
results_to L r row (suc a) =
    pick (is_judged L r a) (set (results_to L r row a) (how_many (is_judged L r) a) (result_of L r a)) (results_to L r row a)

abbrev pub results_in : Life → List ℕ → List ℕ → List ℕ
results_in L r row = results_to L r row (ticks_in r)

-- record q shows all that r shows of a title, when r does, and maybe more; it is no shorter
pub record Covers (L : Life) (r q : List ℕ) : Type 0 where
  pub longer : ticks_in r ≤ ticks_in q
  pub shows : (c t : ℕ) → c < cells L.film.cap → t < ticks_in r → is_shown r c t ≡ true → is_shown q c t ≡ true
