-- How the code goes through a log, notice by notice, and marks the ticks of a title's latest opening. The calls' contracts cite
-- nothing of this; proofs/ shows what it comes to.
use Rattle.std.specs.Prelude.{ℕ, zero, suc, ◌+◌, ◌-◌, ◌≤◌, min, ◌≡◌, Bool, not, List, [], ◌∷◌, leb, ltb, eqb, length, set}
use Rattle.rules.specs.Limits.{both, id_max}
use Rattle.rules.specs.Refusals.{pick, refuse, first_hit, done, outside_limits, wrong_rows, malformed, not_there}
use Rattle.scheme.specs.Scheme.{padded_kind, steady_kind, starts}
use Rattle.notice.specs.declared.Notice.{Notice}
use Rattle.notice.specs.Log.{is_whole_log}
use Rattle.plans.specs.Row.{written}
use Rattle.story.specs.declared.Title.{Title}
use Rattle.story.specs.Kept.{open_mode, title_at, scheme_in, tick_at}
use Rattle.story.specs.Life.{Life}
use Rattle.measures.specs.Readable.{Filmed}
use Rattle.admissions.specs.Stretches.{admitting}
use Rattle.agent.specs.declared.Agent.{Agent}
use Rattle.agent.specs.Turns.{fresh_agent}
use Rattle.agent.specs.Played.{life_in}
use Rattle.logs.specs.Reading.{kept_told, heard_own, by_mode}
use Rattle.airing.specs.declared.follow.Ending.{Ending}
use Rattle.airing.specs.Air.{in_limits, has_room_for, is_film_title, mark_of}
use Rattle.airing.specs.Reasons.{is_steady_life}

-- the mark of tick u while a title stays as it stands
unfoldable pub mark_in : Title → ℕ → ℕ
mark_in t u = pick (both (admitting t) (starts (scheme_in t) t.count u)) 1 0

-- a row with the n ticks from tick u on marked as the title stands
unfoldable pub marked_from : Title → ℕ → List ℕ → ℕ → List ℕ
marked_from t u row zero = row
marked_from t u row (suc n) = set (marked_from t u row n) (u + n) (mark_in t (u + n))

-- with those from its latest event up to tick v, as far as the row goes
unfoldable pub marked_to : Title → ℕ → List ℕ → List ℕ
marked_to t v row = marked_from t (tick_at t t.last) row (min v (length row) - tick_at t t.last)

-- a title whose ticks can be marked
pub record Markable (t : Title) : Type 0 where
  pub film : Filmed t.film
  pub fit : t.count ≤ t.film.cap

-- an accepted event of an open title settles its ticks up to the event, and with an opening all ticks begin anew
abbrev pub event_marks : Title → ℕ → List ℕ → List ℕ
event_marks = by_mode (λ t τ row. marked_to t (tick_at t τ) row) (λ τ row. row)

-- the row after a notice, for title i
abbrev pub heard_marks : ℕ → Agent → Notice → List ℕ → List ℕ
heard_marks i = heard_own event_marks i

-- the row after notices, newest first
abbrev pub told_marks : ℕ → ℕ → List ℕ → List Notice → List ℕ
told_marks pool i row ns = kept_told (heard_marks i) (fresh_agent pool) row ns

-- what holds of an agent that was told notices
pub record ReadyToMark (g : Agent) (i : ℕ) : Type 0 where
  pub id : i ≤ id_max
  pub markable : (title_at g.state i).mode ≡ open_mode → Markable (title_at g.state i)

-- a stored title has the film of a life that is sent by the padded grid
pub record SameFilm (L : Life) (t : Title) : Type 0 where
  pub film : Filmed t.film
  pub padded : t.film.kind ≡ padded_kind
  pub same_film : L.film ≡ t.film

-- what the log answers; where it answers done, all of the row is marked
unfoldable pub log_answer : ℕ → List ℕ → ℕ → ℕ
log_answer pool log title =
    first_hit (refuse malformed (not (is_whole_log log)) ∷ refuse not_there (not (is_film_title (life_in pool log title))) ∷ [])

-- a stored title was opened, and last as a film with floor and cap
abbrev pub is_film_slot : Title → Bool
is_film_slot t = both (ltb 0 t.film.cap) (eqb t.film.kind padded_kind)

-- what the code answers of a title as it stands, where the reading of a log of some size stopped at a place
unfoldable pub followed_answer : ℕ → ℕ → Title → ℕ
followed_answer place size t = pick (leb size place) (pick (is_film_slot t) done not_there) malformed

-- so it was opened, and last as a skip-forward title
abbrev pub is_steady_slot : Title → Bool
is_steady_slot t = both (ltb 0 t.film.cap) (eqb t.film.kind steady_kind)

-- what a log that is followed to its end answers and leaves a title as
pub record Ends (pool : ℕ) (log : List ℕ) (i : ℕ) (r : Ending) : Type 0 where
  pub answer_is : r.answer ≡ log_answer pool log i
  pub standing : r.answer ≡ done → SameFilm (life_in pool log i) r.title
  pub steady_is : is_steady_life (life_in pool log i) ≡ is_steady_slot r.title

-- the log has no film title, but a skip-forward title
unfoldable pub is_steady_ending : Ending → Bool
is_steady_ending r = both (eqb r.answer not_there) (is_steady_slot r.title)

pub record Follows (pool : ℕ) (log : List ℕ) (i : ℕ) (row : List ℕ) (r : Ending) (marked : List ℕ) : Type 0 where
  pub ends : Ends pool log i r
  pub marks_are : r.answer ≡ done → marked ≡ written (mark_of (life_in pool log i)) row (length row)

-- the refusals that do not hang on the log
unfoldable pub rows_answer : ℕ → ℕ → List ℕ → ℕ → ℕ
rows_answer pool title r room =
    first_hit (refuse outside_limits (not (in_limits pool title)) ∷ refuse wrong_rows (not (has_room_for r room)) ∷ [])
