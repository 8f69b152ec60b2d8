-- Why nobody got in, where the numbers alone do not tell (02, request 1: a title never opened turns all away).
use Rattle.std.specs.Prelude.{ℕ, Bool, List, [], eqb}
use Rattle.rules.specs.Limits.{both}
use Rattle.rules.specs.Refusals.{done}
use Rattle.story.specs.Life.{Life}
use Rattle.agent.specs.Played.{life_in}
use Rattle.waiting.specs.Report.{report_answer}

-- no event has opened the title: a film that was opened has a cap
unfoldable pub is_unopened_life : Life → Bool
is_unopened_life L = eqb L.film.cap 0

-- so it is in a log that is played to its end, for a pool and a title within their limits
unfoldable pub is_never_opened : ℕ → List ℕ → ℕ → Bool
is_never_opened pool log title = both (eqb (report_answer pool log title []) done) (is_unopened_life (life_in pool log title))
