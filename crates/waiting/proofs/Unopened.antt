-- The title that a log leaves is blank where no event of the log opens it. Rests on the title as it stands telling its life
-- (`told_title`).
use mathlib.Core.Path.{◌≡◌, refl, sym}
use mathlib.Core.Bool.{false}
use mathlib.Core.List.{List, []}
use Prim.Native.Nat.{ℕ, ◌≤◌}
use borrow.Author.Tests.{eq-eqb, ne_eqb}
use lib.Dec.{eqb}
use lib.ListN.{length}
use Rattle.rules.specs.Limits.{id_max}
use Rattle.rules.specs.Refusals.{done}
use Rattle.notice.specs.Log.{Bytes, notices_of}
use Rattle.story.specs.declared.Title.{Title}
use Rattle.story.specs.Kept.{title_at}
use Rattle.story.specs.Life.{Life}
use Rattle.story.proofs.Tells.{TellsTitle, absent, present}
use Rattle.agent.specs.Played.{agent_played, life_in}
use Rattle.agent.proofs.Played.{log_series}
use Rattle.logs.proofs.Lives.{told_title}
use Rattle.waiting.specs.Report.{report_answer}
use Rattle.waiting.specs.Reasons.{is_unopened_life, is_never_opened}

-- a title as it stands was never opened as its life was not
blank_told : (L : Life) (m : ℕ) (t : Title) → TellsTitle L m t → eqb t.film.cap 0 ≡ is_unopened_life L
unfolding is_unopened_life
blank_told L m t (absent e f g) = rw (e, g) refl
blank_told L m t (present q e f p) = rw e refl

module _ (pool : ℕ) (log : List ℕ) (title : ℕ) where
  pub never_refused : (report_answer pool log title [] ≡ done → ⊥) → false ≡ is_never_opened pool log title
  unfolding is_never_opened
  never_refused refused = rw (ne_eqb (report_answer pool log title []) done refused) refl

  pub never_standing : done ≡ report_answer pool log title [] → title ≤ id_max → Bytes log → (t : Title)
      → t ≡ title_at (agent_played pool log).state title → eqb t.film.cap 0 ≡ is_never_opened pool log title
  unfolding is_never_opened
  never_standing whole id small t at =
      rw (eq-eqb (report_answer pool log title []) done (sym whole), at)
      (blank_told (life_in pool log title) _ (title_at (agent_played pool log).state title)
      (told_title pool title id _ (notices_of log) (log_series log small (length log))))
