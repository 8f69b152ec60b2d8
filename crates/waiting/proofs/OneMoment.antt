-- Two logs that differ in the order of two events alone, at one moment on titles of different ids (02, 14), have equal reports of
-- waits, for every title and row of arrivals: the logs that a head-end keeps of two accepted sequences, each numbered from 1 on.
-- Rests on the lives being the same in both, and on a report having one outcome.
use mathlib.Core.Path.{◌≡◌, refl, sym, subst, ◌∙◌}
use mathlib.Core.List.{List, ◌∷◌, ◌++◌}
use Prim.Native.Nat.{ℕ, ◌^◌, ◌<◌}
use lib.ListN.{length}
use Rattle.notice.specs.Log.{is_whole_log}
use Rattle.story.specs.Life.{Life}
use Rattle.story.specs.declared.Event.{Event}
use Rattle.story.specs.Story.{Accepted, OneMoment}
use Rattle.story.specs.Runs.{lanes_of}
use Rattle.agent.specs.Series.{log_kept}
use Rattle.agent.specs.Played.{life_in}
use Rattle.agent.proofs.OneMoment.{kept_lives, kept_both_whole}
use Rattle.admissions.specs.Waits.{Tallied}
use Rattle.waiting.specs.declared.Report.{Report}
use Rattle.waiting.specs.Report.{report_answer, Reports}
use Rattle.waiting.proofs.Telling.{told_once}

-- a report of a log is one of any log that has the same life of the title, and is whole where that one is
reports_same : (pool : ℕ) (log other : List ℕ) (title : ℕ) (xs : List ℕ) (r : Report) → is_whole_log log ≡ is_whole_log other →
    life_in pool log title ≡ life_in pool other title → Reports pool other title xs r → Reports pool log title xs r
unfolding report_answer
reports_same pool log other title xs r whole life w =
    record {
      answers = w.answers ∙ sym (rw whole refl);
      all_counted = w.all_counted;
      tallied = λ h. subst (λ (L : Life). Tallied L xs (length xs) r.waits) (sym life) (w.tallied h);
      refuses = w.refuses;
    }

module _ (pool : ℕ) (es new : List Event) (e f : Event) (at : OneMoment e f)
    (one : Accepted (lanes_of pool) (new ++ f ∷ e ∷ es)) (other : Accepted (lanes_of pool) (new ++ e ∷ f ∷ es))
    (few : length (new ++ f ∷ e ∷ es) < 2 ^ 32) where
  pub reports_alike : (title : ℕ) (xs : List ℕ) (r q : Report) → Reports pool (log_kept (new ++ f ∷ e ∷ es)) title xs r →
      Reports pool (log_kept (new ++ e ∷ f ∷ es)) title xs q → r ≡ q
  reports_alike title xs r q v w =
      let log : List ℕ = log_kept (new ++ f ∷ e ∷ es) in
      told_once pool log title xs r q v
      (reports_same pool log (log_kept (new ++ e ∷ f ∷ es)) title xs q (kept_both_whole pool es new e f at one other few)
      (kept_lives pool es new e f at one other few title) w)
