-- The report says what the events say: what the log comes to where it is played to its end is the tally of the title's life, and a
-- refusal has no other number. So two outcomes of the call are equal. Rests on `told_tallied`.
use mathlib.Core.Path.{◌≡◌, refl, sym, ap, subst, ◌∙◌}
use mathlib.Core.Logic.{⊎_elim}
use mathlib.Core.List.{List}
use Prim.Native.Nat.{ℕ}
use borrow.Author.Tests.{eqb-true, eqb-false}
use lib.Dec.{eqb}
use lib.ListN.{length}
use Rattle.rules.specs.Refusals.{done}
use Rattle.rules.proofs.Tests.{decide}
use Rattle.notice.specs.Log.{Bytes, notices_of}
use Rattle.story.specs.declared.Title.{Title}
use Rattle.story.specs.Kept.{title_at}
use Rattle.agent.specs.declared.Agent.{Agent}
use Rattle.agent_rows.specs.Packed.{unpacked}
use Rattle.logs.specs.declared.PlayedLog.{PlayedLog}
use Rattle.agent.specs.Played.{agent_played, life_in}
use Rattle.logs.specs.Reading.{Plays}
use Rattle.agent.proofs.Played.{log_series}
use Rattle.admissions.specs.declared.Tally.{Tally}
use Rattle.admissions.specs.declared.Waits.{Waits}
use Rattle.admissions.specs.Waits.{Tallied}
use Rattle.admissions.specs.Stretches.{fresh_tally, all_settled}
use Rattle.admissions.proofs.GetsIn.{one_tally}
use Rattle.waiting.specs.declared.Report.{Report}
use Rattle.waiting.specs.Report.{report_answer, refused_report, Reports}
use Rattle.waiting.specs.inner.Steps.{heard_tally, told_tally, ReadyToTally}
use Rattle.waiting.proofs.Answers.{Fits}
use Rattle.waiting.proofs.Counting.{told_ready, told_tallied}

abbrev pub report_of : ℕ → ℕ → Waits → Report
report_of a n w = record { answer = a; arrivals = n; waits = w }

module _ (pool : ℕ) (log : List ℕ) (title : ℕ) (xs : List ℕ) where
  pub reports_refusal : (a : ℕ) (r : Report) → r ≡ refused_report a → a ≡ report_answer pool log title xs → (a ≡ done → ⊥) →
      Reports pool log title xs r
  reports_refusal a r e is not_done =
      rw e
      (record {
        answers = is;
        all_counted = λ h. absurd (not_done h);
        tallied = λ h. absurd (not_done h);
        refuses = λ h. refl;
      })

  module _ (row : List ℕ) (p : PlayedLog) (y : Tally) (all : Plays (heard_tally title xs) pool log (fresh_tally 0) row p y) (fit : Fits pool title xs) (small : Bytes log) where
    pub played_ready : ReadyToTally (unpacked row) title xs y
    played_ready =
        subst (λ (g : Agent). ReadyToTally g title xs y) (sym all.agent_is)
        (rw all.kept_is
        (told_ready pool title fit.id xs _ (notices_of log) (log_series log small (length log)) fit.short))

    pub reports_waits : (t : Title) (w : Waits) → done ≡ report_answer pool log title xs → t ≡ title_at (unpacked row).state title →
        w ≡ all_settled t xs y → Reports pool log title xs (report_of done (length xs) w)
    reports_waits t w whole at is =
        record {
          answers = whole;
          all_counted = λ h. refl;
          tallied = λ h. rw (is, here, all.kept_is) by_the_log;
          refuses = λ h. absurd (h refl);
        }
      where
        here : t ≡ title_at (agent_played pool log).state title
        here = at ∙ ap (λ (g : Agent). title_at g.state title) all.agent_is

        by_the_log : Tallied (life_in pool log title) xs (length xs) (all_settled (title_at (agent_played pool log).state title) xs (told_tally pool title xs (notices_of log)))
        by_the_log =
            told_tallied pool title fit.id xs _ (notices_of log) (log_series log small (length log)) fit.low

  -- ---- two outcomes that the report admits are equal

  pub told_once : (r q : Report) → Reports pool log title xs r → Reports pool log title xs q → r ≡ q
  told_once r q s t =
      let same : r.answer ≡ q.answer = s.answers ∙ sym t.answers in
      ⊎_elim
      (λ b.
      let ok : q.answer ≡ done = eqb-true q.answer done b in
      let ok' : r.answer ≡ done = same ∙ ok in
      let n : r.arrivals ≡ q.arrivals = s.all_counted ok' ∙ sym (t.all_counted ok) in
      let w : r.waits ≡ q.waits = one_tally (life_in pool log title) xs (length xs) r.waits q.waits (s.tallied ok') (t.tallied ok) in
      λ i. report_of (same i) (n i) (w i))
      (λ b.
      let not-ok : q.answer ≡ done → ⊥ = eqb-false q.answer done b in
      s.refuses (λ h. not-ok (sym same ∙ h)) ∙ ap refused_report same ∙ sym (t.refuses not-ok))
      (decide (eqb q.answer done))
