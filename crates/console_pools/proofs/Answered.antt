-- What status and sharing gave, put behind a place, is what the definitions say: their rows behind a 0, or the refusal and its
-- reason.
use Prim.Native.Nat.{ℕ}
use mathlib.Core.Path.{◌≡◌, sym}
use mathlib.Core.List.{List, ◌∷◌, map}
use borrow.Author.Tests.{eq-eqb}
use lib.Dec.{eqb}
use lib.ListN.{length}
use Rattle.rules.specs.Refusals.{pick, done}
use Rattle.story.specs.declared.State.{State}
use Rattle.story.specs.Calls.{status_answer, status_count, status_held, status_mark}
use Rattle.sharing.specs.Verdict.{ShareAnswered}
use Rattle.text.specs.declared.page.Page.{Page}
use Rattle.text.specs.Pages.{Puts}
use Rattle.console_answers.specs.Entries.{numbers_text}
use Rattle.console_answers.specs.Outcomes.{done_text}
use Rattle.console_answers.proofs.Answered.{told_plain, refused_for}
use Rattle.console_commands.specs.Commands.{do_status, do_share}
use Rattle.console_limits.specs.Asked.{limit_reason, asked_reason}
use Rattle.console_limits.proofs.Silent.{done_limits, done_asked}
use Rattle.console_pools.specs.Beside.{beside}
use Rattle.console_pools.specs.Titles.{status_text}
use Rattle.console_pools.specs.Shares.{share_text}

module _ (s : State) (τ a : ℕ) (ids counts held marks : List ℕ) (lc : length counts ≡ length ids)
    (lh : length held ≡ length ids) (lm : length marks ≡ length ids)
    (e : a ≡ status_answer s τ ids (length counts) (length held) (length marks)) where
  same_answer : status_answer s τ ids (length ids) (length ids) (length ids) ≡ a
  same_answer = sym (rw (lc, lh, lm) at e)

  module _ {p q r : Page} (g : Puts p (done_text a 0) q) where
    pub status_refused : (ns : List ℕ) → ns ≡ τ ∷ ids → (a ≡ done → ⊥) → Puts q (asked_reason a do_status ns s.last) r
        → Puts p (status_text s τ ids) r
    unfolding status_text
    status_refused ns line z f = rw same_answer (refused_for 0 _ _ g z (rw line at f))

    pub status_told : (counts' held' marks' : List ℕ) (n : ℕ) → n ≡ length ids →
        counts' ≡ pick (eqb a done) (map (λ i. status_count s i) ids) counts
        → held' ≡ pick (eqb a done) (map (λ i. status_held s i τ) ids) held
        → marks' ≡ pick (eqb a done) (map (λ i. status_mark s i) ids) marks
        → a ≡ done → Puts q (beside ids counts' held' marks' n) r → Puts p (status_text s τ ids) r
    unfolding status_text
    status_told counts' held' marks' n many ec eh em z f =
        rw same_answer
        (told_plain 0 _ _ g z
        (rw (rw (eq-eqb _ _ z) at ec, rw (eq-eqb _ _ z) at eh, rw (eq-eqb _ _ z) at em, many) at f)
        (done_asked a do_status (τ ∷ ids) s.last z))

module _ (ns : List ℕ) (pool n : ℕ) (rates lengths floors caps row row' : List ℕ)
    (e : ShareAnswered pool rates lengths floors caps row n row')
    {p q r : Page} (g : Puts p (done_text n 0) q) where
  pub share_refused : (n ≡ done → ⊥) → Puts q (limit_reason n do_share ns) r → Puts p (share_text ns pool rates lengths floors caps row) r
  unfolding share_text
  share_refused z f = rw (sym e.answer) (refused_for 0 _ _ g z f)

  pub share_told : n ≡ done → length row' ≡ length row → Puts q (numbers_text row' (length row')) r
      → Puts p (share_text ns pool rates lengths floors caps row) r
  unfolding share_text
  share_told z l f = rw (sym e.answer) (told_plain 0 _ _ g z (rw e.counts at (rw l at f)) (done_limits n do_share ns z))
