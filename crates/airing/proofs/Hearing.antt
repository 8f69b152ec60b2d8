-- Laws of one notice, as the code meets its cases. Rest on the definition of a row of marks after an event.
use mathlib.Core.Path.{◌≡◌, refl}
use mathlib.Core.Bool.{Bool, true, false}
use mathlib.Core.List.{List}
use Prim.Native.Nat.{ℕ}
use borrow.Author.Tests.{eq-eqb, ne_eqb}
use lib.Dec.{eqb}
use lib.ListN.{length}
use Rattle.rules.specs.Limits.{both}
use Rattle.rules.specs.Refusals.{pick}
use Rattle.notice.specs.declared.Notice.{Notice}
use Rattle.notice.specs.declared.Reading.TheVariants as reading
use Rattle.story.specs.declared.Title.{Title}
use Rattle.story.specs.Kept.{open_mode, title_at, tick_at}
use Rattle.agent.specs.declared.Agent.{Agent}
use Rattle.agent.specs.Turns.{notice_answer}
use Rattle.logs.specs.Reading.{heard_own}
use Rattle.airing.specs.inner.Steps.{marked_to, event_marks, heard_marks}
use Rattle.airing.proofs.Ticks.{to_length}

module _ (t : Title) (τ : ℕ) (row : List ℕ) where
  pub marks_open : (u : ℕ) (m : List ℕ) → t.mode ≡ open_mode → u ≡ tick_at t τ → m ≡ marked_to t u row → m ≡ event_marks t τ row
  marks_open u m on tick is = rw (eq-eqb t.mode open_mode on, ← tick) is

  pub marks_opening : (t.mode ≡ open_mode → ⊥) → row ≡ event_marks t τ row
  marks_opening off = rw (ne_eqb t.mode open_mode off) refl

  event_length : length (event_marks t τ row) ≡ length row
  event_length = go (eqb t.mode open_mode)
    where
      go : (b : Bool) → length (pick b (marked_to t (tick_at t τ) row) row) ≡ length row
      go true = to_length t (tick_at t τ) row
      go false = refl

pub heard_length : (g : Agent) (i : ℕ) (n : Notice) (row : List ℕ) → length (heard_marks i g n row) ≡ length row
unfolding heard_own
heard_length g i n row = go (both (eqb (notice_answer g (reading.Whole n)) 0) (eqb n.title i))
  where
    go : (b : Bool) → length (pick b (event_marks (title_at g.state i) n.time row) row) ≡ length row
    go true = event_length (title_at g.state i) n.time row
    go false = refl
