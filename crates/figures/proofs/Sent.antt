-- A fresh pool, an opening and a change in turn, and the three ways of asking a lane after them.
-- Rests on nothing but the definitions.
use Prim.Native.Nat.{ℕ, ◌+◌, ◌<◌, ◌≤◌}
use mathlib.Core.Path.{◌≡◌, ap, ◌∙◌}
use borrow.Author.Tests.{eq-eqb, ne_eqb, lt-ltb, le-ltb}
use Rattle.story.specs.declared.State.{State}
use Rattle.story.specs.Calls.{fresh_next, lane_answer, lane_shows}
use Rattle.story.specs.declared.Act.TheVariants.{Changes}
use Rattle.story.specs.Story.{opens, event}
use Rattle.story.specs.Runs.{called}
use Rattle.figures.specs.Transitions.{changed_to, sent_of}

-- three calls in turn leave the state that the definitions name
pub in_turn : (pool D A K k τ n : ℕ) (a b c : State) → a ≡ fresh_next pool →
    b ≡ called a (event 0 0 (opens D A K k)) → c ≡ called b (event 0 τ (Changes n)) →
    c ≡ called (called (fresh_next pool) (event 0 0 (opens D A K k))) (event 0 τ (Changes n))
in_turn pool D A K k τ n a b c first second third =
    third
    ∙ ap (λ (s : State). called s (event 0 τ (Changes n))) (second ∙ ap (λ (s : State). called s (event 0 0 (opens D A K k))) first)

-- the three states of figures 6 and 7
pub record Run (n : ℕ) (a b c : State) : Type 0 where
  pub first : a ≡ fresh_next 4
  pub second : b ≡ called a (event 0 0 (opens 12 2 4 4))
  pub third : c ≡ called b (event 0 4 (Changes n))

run_is : (n : ℕ) (a b c : State) → Run n a b c → c ≡ changed_to n
unfolding changed_to
run_is n a b c r = in_turn 4 12 2 4 4 4 n a b c r.first r.second r.third

module _ (n l τ : ℕ) (a b c : State) (run : Run n a b c) (answer cell : ℕ)
    (asked : (answer ≡ lane_answer c 0 l τ) × (cell ≡ lane_shows c 0 l τ)) where
  answered : answer ≡ lane_answer (changed_to n) 0 l τ
  answered = asked.0 ∙ ap (λ (s : State). lane_answer s 0 l τ) (run_is n a b c run)

  shown : cell ≡ lane_shows (changed_to n) 0 l τ
  shown = asked.1 ∙ ap (λ (s : State). lane_shows s 0 l τ) (run_is n a b c run)

  pub sends : answer ≡ 0 → cell < 16 → cell + 1 ≡ sent_of n l τ
  unfolding sent_of
  sends z h = rw (← answered, ← shown, eq-eqb answer 0 z, lt-ltb cell 16 h)

  pub past : answer ≡ 0 → 16 ≤ cell → 99 ≡ sent_of n l τ
  unfolding sent_of
  past z h = rw (← answered, ← shown, eq-eqb answer 0 z, le-ltb cell 16 h)

  pub silent : (answer ≡ 0 → ⊥) → 99 ≡ sent_of n l τ
  unfolding sent_of
  silent z = rw (← answered, ← shown, ne_eqb answer 0 z)
