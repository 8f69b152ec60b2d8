-- The results, one tick further back: a tick from which too few ticks are left has none, and any other has the lowest late
-- cell. Rests on the walk's laws.
use mathlib.Core.Path.{◌≡◌, ◌∙◌}
use mathlib.Core.List.{List}
use mathlib.Core.Logic.{⊎_elim}
use Prim.Native.Nat.{ℕ, suc, ◌+◌, ◌≤◌, ◌<◌}
use native.Mathlib.Omega.{arith}
use lib.ListN.{length, set, length-set}
use lib.Seq.{get_or-set_same, get_or-set_other}
use Rattle.rules.specs.Limits.{plan_places}
use Rattle.judging.specs.Record.{lowest, ticks_max, ticks_in}
use Rattle.judging.specs.inner.Walk.{Nexts, Results, is_late, is_unseen}
use Rattle.judging.proofs.Walked.{next_or, late_unseen, lowest_ext}

module _ (r : List ℕ) (m D τ : ℕ) where
  -- the record's end has no results
  pub found_end : (a : ℕ) (found : List ℕ) → ticks_in r ≤ a → length found ≡ ticks_max → Results r m D τ a found
  found_end a found end size = record { size = size; result = λ b from whole before. absurd (omega arith) }

  module _ (a b : ℕ) (back : b ≡ suc a) (found : List ℕ) (R : Results r m D τ b found) where
    pub found_short : ticks_in r < a + m → Results r m D τ a found
    found_short short =
        record {
          size = R.size;
          result = λ u from whole before. ⊎_elim (λ e. absurd (omega arith)) (λ more. R.result u (omega arith) whole before) (next_or a u from);
        }

    pub found_whole : (next : List ℕ) (x : ℕ) → Nexts r a next → m ≤ plan_places → ticks_in r ≤ ticks_max → a < ticks_in r →
        a + m ≤ ticks_in r → x ≡ lowest (is_late D τ next a) m → Results r m D τ a (set found a x)
    found_whole next x N few short before_end whole is =
        record {
          size = length-set found a x ∙ R.size;
          result = λ u from whole-u before.
              ⊎_elim
              (λ e. rw (← e) (get_or-set_same found a x 0 (omega (arith, R.size)) ∙ is ∙ here))
              (λ more. get_or-set_other found a u x 0 (omega arith) ∙ R.result u (omega arith) whole-u before)
              (next_or a u from);
        }
      where
        here : lowest (is_late D τ next a) m ≡ lowest (is_unseen D τ r a) m
        here =
            lowest_ext (is_late D τ next a) (is_unseen D τ r a) m
            (λ c l. late_unseen r a next N c (omega arith) (omega arith) (omega arith) D τ)
