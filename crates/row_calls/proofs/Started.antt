-- A row of a fresh agent: the layout's version and the pool among zeros; and what any row is answered. Rests on the laws of lists and tests.
use mathlib.Core.Path.{◌≡◌, refl, ap, ◌∙◌}
use mathlib.Core.Bool.{true, false, not}
use mathlib.Core.List.{List, [], ◌∷◌, ◌++◌}
use Prim.Native.Nat.{ℕ, zero, suc, ◌+◌, ◌*◌, ◌<◌}
use native.Mathlib.Omega.{arith}
use lib.ListN.{length, drop, set, replicate, replicate-append-replicate}
use borrow.Author.Tests.{eq-eqb, ne_eqb}
use Rattle.rules.specs.Limits.{within, pool_min, pool_max, titles_max}
use Rattle.rules.specs.Refusals.{refuse, first_hit, outside_limits, wrong_rows}
use Rattle.story.specs.Calls.{blank_title}
use Rattle.agent.specs.Turns.{fresh_agent}
use Rattle.agent_rows.specs.Layout.{row_version, version_at, pool_at, title_places, row_length}
use Rattle.agent_rows.specs.Packed.{packed_titles, packed}
use Rattle.row_calls.specs.Answers.{row_fresh, row_after_fresh}

-- one number more is cleared
pub cleared_more : (r : List ℕ) (i : ℕ) → i < length r → set (replicate i 0 ++ drop i r) i 0 ≡ replicate (suc i) 0 ++ drop (suc i) r
cleared_more [] i l = absurd (omega arith)
cleared_more (x ∷ xs) zero l = refl
cleared_more (x ∷ xs) (suc i) l = ap (λ (r : List ℕ). 0 ∷ r) (cleared_more xs i (omega arith))

-- slots that no event has named are zeros
blank_titles : (n : ℕ) → packed_titles (replicate n blank_title) ≡ replicate (n * title_places) 0
unfolding packed_titles
blank_titles zero = refl
blank_titles (suc n) =
    ap (λ (r : List ℕ). replicate title_places 0 ++ r) (blank_titles n)
    ∙ replicate-append-replicate title_places (n * title_places) 0
    ∙ ap (λ (k : ℕ). replicate k 0) more
  where
    more : title_places + n * title_places ≡ suc n * title_places
    more = omega arith

-- the version and the pool, put among zeros
put_first : (n pool : ℕ) → set (set (replicate (suc (suc (suc (suc n)))) 0) version_at row_version) pool_at pool ≡ row_version ∷ 0 ∷ pool ∷ 0 ∷ replicate n 0
put_first n pool = refl

fresh_row : (pool : ℕ) → within pool_min pool_max pool ≡ true →
    set (set (replicate row_length 0) version_at row_version) pool_at pool ≡ packed (fresh_agent pool)
fresh_row pool fits =
    put_first (titles_max * title_places) pool ∙ rw (fits, blank_titles titles_max) refl

module _ (r : List ℕ) (pool : ℕ) where
  pub fresh_elsewhere : (length r ≡ row_length → ⊥) → (wrong_rows ≡ row_fresh r pool) × (r ≡ row_after_fresh r pool)
  unfolding row_fresh row_after_fresh
  fresh_elsewhere other = rw (ne_eqb (length r) row_length other) (refl, refl)

  module _ (long : length r ≡ row_length) where
    pub fresh_refused : within pool_min pool_max pool ≡ false → (outside_limits ≡ row_fresh r pool) × (r ≡ row_after_fresh r pool)
    unfolding row_fresh row_after_fresh first_hit
    fresh_refused out = rw (eq-eqb (length r) row_length long, out) (refl, refl)

    pub fresh_taken : within pool_min pool_max pool ≡ true → (x : List ℕ) → x ≡ replicate (length r) 0 →
        (0 ≡ row_fresh r pool) × (set (set x version_at row_version) pool_at pool ≡ row_after_fresh r pool)
    unfolding row_fresh row_after_fresh first_hit
    fresh_taken fits x zeros =
        let laid : set (set x version_at row_version) pool_at pool ≡ packed (fresh_agent pool) =
        ap (λ (z : List ℕ). set (set z version_at row_version) pool_at pool) (zeros ∙ ap (λ (n : ℕ). replicate n 0) long) ∙ fresh_row pool fits in
        let answer : first_hit (refuse outside_limits (not (within pool_min pool_max pool)) ∷ []) ≡ 0 = rw fits refl in
        rw (eq-eqb (length r) row_length long, answer) (refl, laid)

    pub fresh_left : within pool_min pool_max pool ≡ true → row_after_fresh r pool ≡ packed (fresh_agent pool)
    unfolding row_fresh row_after_fresh first_hit
    fresh_left fits = rw (eq-eqb (length r) row_length long, fits) refl
