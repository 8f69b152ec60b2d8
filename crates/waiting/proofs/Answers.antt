-- The report's refusals, as the code meets its cases, and what a row that passes them is. Rest on the laws of listed refusals.
use mathlib.Core.Path.{◌≡◌, refl, sym, ◌∙◌}
use Rattle.std.proofs.Common.{IsTrue, ◌↔◌}
use mathlib.Core.Bool.{Bool, true, false, not}
use mathlib.Core.Logic.{⊎_elim}
use mathlib.Core.List.{List, [], ◌∷◌}
use Prim.Native.Nat.{ℕ, ◌≤◌, ◌<◌}
use native.Mathlib.Omega.{arith}
use borrow.Author.Tests.{lt-leb, le-leb, leb-true, lt-ltb, le-ltb, ltb-true, ltb-false, not-false, eq-eqb, ne_eqb}
use lib.Dec.{leb, ltb, eqb}
use lib.ListN.{get_or, length, get_or-eq_default}
use Rattle.rules.specs.Limits.{both, within, pool_min, pool_max, id_max, asked_max}
use Rattle.rules.specs.Refusals.{pick, refuse, first_hit, done, outside_limits, wrong_rows, malformed}
use Rattle.rules.proofs.Tests.{decide, both_l, both_r, both_none, same, pick_true, pick_false}
use Rattle.rules.proofs.Refusals.{hits_of, numbered, cleared, hit_append}
use Rattle.rules.specs.Search.{every}
use Rattle.rules.proofs.Search
use Rattle.notice.specs.Log.{is_whole_log, stop_of}
use Rattle.admissions.specs.Waits.{row_max}
use Rattle.waiting.specs.Report.{row_in_limits, all_in_limits, report_answer}
use Rattle.waiting.specs.inner.Steps.{row_rules, row_answer}

-- ---- a row

-- a test of each number tells whether all are
pub row_told : (xs : List ℕ) (b : Bool) → (IsTrue b ↔ ((k : ℕ) → k < length xs → get_or xs k 0 ≤ asked_max)) → b ≡ row_in_limits xs
unfolding row_in_limits
row_told xs b h =
    let p : ℕ → Bool = λ j. leb (get_or xs j 0) asked_max in
    same b (every p (length xs))
    (λ t. Search.every_in p (length xs) (λ k lt. le-leb (get_or xs k 0) asked_max (h.0 t k lt)))
    (λ t. h.1 (λ k lt. leb-true (get_or xs k 0) asked_max (Search.every_out p (length xs) k t lt)))

pub row_low : (xs : List ℕ) → row_in_limits xs ≡ true → (j : ℕ) → get_or xs j 0 ≤ asked_max
unfolding row_in_limits
row_low xs h j =
    ⊎_elim
    (λ t. leb-true (get_or xs j 0) asked_max (Search.every_out (λ k. leb (get_or xs k 0) asked_max) (length xs) j h (ltb-true j (length xs) t)))
    (λ t. rw (get_or-eq_default xs 0 (ltb-false j (length xs) t)) (omega arith))
    (decide (ltb j (length xs)))

-- ---- the refusals that do not hang on the log

module _ (pool title : ℕ) (xs : List ℕ) where
  outside : all_in_limits pool title xs ≡ false → outside_limits ≡ row_answer pool title xs
  unfolding row_answer first_hit
  outside h = rw h

  pub pool_out : within pool_min pool_max pool ≡ false → outside_limits ≡ row_answer pool title xs
  pool_out h = outside (rw h)

  pub title_out : id_max < title → outside_limits ≡ row_answer pool title xs
  title_out h = outside (rw (lt-leb title id_max h) (both_none (within pool_min pool_max pool)))

  pub arrival_out : row_in_limits xs ≡ false → outside_limits ≡ row_answer pool title xs
  arrival_out h = outside (rw (h, both_none (leb title id_max)) (both_none (within pool_min pool_max pool)))

  all_in : within pool_min pool_max pool ≡ true → title ≤ id_max → row_in_limits xs ≡ true → all_in_limits pool title xs ≡ true
  all_in p t r = rw (p, le-leb title id_max t, r)

  pub too_long_lem : within pool_min pool_max pool ≡ true → title ≤ id_max → row_in_limits xs ≡ true → row_max < length xs →
      wrong_rows ≡ row_answer pool title xs
  unfolding row_answer first_hit
  too_long_lem p t r long = rw (all_in p t r, lt-ltb row_max (length xs) long)

  pub fits : within pool_min pool_max pool ≡ true → title ≤ id_max → row_in_limits xs ≡ true → length xs ≤ row_max →
      done ≡ row_answer pool title xs
  unfolding row_answer first_hit
  fits p t r short = rw (all_in p t r, le-ltb row_max (length xs) short)

  -- what passes them
  pub record Fits : Type 0 where
    pub pool_in_holds : within pool_min pool_max pool ≡ true
    pub id : title ≤ id_max
    pub low : (j : ℕ) → get_or xs j 0 ≤ asked_max
    pub short : length xs ≤ row_max

  pub passes : row_answer pool title xs ≡ done → Fits
  unfolding row_answer hits_of numbered
  passes h =
      let clear = cleared (row_rules pool title xs) refl h in
      let all = not-false (all_in_limits pool title xs) (clear outside_limits) in
      let rest = both_r (within pool_min pool_max pool) (both (leb title id_max) (row_in_limits xs)) all in
      record {
        pool_in_holds = both_l (within pool_min pool_max pool) (both (leb title id_max) (row_in_limits xs)) all;
        id = leb-true title id_max (both_l (leb title id_max) (row_in_limits xs) rest);
        low = row_low xs (both_r (leb title id_max) (row_in_limits xs) rest);
        short = ltb-false row_max (length xs) (clear wrong_rows);
      }

  -- ---- and the one that does

  module _ (log : List ℕ) where
    in_two : report_answer pool log title xs
        ≡ pick (eqb (row_answer pool title xs) 0) (first_hit (refuse malformed (not (is_whole_log log)) ∷ [])) (row_answer pool title xs)
    unfolding row_answer report_answer numbered
    in_two = hit_append (row_rules pool title xs) (refuse malformed (not (is_whole_log log)) ∷ []) refl

    pub refused_first : (row_answer pool title xs ≡ done → ⊥) → row_answer pool title xs ≡ report_answer pool log title xs
    refused_first h =
        sym (in_two ∙ pick_false (eqb (row_answer pool title xs) 0) _ (row_answer pool title xs) (ne_eqb (row_answer pool title xs) 0 h))

    last_test : row_answer pool title xs ≡ done →
        report_answer pool log title xs ≡ first_hit (refuse malformed (not (is_whole_log log)) ∷ [])
    last_test h =
        in_two ∙ pick_true (eqb (row_answer pool title xs) 0) _ (row_answer pool title xs) (eq-eqb (row_answer pool title xs) 0 h)

    pub not_whole : row_answer pool title xs ≡ done → (p : ℕ) → p ≡ stop_of log → p < length log →
        malformed ≡ report_answer pool log title xs
    unfolding first_hit
    not_whole h p at cut =
        sym (last_test h ∙ rw (lt-leb (length log) (stop_of log) (omega arith)))

    pub is_whole : row_answer pool title xs ≡ done → (p : ℕ) → p ≡ stop_of log → length log ≤ p →
        done ≡ report_answer pool log title xs
    unfolding first_hit
    is_whole h p at all =
        sym (last_test h ∙ rw (le-leb (length log) (stop_of log) (omega arith)))
