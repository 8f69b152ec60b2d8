-- What a log that is followed to its end tells of a refusal. Rests on the definition of the refusals, and on the title that the log
-- leaves having the numbers of its life.
use mathlib.Core.Path.{◌≡◌, refl, sym, ◌∙◌}
use mathlib.Core.Bool.{Bool, true, false, not, false≢true}
use mathlib.Core.List.{List}
use Prim.Native.Nat.{ℕ, ◌≤◌}
use native.Mathlib.Nat.{le_antisymm}
use borrow.Author.Tests.{eq-eqb, ne_eqb, ltb-true, ltb-false}
use mathlib.Core.Logic.{⊎_elim}
use lib.Dec.{ltb}
use lib.ListN.{get_or, length}
use Rattle.rules.specs.Limits.{count_max}
use Rattle.rules.specs.Refusals.{first_hit, done, outside_limits}
use Rattle.rules.specs.Search.{first}
use Rattle.rules.proofs.Tests.{decide}
use Rattle.rules.proofs.Search
use Rattle.airing.specs.declared.follow.Ending.{Ending}
use Rattle.airing.specs.Air.{in_limits, is_cell_of, all_cells, ticks_answer}
use Rattle.airing.specs.Reasons.{is_skip_forward, first_stray, stray_in}
use Rattle.airing.specs.inner.Steps.{log_answer, is_steady_ending, Ends}

module _ (pool : ℕ) (log : List ℕ) (title : ℕ) where
  outside : in_limits pool title ≡ false → ticks_answer pool log title ≡ outside_limits
  unfolding ticks_answer first_hit
  outside out = rw out refl

  pub skip_outside : in_limits pool title ≡ false → false ≡ is_skip_forward pool log title
  unfolding is_skip_forward
  skip_outside out = rw (outside out) refl

  pub stray_outside : (r : List ℕ) → in_limits pool title ≡ false → length r ≡ stray_in pool log title r
  unfolding stray_in
  stray_outside r out = rw (outside out) refl

  module _ (fits : in_limits pool title ≡ true) (e : Ending) (w : Ends pool log title e) where
    by_log : ticks_answer pool log title ≡ e.answer
    unfolding ticks_answer log_answer first_hit
    by_log = rw fits refl ∙ sym w.answer_is

    pub skip_inside : (b : Bool) → b ≡ is_steady_ending e → b ≡ is_skip_forward pool log title
    unfolding is_skip_forward is_steady_ending
    skip_inside b is = is ∙ rw (by_log, w.steady_is) refl

    pub cap_high : e.answer ≡ done → e.title.film.cap ≤ count_max
    cap_high ok = (w.standing ok).film.cut.high

    pub stray_found : (r : List ℕ) (n : ℕ) → e.answer ≡ done → n ≡ first_stray e.title.film.cap r → n ≡ stray_in pool log title r
    unfolding stray_in
    stray_found r n ok is = is ∙ rw (by_log, eq-eqb e.answer done ok, (w.standing ok).same_film) refl

    pub stray_none : (r : List ℕ) → (e.answer ≡ done → ⊥) → length r ≡ stray_in pool log title r
    unfolding stray_in
    stray_none r not-ok = rw (by_log, ne_eqb e.answer done not-ok) refl

-- a record of cells alone has no stray number
module _ (K : ℕ) (r : List ℕ) where
  abbrev is_stray : ℕ → Bool
  is_stray j = not (is_cell_of K (get_or r j 0))

  pub none_stray : all_cells K r ≡ true → first_stray K r ≡ length r
  unfolding first_stray all_cells
  none_stray all =
      ⊎_elim
      (λ t.
      let lt = ltb-true (first is_stray (length r)) (length r) t in
      let good = Search.every_out (λ j. is_cell_of K (get_or r j 0)) (length r) (first is_stray (length r)) all lt in
      absurd (false≢true (rw good at (Search.first_hit_lem is_stray (length r) lt))))
      (λ t. le_antisymm (Search.first_le is_stray (length r)) (ltb-false (first is_stray (length r)) (length r) t))
      (decide (ltb (first is_stray (length r)) (length r)))
