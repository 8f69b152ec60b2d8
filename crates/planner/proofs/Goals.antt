-- What each title is to have, and that all of it fits the pool: the shares fit what is shared, and what skip-forward titles
-- keep is held. Rests on lanes that are active being held, and on the laws of sums.
use mathlib.Core.Path.{◌≡◌, refl}
use mathlib.Core.Bool.{Bool, true, false, not}
use mathlib.Core.Logic.{⊎_elim}
use mathlib.Core.List.{List}
use Prim.Native.Nat.{ℕ, zero, suc, ◌+◌, ◌≤◌}
use native.Mathlib.Omega.{arith}
use lib.Dec.{eqb}
use borrow.Author.Tests.{eqb-true, eq-eqb, ne_eqb}
use Rattle.rules.specs.Limits.{both, titles_max}
use Rattle.rules.specs.Refusals.{pick}
use Rattle.rules.specs.Search.{how_many, total}
use Rattle.rules.proofs.Tests.{decide, both_l, both_in, pick_true}
use Rattle.rules.proofs.Search.{how_many_mono, total_le}
use Rattle.story.specs.declared.Title.{Title}
use Rattle.story.specs.declared.State.{State}
use Rattle.story.specs.Kept.{absent_mode, open_mode, is_steady_title, title_at, title_ok, state_ok, tick_at}
use Rattle.story.specs.Kept.{ruling, kept_held, title_held, lanes_held}
use Rattle.measures.proofs.Within.{title_ok_lem, count_fit}
use Rattle.measures.proofs.Active.{active_held}
use Rattle.sharers.specs.Sharers.{is_sharer, takes_part, kept_apart, shared_pool}
use Rattle.wishes.specs.Wishes.{share_of}
use Rattle.planner.specs.Carried.{goal_of}

pub goal_share : (s : State) (rates : List ℕ) (i : ℕ) → (title_at s i).mode ≡ open_mode → is_steady_title (title_at s i) ≡ false →
    goal_of s rates i ≡ share_of s rates i
goal_share s rates i is_open padded =
    pick_true (takes_part s i) (share_of s rates i) (ruling (title_at s i))
    (both_in (eqb (title_at s i).mode open_mode) (not (is_steady_title (title_at s i)))
    (eq-eqb (title_at s i).mode open_mode is_open) (rw padded refl))

-- of a title that takes part the count rules
pub part_rules : (s : State) (i : ℕ) → takes_part s i ≡ true → ruling (title_at s i) ≡ (title_at s i).count
unfolding ruling
part_rules s i part = rw (both_l (eqb (title_at s i).mode open_mode) (not (is_steady_title (title_at s i))) part) refl

-- ---- what is kept apart is held

-- each active lane is held
rules_held : (t : Title) → title_ok t ≡ true → (τ : ℕ) → ruling t ≤ title_held t τ
unfolding ruling title_held
rules_held t ok τ =
    ⊎_elim
    (λ x.
    let is_open : t.mode ≡ open_mode = eqb-true t.mode open_mode x in
    let there : t.mode ≡ absent_mode → ⊥ = λ e. omega arith in
    let held : ℕ → Bool = λ l. kept_held t l (tick_at t τ) in
    let rules : ruling t ≡ t.count = rw x refl in
    let active : how_many held t.count ≡ t.count = active_held t (tick_at t τ) t.count (omega arith) in
    let more : how_many held t.count ≤ how_many held t.film.cap = how_many_mono held t.count t.film.cap (count_fit t ok there) in
    rw (x, ne_eqb t.mode absent_mode there) (omega arith))
    (λ x. rw x (omega arith))
    (decide (eqb t.mode open_mode))

apart_rules : (t : Title) → kept_apart t ≤ ruling t
apart_rules t = go (is_steady_title t)
  where
    go : (b : Bool) → pick b (ruling t) 0 ≤ ruling t
    go true = omega arith
    go false = omega arith

-- ---- sums

-- a share, or the lanes of a skip-forward title, or nothing
by_parts : (t : Title) (share : ℕ) → pick (is_sharer t) share (ruling t) ≡ pick (is_sharer t) share 0 + kept_apart t
unfolding ruling
by_parts t share = go (eqb t.mode open_mode) (is_steady_title t)
  where
    go : (o b : Bool) →
        pick (both o (not b)) share (pick o t.count 0) ≡ pick (both o (not b)) share 0 + pick b (pick o t.count 0) 0
    go true true = omega arith
    go true false = omega arith
    go false true = refl
    go false false = refl

total_parts : (f g h : ℕ → ℕ) → ((i : ℕ) → h i ≡ f i + g i) → (n : ℕ) → total h n ≡ total f n + total g n
unfolding total
total_parts f g h e zero = refl
total_parts f g h e (suc n) = omega (arith, e n, total_parts f g h e n)

-- the goals fit the pool, where no more than the pool is held at some time
module _ (s : State) (rates : List ℕ) (ok : state_ok s ≡ true) (τ : ℕ) (held : lanes_held s τ ≤ s.pool) where
  apart_fits : total (λ i. kept_apart (title_at s i)) titles_max ≤ s.pool
  unfolding lanes_held
  apart_fits =
      let active = total_le (λ i. kept_apart (title_at s i)) (λ i. title_held (title_at s i) τ) titles_max
      (λ i b. omega (arith, apart_rules (title_at s i), rules_held (title_at s i) (title_ok_lem s ok i b) τ)) in
      omega arith

  pub goals_fit : total (λ i. pick (takes_part s i) (share_of s rates i) 0) titles_max ≤ shared_pool s →
      total (goal_of s rates) titles_max ≤ s.pool
  unfolding shared_pool
  goals_fit shares =
      let apart = apart_fits in
      omega (
        arith,
        total_parts (λ i. pick (takes_part s i) (share_of s rates i) 0) (λ i. kept_apart (title_at s i)) (goal_of s rates)
            (λ i. by_parts (title_at s i) (share_of s rates i)) titles_max,
      )
