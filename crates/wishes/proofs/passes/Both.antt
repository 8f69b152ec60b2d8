-- The two passes, over a row with the share of each title that takes part: they have room, and collect the wishes.
-- Rests on the laws of a pass.
use mathlib.Core.Path.{◌≡◌, refl, sym, ap, ◌∙◌}
use mathlib.Core.Bool.{Bool, true, false, not}
use mathlib.Core.List.{List, ◌++◌, map, map-append}
use mathlib.Core.Logic.{⊎_elim}
use Prim.Native.Nat.{ℕ, ◌+◌, ◌≤◌, ◌<◌}
use native.Mathlib.Omega.{arith}
use lib.Dec.{ltb}
use lib.ListN.{get_or}
use borrow.Author.Tests.{ltb-true, le-ltb}
use Rattle.rules.specs.Limits.{both, titles_max}
use Rattle.rules.specs.Search.{how_many}
use Rattle.rules.proofs.Tests.{decide, both_l}
use Rattle.rules.proofs.Search.{how_many_le}
use Rattle.story.specs.declared.State.{State}
use Rattle.story.specs.Kept.{title_at}
use Rattle.sharers.specs.Sharers.{ids_where, takes_part}
use Rattle.wishes.specs.declared.Wishes.{Wishes}
use Rattle.wishes.specs.Wishes.{Wish, share_of, is_drop, is_raise, wishes, wishes_to, wishes_in}
use Rattle.wishes.specs.Shares.{ByShare}
use Rattle.wishes.specs.Passes.{moves_at, no_wishes, pass_to}
use Rattle.wishes.proofs.passes.Laws.{wish_of, pass_many, pass_places, pass_wishes, pass_ext, apart_many}

-- no share is below a count and above it
pub below_not_above : (b : Bool) (x y : ℕ) → both b (ltb x y) ≡ true → both b (ltb y x) ≡ false
below_not_above true x y h = le-ltb y x (omega (arith, ltb-true x y h))
below_not_above false x y h = refl

-- the wishes of tests for drops and for raises, with counts by id
abbrev pub collected : (ℕ → Bool) → (ℕ → Bool) → (ℕ → ℕ) → Wishes
collected drop raise count = pass_to raise count (pass_to drop count no_wishes titles_max) titles_max

-- a first pass collects no more than its test passes
pub first_many : (p : ℕ → Bool) (count : ℕ → ℕ) (n : ℕ) → (pass_to p count no_wishes n).many ≤ how_many p n
first_many p count n = omega (arith, pass_many p count no_wishes n)

module _ (drop raise : ℕ → Bool) (count : ℕ → ℕ) (apart : (i : ℕ) → drop i ≡ true → raise i ≡ false) where
  collected_few : (collected drop raise count).many ≤ titles_max
  collected_few =
      omega (
        arith,
        first_many drop count titles_max,
        pass_many raise count (pass_to drop count no_wishes titles_max) titles_max,
        apart_many drop raise apart titles_max,
      )

  collected_are : wishes_in (collected drop raise count) ≡ map (wish_of count) (ids_where drop titles_max ++ ids_where raise titles_max)
  unfolding wishes_to
  collected_are =
      let first = pass_to drop count no_wishes titles_max in
      let places = pass_places drop count no_wishes titles_max in
      let many = first_many drop count titles_max in
      pass_wishes raise count first titles_max (omega (arith, apart_many drop raise apart titles_max, places, many))
      ∙ (ap (λ (ws : List Wish). ws ++ map (wish_of count) (ids_where raise titles_max))
      (pass_wishes drop count no_wishes titles_max (omega (arith, how_many_le drop titles_max)))
      ∙ sym (map-append (wish_of count) (ids_where drop titles_max) (ids_where raise titles_max)))

-- no title moves both ways
pub one_way : (up : Bool) (s : State) (shares : List ℕ) (i : ℕ) → moves_at up s shares i ≡ true
    → moves_at (not up) s shares i ≡ false
one_way true s shares i h = below_not_above (takes_part s i) (title_at s i).count (get_or shares i 0) h
one_way false s shares i h = below_not_above (takes_part s i) (get_or shares i 0) (title_at s i).count h

-- wishes of the other kind leave room for those of a pass
pub pass_fits : (up : Bool) (s : State) (shares : List ℕ) (n : ℕ) → n ≤ how_many (moves_at (not up) s shares) titles_max
    → n + how_many (moves_at up s shares) titles_max ≤ titles_max
pass_fits up s shares n few =
    omega (arith, apart_many (moves_at up s shares) (moves_at (not up) s shares) (one_way up s shares) titles_max)

module _ (s : State) (shares : List ℕ) where
  -- the row's shares by id
  abbrev share_in : ℕ → ℕ
  share_in i = get_or shares i 0

  pub wishes_few : (collected (moves_at false s shares) (moves_at true s shares) share_in).many ≤ titles_max
  wishes_few = collected_few (moves_at false s shares) (moves_at true s shares) share_in (one_way false s shares)

  module _ (rates : List ℕ) (by : ByShare s rates shares) where
    same_drop : (i : ℕ) → i < titles_max → moves_at false s shares i ≡ is_drop s rates i
    same_drop i l = ⊎_elim (λ part. rw (by.each i l part)) (λ none. rw none) (decide (takes_part s i))

    same_raise : (i : ℕ) → i < titles_max → moves_at true s shares i ≡ is_raise s rates i
    same_raise i l = ⊎_elim (λ part. rw (by.each i l part)) (λ none. rw none) (decide (takes_part s i))

    -- they collect what the shares by definition ask for
    same_drops : pass_to (moves_at false s shares) share_in no_wishes titles_max
        ≡ pass_to (is_drop s rates) (share_of s rates) no_wishes titles_max
    same_drops =
        pass_ext (moves_at false s shares) (is_drop s rates) share_in (share_of s rates) no_wishes titles_max same_drop
        (λ i l h. by.each i l (both_l (takes_part s i) (ltb (share_of s rates i) (title_at s i).count) h))

    same_raises : (w : Wishes) →
        pass_to (moves_at true s shares) share_in w titles_max ≡ pass_to (is_raise s rates) (share_of s rates) w titles_max
    same_raises w =
        pass_ext (moves_at true s shares) (is_raise s rates) share_in (share_of s rates) w titles_max same_raise
        (λ i l h. by.each i l (both_l (takes_part s i) (ltb (title_at s i).count (share_of s rates i)) h))

    pub wishes_are : wishes_in (collected (moves_at false s shares) (moves_at true s shares) share_in) ≡ wishes s rates
    unfolding wishes
    wishes_are =
        ap (λ (w : Wishes). wishes_in w)
        (same_raises (pass_to (moves_at false s shares) share_in no_wishes titles_max)
        ∙ ap (λ (w : Wishes). pass_to (is_raise s rates) (share_of s rates) w titles_max) same_drops)
        ∙ collected_are (is_drop s rates) (is_raise s rates) (share_of s rates)
        (λ i h. below_not_above (takes_part s i) (share_of s rates i) (title_at s i).count h)
