-- What holds of every wish of a list, of a list's order, and of the wishes that a sharing gives.
-- Rests on the sharing's own promise and on the laws of lists and searches.
use mathlib.Core.Path.{◌≡◌, refl, ap}
use mathlib.Core.Bool.{Bool, true, false}
use mathlib.Core.List.{List, [], ◌∷◌, ◌++◌, map, map-append}
use mathlib.Core.Logic.{⊎_elim}
use Prim.Native.Nat.{ℕ, zero, suc, ◌≤◌, ◌<◌}
use native.Mathlib.Omega.{arith}
use native.Mathlib.Nat.{le_antisymm}
use lib.Dec.{ltb}
use lib.ListN.{length, get_or}
use borrow.Author.Tests.{ltb-true, ltb-false}
use Rattle.rules.specs.Limits.{titles_max}
use Rattle.rules.specs.Refusals.{pick}
use Rattle.rules.specs.Search.{how_many, total}
use Rattle.rules.proofs.Tests.{decide, both_l, both_r, both_in, fails}
use Rattle.sharing.specs.Choice.{Shared, shared}
use Rattle.story.specs.declared.State.{State}
use Rattle.story.specs.Kept.{open_mode, is_steady_title, title_at, state_ok}
use Rattle.sharers.specs.Sharers.{rates_ok, takes_part, shared_pool, ids_where, sharers, rated, floors_of}
use Rattle.sharers.proofs.Ids.{ids_hit, ids_miss, ids_at, ids_read, ids_total, place_below}
use Rattle.sharers.proofs.Sharers.{sharer_open, sharer_padded}
use Rattle.wishes.specs.Wishes.{Wish, share_of, is_drop, is_raise, wish_for, wishes}
use Rattle.wishes.proofs.shares.Laws.{best_shares, shares_many, share_range}
use Rattle.wishes.proofs.passes.Laws.{wish_of}

-- each wish of a list has a property
pub data Each (P : Wish → Type 0) : List Wish → Type 0 where
  each_none : Each P []
  each_more : {w : Wish} {ws : List Wish} → P w → Each P ws → Each P (w ∷ ws)

-- no wish of a list is of title i
abbrev pub Without : ℕ → List Wish → Type 0
Without i = Each (λ w. w.title ≡ i → ⊥)

-- the titles of a list differ
pub data Apart : List Wish → Type 0 where
  apart_none : Apart []
  apart_more : {w : Wish} {ws : List Wish} → Without w.title ws → Apart ws → Apart (w ∷ ws)

-- a wish for more than a title's count
abbrev pub Raises : (ℕ → ℕ) → Wish → Type 0
Raises count w = count w.title < w.count

-- drops stand before raises
pub data DropsFirst (count : ℕ → ℕ) : List Wish → Type 0 where
  raises_only : {ws : List Wish} → Each (Raises count) ws → DropsFirst count ws
  drop_next : {w : Wish} {ws : List Wish} → w.count < count w.title → DropsFirst count ws → DropsFirst count (w ∷ ws)

-- a wish of the sharing: of a title that takes part, to its share, from its floor to its cap and no count that it has
pub record Wished (s : State) (rates : List ℕ) (w : Wish) : Type 0 where
  pub an_id : w.title < titles_max
  pub is_open : (title_at s w.title).mode ≡ open_mode
  pub padded : is_steady_title (title_at s w.title) ≡ false
  pub low : (title_at s w.title).film.floor ≤ w.count
  pub high : w.count ≤ (title_at s w.title).film.cap
  pub is_share : w.count ≡ share_of s rates w.title
  pub other : w.count ≡ (title_at s w.title).count → ⊥

-- ---- lists of wishes

module _ (P : Wish → Type 0) where
  each_append : (xs ys : List Wish) → Each P xs → Each P ys → Each P (xs ++ ys)
  each_append [] ys each_none b = b
  each_append (x ∷ xs) ys (each_more h a) b = each_more h (each_append xs ys a b)

  each_front : (xs ys : List Wish) → Each P (xs ++ ys) → Each P xs
  each_front [] ys a = each_none
  each_front (x ∷ xs) ys (each_more h a) = each_more h (each_front xs ys a)

  each_behind : (xs ys : List Wish) → Each P (xs ++ ys) → Each P ys
  each_behind [] ys a = a
  each_behind (x ∷ xs) ys (each_more h a) = each_behind xs ys a

  each_at : (d : Wish) (ws : List Wish) (j : ℕ) → j < length ws → Each P ws → P (get_or ws j d)
  each_at d [] j l each_none = absurd (omega arith)
  each_at d (w ∷ ws) zero l (each_more h a) = h
  each_at d (w ∷ ws) (suc j) l (each_more h a) = each_at d ws j (omega arith) a

apart_append : (xs ys : List Wish) → Apart xs → Apart ys → Each (λ w. Without w.title ys) xs → Apart (xs ++ ys)
apart_append [] ys apart_none b e = b
apart_append (x ∷ xs) ys (apart_more h a) b (each_more g e) =
    apart_more (each_append (λ w. w.title ≡ x.title → ⊥) xs ys h g) (apart_append xs ys a b e)

drops_then_raises : (count : ℕ → ℕ) (xs ys : List Wish) → Each (λ w. w.count < count w.title) xs
    → Each (Raises count) ys → DropsFirst count (xs ++ ys)
drops_then_raises count [] ys each_none b = raises_only b
drops_then_raises count (x ∷ xs) ys (each_more h a) b = drop_next h (drops_then_raises count xs ys a b)

-- ---- the wishes of the ids that pass a test

module _ (p : ℕ → Bool) (f : ℕ → ℕ) where
  each_id : (P : Wish → Type 0) (n : ℕ) → ((i : ℕ) → i < n → p i ≡ true → P (wish_of f i)) → Each P (map (wish_of f) (ids_where p n))
  unfolding ids_where
  each_id P zero h = each_none
  each_id P (suc n) h =
      let rest = each_id P n (λ i l. h i (omega arith)) in
      ⊎_elim
      (λ hit. rw (ids_hit p n hit, map-append (wish_of f) (ids_where p n) (n ∷ []))
      (each_append P (map (wish_of f) (ids_where p n)) (wish_of f n ∷ []) rest (each_more (h n (omega arith) hit) each_none)))
      (λ miss. rw (ids_miss p n miss) rest)
      (decide (p n))

  ids_apart : (n : ℕ) → Apart (map (wish_of f) (ids_where p n))
  unfolding ids_where
  ids_apart zero = apart_none
  ids_apart (suc n) =
      ⊎_elim
      (λ hit. rw (ids_hit p n hit, map-append (wish_of f) (ids_where p n) (n ∷ []))
      (apart_append (map (wish_of f) (ids_where p n)) (wish_of f n ∷ []) (ids_apart n) (apart_more each_none apart_none)
      (each_id (λ w. Without w.title (wish_of f n ∷ [])) n (λ i l h. each_more (λ e. omega arith) each_none))))
      (λ miss. rw (ids_miss p n miss) (ids_apart n))
      (decide (p n))

  -- an id that passes is not without its wish
  not_without : (n i : ℕ) → i < n → p i ≡ true → Without i (map (wish_of f) (ids_where p n)) → ⊥
  not_without n i l h none =
      let d = wish_of f i in
      each_at (λ w. w.title ≡ i → ⊥) d (map (wish_of f) (ids_where p n)) (how_many p i) (place_below p (wish_of f) n i l h) none
      (ap (λ (w : Wish). w.title) (ids_at p (wish_of f) d n i l h))

-- ---- the wishes of a sharing

module _ (s : State) (rates : List ℕ) where
  drop_open : (i : ℕ) → is_drop s rates i ≡ true → takes_part s i ≡ true
  drop_open i h = both_l (takes_part s i) (ltb (share_of s rates i) (title_at s i).count) h

  drop_less : (i : ℕ) → is_drop s rates i ≡ true → share_of s rates i < (title_at s i).count
  drop_less i h = ltb-true _ _ (both_r (takes_part s i) (ltb (share_of s rates i) (title_at s i).count) h)

  raise_open : (i : ℕ) → is_raise s rates i ≡ true → takes_part s i ≡ true
  raise_open i h = both_l (takes_part s i) (ltb (title_at s i).count (share_of s rates i)) h

  raise_more : (i : ℕ) → is_raise s rates i ≡ true → (title_at s i).count < share_of s rates i
  raise_more i h = ltb-true _ _ (both_r (takes_part s i) (ltb (title_at s i).count (share_of s rates i)) h)

  drops : List Wish
  drops = map (wish_for s rates) (ids_where (is_drop s rates) titles_max)

  raises : List Wish
  raises = map (wish_for s rates) (ids_where (is_raise s rates) titles_max)

  two_parts : wishes s rates ≡ drops ++ raises
  unfolding wishes drops raises
  two_parts = map-append (wish_for s rates) (ids_where (is_drop s rates) titles_max) (ids_where (is_raise s rates) titles_max)

module _ (s : State) (rates : List ℕ) (ok : state_ok s ≡ true)
    (fit : (length rates ≡ titles_max) × ((rates_ok rates ≡ true) × (floors_of s ≤ shared_pool s))) where
  -- the shares by their titles are the counts that the sharing takes
  pub is_sharing : Shared (shared_pool s) (rated s rates) (map (share_of s rates) (sharers s))
  unfolding share_of sharers
  is_sharing =
      let many = shares_many s rates ok fit.0 fit.1.0 fit.1.1 in
      rw (ids_read (takes_part s) titles_max (shared (shared_pool s) (rated s rates)) many)
      (best_shares s rates ok fit.0 fit.1.0 fit.1.1)

  -- together they fit what is shared
  pub shares_fit : total (λ i. pick (takes_part s i) (share_of s rates i) 0) titles_max ≤ shared_pool s
  unfolding sharers
  shares_fit = rw (← ids_total (takes_part s) (share_of s rates) titles_max) is_sharing.choice.room

  -- a title that takes part is wished its share, where it has another count
  wished : (i : ℕ) → i < titles_max → takes_part s i ≡ true → (share_of s rates i ≡ (title_at s i).count → ⊥)
      → Wished s rates (wish_for s rates i)
  wished i l part other =
      let range = share_range s rates ok fit.0 fit.1.0 fit.1.1 i l part in
      record {
        an_id = l;
        is_open = sharer_open (title_at s i) part;
        padded = sharer_padded (title_at s i) part;
        low = range.0;
        high = range.1;
        is_share = refl;
        other = other;
      }

  pub all_wished : Each (Wished s rates) (wishes s rates)
  unfolding drops raises
  all_wished =
      rw (two_parts s rates)
      (each_append (Wished s rates) (drops s rates) (raises s rates)
      (each_id (is_drop s rates) (share_of s rates) (Wished s rates) titles_max
      (λ i l h. wished i l (drop_open s rates i h) (λ e. omega (arith, drop_less s rates i h))))
      (each_id (is_raise s rates) (share_of s rates) (Wished s rates) titles_max
      (λ i l h. wished i l (raise_open s rates i h) (λ e. omega (arith, raise_more s rates i h)))))

  pub apart : Apart (wishes s rates)
  unfolding drops raises
  apart =
      rw (two_parts s rates)
      (apart_append (drops s rates) (raises s rates) (ids_apart (is_drop s rates) (share_of s rates) titles_max)
      (ids_apart (is_raise s rates) (share_of s rates) titles_max)
      (each_id (is_drop s rates) (share_of s rates) (λ w. Without w.title (raises s rates)) titles_max
      (λ i l h. each_id (is_raise s rates) (share_of s rates) (λ w. w.title ≡ i → ⊥) titles_max
      (λ j m g e. omega (arith, drop_less s rates i h, rw e at (raise_more s rates j g))))))

  pub drops_first : DropsFirst (λ i. (title_at s i).count) (wishes s rates)
  unfolding drops raises
  drops_first =
      rw (two_parts s rates)
      (drops_then_raises (λ i. (title_at s i).count) (drops s rates) (raises s rates)
      (each_id (is_drop s rates) (share_of s rates) (λ w. w.count < (title_at s w.title).count) titles_max
      (λ i l h. drop_less s rates i h))
      (each_id (is_raise s rates) (share_of s rates) (Raises (λ i. (title_at s i).count)) titles_max
      (λ i l h. raise_more s rates i h)))

  -- a title that takes part and has no wish has its share
  pub at_share : (i : ℕ) → i < titles_max → takes_part s i ≡ true → Without i (wishes s rates) → (title_at s i).count ≡ share_of s rates i
  unfolding drops raises
  at_share i l part none =
      let share = share_of s rates i in
      let count = (title_at s i).count in
      let parted = rw (two_parts s rates) at none in
      let no_drop = each_front (λ w. w.title ≡ i → ⊥) (drops s rates) (raises s rates) parted in
      let no_raise = each_behind (λ w. w.title ≡ i → ⊥) (drops s rates) (raises s rates) parted in
      le_antisymm
      (ltb-false share count
      (fails (ltb share count)
      (λ t. not_without (is_drop s rates) (share_of s rates) titles_max i l (both_in (takes_part s i) _ part t) no_drop)))
      (ltb-false count share
      (fails (ltb count share)
      (λ t. not_without (is_raise s rates) (share_of s rates) titles_max i l (both_in (takes_part s i) _ part t) no_raise)))
