-- The search over all choices finds a choice to be preferred to every other: `shared` is `Shared`. And there is only
-- one such choice. Rests on the order of preference (proofs/Order).
use mathlib.Core.Path.{◌≡◌, refl, sym, subst, ◌∙◌}
use mathlib.Core.Bool.{true, false, true≢false}
use mathlib.Core.List.{List, [], ◌∷◌, ◌++◌, map, flat_map}
use mathlib.Core.Logic.{◌⊎◌, inl, inr}
use Prim.Native.Nat.{ℕ, zero, suc, ◌+◌, ◌-◌, ◌≤◌, ◌<◌}
use native.Mathlib.Omega.{arith}
use lib.Dec.{leb}
use lib.ListN.{length, get_or, length-map, get_or-map}
use borrow.Author.Tests.{leb-true, le-leb}
use Rattle.rules.specs.Limits.{both}
use Rattle.rules.specs.Refusals.{pick}
use Rattle.rules.proofs.Tests.{decide, both_l, both_r, both_in}
use Rattle.sharing_titles.specs.declared.titles.Rated.{Rated}
use Rattle.sharing_titles.specs.Titles.{rated_title, unrated, row_total}
use Rattle.sharing_choice.specs.Choice.{Way, Choice, Shared, prefers, from, ways, better, best_of, shared}
use Rattle.sharing_choice.proofs.Order.{side, prefers_total, prefers_antisym, prefers_trans, prefers_self}

-- ---- one choice at most

-- one choice only is to be preferred to all
pub only_one : (pool : ℕ) (ts : List Rated) (x y : List ℕ) → Shared pool ts x → Shared pool ts y → x ≡ y
only_one pool ts x y p q =
    prefers_antisym ts x y (p.choice.way.places ∙ sym q.choice.way.places) (p.best y q.choice)
    (q.best x p.choice)

-- ---- what holds of every member of a list

-- a property of every member of a list
abbrev All : (List ℕ → Type 0) → List (List ℕ) → Type 0
All P [] = Unit
All P (x ∷ xs) = P x × All P xs

module _ (P : List ℕ → Type 0) where
  all_append : (xs ys : List (List ℕ)) → All P xs → All P ys → All P (xs ++ ys)
  all_append [] ys a b = b
  all_append (x ∷ xs) ys a b = (a.0, all_append xs ys a.1 b)

  all_front : (xs ys : List (List ℕ)) → All P (xs ++ ys) → All P xs
  all_front [] ys a = tt
  all_front (x ∷ xs) ys a = (a.0, all_front xs ys a.1)

  all_back : (xs ys : List (List ℕ)) → All P (xs ++ ys) → All P ys
  all_back [] ys a = a
  all_back (x ∷ xs) ys a = all_back xs ys a.1

  all_map : (f : List ℕ → List ℕ) (xs : List (List ℕ)) → All (λ x. P (f x)) xs → All P (map f xs)
  all_map f [] a = tt
  all_map f (x ∷ xs) a = (a.0, all_map f xs a.1)

  of_map : (f : List ℕ → List ℕ) (xs : List (List ℕ)) → All P (map f xs) → All (λ x. P (f x)) xs
  of_map f [] a = tt
  of_map f (x ∷ xs) a = (a.0, of_map f xs a.1)

  all_from : (g : ℕ → List (List ℕ)) (lo n : ℕ) → ((k : ℕ) → lo ≤ k → k < lo + n → All P (g k))
      → All P (flat_map g (from lo n))
  unfolding flat_map from
  all_from g lo zero h = tt
  all_from g lo (suc n) h =
      all_append (g lo) (flat_map g (from (suc lo) n)) (h lo (omega arith) (omega arith))
      (all_from g (suc lo) n (λ k a b. h k (omega arith) (omega arith)))

  of_from : (g : ℕ → List (List ℕ)) (lo n k : ℕ) → lo ≤ k → k < lo + n → All P (flat_map g (from lo n)) → All P (g k)
  unfolding flat_map from
  of_from g lo zero k a b h = absurd (omega arith)
  of_from g lo (suc n) k a b h =
      go (side lo k) (λ l. of_from g (suc lo) n k l (omega arith) (all_back (g lo) (flat_map g (from (suc lo) n)) h))
    where
      go : (lo < k) ⊎ (k ≤ lo) → (lo < k → All P (g k)) → All P (g k)
      go (inl l) r = r l
      go (inr l) r =
          let e : lo ≡ k = omega arith in
          subst (λ (m : ℕ). All P (g m)) e (all_front (g lo) (flat_map g (from (suc lo) n)) h)

-- ---- the list has every way, and no other row

way_cons : (t : Rated) (ts : List Rated) (k : ℕ) (x : List ℕ) → t.floor ≤ k → k ≤ t.cap → Way ts x
    → Way (t ∷ ts) (k ∷ x)
way_cons t ts k x l h w = record { places = omega (arith, w.places); low = lows; high = highs }
  where
    lows : (i : ℕ) → i < length (t ∷ ts) → (rated_title (t ∷ ts) i).floor ≤ get_or (k ∷ x) i 0
    lows zero b = l
    lows (suc i) b = w.low i (omega arith)

    highs : (i : ℕ) → i < length (t ∷ ts) → get_or (k ∷ x) i 0 ≤ (rated_title (t ∷ ts) i).cap
    highs zero b = h
    highs (suc i) b = w.high i (omega arith)

way_tail : (t : Rated) (ts : List Rated) (k : ℕ) (x : List ℕ) → Way (t ∷ ts) (k ∷ x) → Way ts x
way_tail t ts k x w =
    record {
      places = omega (arith, w.places);
      low = λ i h. w.low (suc i) (omega arith);
      high = λ i h. w.high (suc i) (omega arith);
    }

-- what is listed is a way
sound : (ts : List Rated) → All (Way ts) (ways ts)
unfolding ways
sound [] = (record { places = refl; low = λ i h. absurd (omega arith); high = λ i h. absurd (omega arith) }, tt)
sound (t ∷ ts) =
    let s = sound ts in
    all_from (Way (t ∷ ts)) (λ k. map (λ x. k ∷ x) (ways ts)) t.floor (suc t.cap - t.floor)
    (λ k a b. all_map (Way (t ∷ ts)) (λ x. k ∷ x) (ways ts) (lift k (omega arith) (omega arith) (ways ts) s))
  where
    lift : (k : ℕ) → t.floor ≤ k → k ≤ t.cap → (xs : List (List ℕ)) → All (Way ts) xs
        → All (λ x. Way (t ∷ ts) (k ∷ x)) xs
    lift k a b [] s = tt
    lift k a b (x ∷ xs) s = (way_cons t ts k x a b s.0, lift k a b xs s.1)

-- every way is listed: what holds of all that is listed holds of it
complete : (ts : List Rated) (P : List ℕ → Type 0) → All P (ways ts) → (x : List ℕ) → Way ts x → P x
unfolding ways
complete [] P a [] w = a.0
complete [] P a (k ∷ x) w = absurd (omega (arith, w.places))
complete (t ∷ ts) P a [] w = absurd (omega (arith, w.places))
complete (t ∷ ts) P a (k ∷ x) w =
    complete ts (λ y. P (k ∷ y))
    (of_map P (λ y. k ∷ y) (ways ts)
    (of_from P (λ j. map (λ y. j ∷ y) (ways ts)) t.floor (suc t.cap - t.floor) k (w.low 0 (omega arith))
    (omega (arith, w.low 0 (omega arith), w.high 0 (omega arith))) a))
    x (way_tail t ts k x w)

-- ---- the best of a list

module _ (pool : ℕ) (ts : List Rated) where
  -- the better of a choice and a way is a choice, to be preferred to both
  record Better (x y b : List ℕ) : Type 0 where
    fits : Choice pool ts b
    first : prefers ts b x ≡ true
    second : row_total y ≤ pool → prefers ts b y ≡ true

  better_is : (x y : List ℕ) → Choice pool ts x → Way ts y → Better x y (better pool ts x y)
  unfolding better
  better_is x y c w = go (decide (both (leb (row_total y) pool) (prefers ts y x)))
    where
      other : row_total y ≤ pool → both (leb (row_total y) pool) (prefers ts y x) ≡ false → prefers ts x y ≡ true
      other r e = pick_side (prefers_total ts x y)
        where
          pick_side : (prefers ts x y ≡ true) ⊎ (prefers ts y x ≡ true) → prefers ts x y ≡ true
          pick_side (inl p) = p
          pick_side (inr p) = absurd (true≢false (sym (both_in _ _ (le-leb _ _ r) p) ∙ e))

      go :
          (both (leb (row_total y) pool) (prefers ts y x) ≡ true)
          ⊎ (both (leb (row_total y) pool) (prefers ts y x) ≡ false)
          → Better x y (pick (both (leb (row_total y) pool) (prefers ts y x)) y x)
      go (inl e) =
          rw e
          (record {
            fits = record { way = w; room = leb-true _ _ (both_l (leb (row_total y) pool) (prefers ts y x) e) };
            first = both_r (leb (row_total y) pool) (prefers ts y x) e;
            second = λ r. prefers_self ts y;
          })
      go (inr e) = rw e (record { fits = c; first = prefers_self ts x; second = λ r. other r e })

  -- the best of a choice and a list of ways: a choice, to be preferred to all of them that fit the pool
  record Best (x : List ℕ) (ys : List (List ℕ)) (b : List ℕ) : Type 0 where
    fits : Choice pool ts b
    first : prefers ts b x ≡ true
    rest : All (λ y. row_total y ≤ pool → prefers ts b y ≡ true) ys

  best_is : (ys : List (List ℕ)) (x : List ℕ) → Choice pool ts x → All (Way ts) ys → Best x ys (best_of pool ts x ys)
  unfolding best_of
  best_is [] x c a = record { fits = c; first = prefers_self ts x; rest = tt }
  best_is (y ∷ ys) x c a =
      let n = better_is x y c a.0 in
      join n (best_is ys (better pool ts x y) n.fits a.1)
    where
      join : Better x y (better pool ts x y) → Best (better pool ts x y) ys (best_of pool ts (better pool ts x y) ys)
          → Best x (y ∷ ys) (best_of pool ts (better pool ts x y) ys)
      join n b =
          record {
            fits = b.fits;
            first = over x c.way.places n.first;
            rest = (λ r. over y a.0.places (n.second r), b.rest);
          }
        where
          over : (z : List ℕ) → length z ≡ length ts → prefers ts (better pool ts x y) z ≡ true
              → prefers ts (best_of pool ts (better pool ts x y) ys) z ≡ true
          over z l p =
              prefers_trans ts _ (better pool ts x y) z (b.fits.way.places ∙ sym n.fits.way.places)
              (n.fits.way.places ∙ sym l) b.first p

-- ---- what the search finds

-- the floors are a choice where they are not above the caps and fit the pool
pub floors_way : (ts : List Rated) → ((i : ℕ) → i < length ts → (rated_title ts i).floor ≤ (rated_title ts i).cap)
    → Way ts (map (λ t. t.floor) ts)
floors_way ts h =
    record {
      places = length-map ts (λ t. t.floor);
      low = λ i l. omega (arith, get_or-map (λ (t : Rated). t.floor) ts i unrated);
      high = λ i l. omega (arith, get_or-map (λ (t : Rated). t.floor) ts i unrated, h i l);
    }

-- the search finds what is to be preferred to every choice
pub search_finds : (pool : ℕ) (ts : List Rated) → ((i : ℕ) → i < length ts → (rated_title ts i).floor ≤ (rated_title ts i).cap)
    → row_total (map (λ t. t.floor) ts) ≤ pool → Shared pool ts (shared pool ts)
unfolding shared
search_finds pool ts h r =
    let b =
    best_is pool ts (ways ts) (map (λ t. t.floor) ts) (record { way = floors_way ts h; room = r }) (sound ts) in
    record {
      choice = b.fits;
      best =
          λ y c.
          complete ts (λ z. row_total z ≤ pool → prefers ts (best_of pool ts (map (λ t. t.floor) ts) (ways ts)) z ≡ true)
          b.rest y c.way c.room;
    }
