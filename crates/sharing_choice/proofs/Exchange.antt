-- The theorem of the sharing: counts at which every lane given was worth at least as much as every lane withheld are
-- the choice to be preferred to all (source 000, Theorem 2, ties included). A choice that differs takes too much, or is
-- bettered by moving or adding a lane. Rests on the laws of a title's part of the sum (proofs/term/Laws) and of one
-- changed count (proofs/Sums).
use mathlib.Core.Path.{◌≡◌, sym, ◌∙◌}
use mathlib.Core.Bool.{true, false, true≢false}
use mathlib.Core.List.{List}
use mathlib.Core.Logic.{◌⊎◌, inl, inr}
use Prim.Native.Nat.{ℕ, zero, suc, ◌+◌, ◌-◌, ◌≤◌, ◌<◌}
use native.Mathlib.Omega.{arith}
use lib.ListN.{length, get_or, set, length-set}
use lib.Seq.{get_or-set_same, get_or-set_other, ext_get_or}
use Rattle.sharing_titles.specs.declared.titles.Rated.{Rated}
use Rattle.sharing_titles.specs.Titles.{rated_title, row_total}
use Rattle.sharing_titles.specs.Term.{fall}
use Rattle.sharing_choice.specs.Choice.{wait_sum, at_least, prefers, Way, Choice, Shared}
use Rattle.sharing_titles.specs.inner.Weighing.{AllWeighable}
use Rattle.sharing_choice.proofs.Order.{side, Trio, less, same, more, trio, or_view}
use Rattle.sharing_choice.proofs.Sums.{total_set, sum_set, raised, way_set, ranks}
use Rattle.sharing_titles.proofs.term.Laws.{falls, fall_rest}

-- ---- counts as they are given

-- a lane given to title i at count a was worth at least as much as one withheld from title j at count b, and more where
-- j comes first
pub record Given (ts : List Rated) (c : List ℕ) : Type 0 where
  pub worth_it : (i j a b : ℕ) → i < length ts → j < length ts → (rated_title ts i).floor ≤ a → a < get_or c i 0
      → get_or c j 0 ≤ b → b < (rated_title ts j).cap
      → fall (rated_title ts j) b ≤ fall (rated_title ts i) a
  pub first_served : (i j a b : ℕ) → i < length ts → j < i → (rated_title ts i).floor ≤ a → a < get_or c i 0 → get_or c j 0 ≤ b
      → b < (rated_title ts j).cap
      → fall (rated_title ts j) b < fall (rated_title ts i) a

-- counts so given, until the pool is used or every title is at its cap
pub record Settled (pool : ℕ) (ts : List Rated) (c : List ℕ) : Type 0 where
  pub choice : Choice pool ts c
  pub given : Given ts c
  pub full : (row_total c ≡ pool) ⊎ ((j : ℕ) → j < length ts → (rated_title ts j).cap ≤ get_or c j 0)

-- ---- where two rows differ

-- a place below n where the first row is less
record Gap (n : ℕ) (p q : List ℕ) : Type 0 where
  at : ℕ
  inside : at < n
  gap : get_or p at 0 < get_or q at 0

gap : (n : ℕ) (p q : List ℕ) → Gap n p q ⊎ ((i : ℕ) → i < n → get_or q i 0 ≤ get_or p i 0)
gap zero p q = inr (λ i h. absurd (omega arith))
gap (suc n) p q = go (gap n p q) (side (get_or p n 0) (get_or q n 0))
  where
    go : Gap n p q ⊎ ((i : ℕ) → i < n → get_or q i 0 ≤ get_or p i 0) → (get_or p n 0 < get_or q n 0) ⊎ (get_or q n 0 ≤ get_or p n 0)
        → Gap (suc n) p q ⊎ ((i : ℕ) → i < suc n → get_or q i 0 ≤ get_or p i 0)
    go (inl g) s = inl (record { at = g.at; inside = omega (arith, g.inside); gap = g.gap })
    go (inr f) (inl s) = inl (record { at = n; inside = omega arith; gap = s })
    go (inr f) (inr s) = inr last
      where
        last : (i : ℕ) → i < suc n → get_or q i 0 ≤ get_or p i 0
        last i h = by (trio i n)
          where
            by : Trio i n → get_or q i 0 ≤ get_or p i 0
            by (less l) = f i l
            by (same e) = rw e s
            by (more g) = absurd (omega arith)

-- ---- a choice that differs can be bettered

module _ (pool : ℕ) (ts : List Rated) (ok : AllWeighable ts) (c x : List ℕ)
    (s : Settled pool ts c) (h : Shared pool ts x) where
  -- no choice has a lesser sum, nor the same sum and a better rank
  no_lesser : (y : List ℕ) → Choice pool ts y → wait_sum ts y < wait_sum ts x → ⊥
  unfolding prefers
  no_lesser y k l = go (or_view (wait_sum ts x) (wait_sum ts y) (at_least x y) (h.best y k))
    where
      go : (wait_sum ts x < wait_sum ts y) ⊎ ((wait_sum ts x ≡ wait_sum ts y) × (at_least x y ≡ true)) → ⊥
      go (inl m) = omega arith
      go (inr m) = omega arith

  no_better : (y : List ℕ) → Choice pool ts y → wait_sum ts y ≡ wait_sum ts x → at_least x y ≡ false → ⊥
  unfolding prefers
  no_better y k e r = go (or_view (wait_sum ts x) (wait_sum ts y) (at_least x y) (h.best y k))
    where
      go : (wait_sum ts x < wait_sum ts y) ⊎ ((wait_sum ts x ≡ wait_sum ts y) × (at_least x y ≡ true)) → ⊥
      go (inl m) = omega arith
      go (inr m) = true≢false (sym m.1 ∙ r)

  -- a lane more than c has at i, and no less elsewhere: c would have had room
  too_many_lem : (i : ℕ) → i < length ts → get_or c i 0 < get_or x i 0 → ((j : ℕ) → j < length ts → get_or c j 0 ≤ get_or x j 0) → ⊥
  too_many_lem i l g up = go s.full
    where
      place : i < length c
      place = omega (arith, s.choice.way.places)

      above : row_total (set c i (suc (get_or c i 0))) ≤ row_total x
      above = raised (length ts) c x s.choice.way.places h.choice.way.places i l g up

      go : (row_total c ≡ pool) ⊎ ((j : ℕ) → j < length ts → (rated_title ts j).cap ≤ get_or c j 0) → ⊥
      go (inl e) = omega (arith, total_set c i (suc (get_or c i 0)) place, above, h.choice.room)
      go (inr f) = omega (arith, f i l, h.choice.way.high i l)

  -- a lane less than c has at j, and no more elsewhere: one more at j would be a lesser sum
  too_few_lem : (j : ℕ) → j < length ts → get_or x j 0 < get_or c j 0 → ((i : ℕ) → i < length ts → get_or x i 0 ≤ get_or c i 0) → ⊥
  too_few_lem j l g up = no_lesser y (record { way = way; room = omega (arith, under, s.choice.room) }) lesser
    where
      y : List ℕ
      y = set x j (suc (get_or x j 0))

      way : Way ts y
      way =
          way_set ts x h.choice.way j (suc (get_or x j 0)) l (omega (arith, h.choice.way.low j l))
          (omega (arith, s.choice.way.high j l))

      under : row_total y ≤ row_total c
      under = raised (length ts) x c h.choice.way.places s.choice.way.places j l g up

      lesser : wait_sum ts y < wait_sum ts x
      lesser =
          omega (
            arith,
            sum_set ts x j (suc (get_or x j 0)) l h.choice.way.places,
            falls (rated_title ts j) (ok.each j l) (get_or x j 0)
                (omega (arith, (ok.each j l).floor_low, h.choice.way.low j l))
                (omega (arith, s.choice.way.high j l)),
          )

  -- more than c has at i and less at j: a lane moved from i to j is no greater a sum, and a better rank where it is the
  -- same
  misplaced : (i j : ℕ) → i < length ts → j < length ts → get_or c i 0 < get_or x i 0 → get_or x j 0 < get_or c j 0 → ⊥
  misplaced i j li lj gi gj = go (trio i j)
    where
      p : ℕ
      p = get_or x i 0 - 1

      z : List ℕ
      z = set x i p

      y : List ℕ
      y = set z j (suc (get_or x j 0))

      last : suc p ≡ get_or x i 0
      last = omega arith

      apart : j ≡ i → ⊥
      apart e = omega (arith, rw e at gj)

      kept : get_or z j 0 ≡ get_or x j 0
      kept = get_or-set_other x i j p 0 apart

      z_way : Way ts z
      z_way =
          way_set ts x h.choice.way i p li (omega (arith, s.choice.way.low i li))
          (omega (arith, h.choice.way.high i li))

      y_way : Way ts y
      y_way =
          way_set ts z z_way j (suc (get_or x j 0)) lj (omega (arith, h.choice.way.low j lj))
          (omega (arith, s.choice.way.high j lj))

      y_choice : Choice pool ts y
      y_choice =
          record {
            way = y_way;
            room = omega (
              arith,
              h.choice.room,
              kept,
              total_set x i p (omega (arith, h.choice.way.places)),
              total_set z j (suc (get_or x j 0)) (omega (arith, z_way.places)),
            );
          }

      sums : wait_sum ts y + fall (rated_title ts j) (get_or x j 0) ≡ wait_sum ts x + fall (rated_title ts i) p
      sums =
          omega (
            arith,
            sum_set ts x i p li h.choice.way.places,
            rw kept at (sum_set ts z j (suc (get_or x j 0)) lj z_way.places),
            rw last at
                (fall_rest (rated_title ts i) (ok.each i li) p
                (omega (arith, (ok.each i li).floor_low, s.choice.way.low i li))
                (omega (arith, h.choice.way.high i li))),
            fall_rest (rated_title ts j) (ok.each j lj) (get_or x j 0)
                (omega (arith, (ok.each j lj).floor_low, h.choice.way.low j lj))
                (omega (arith, s.choice.way.high j lj)),
          )

      worth_it : fall (rated_title ts i) p ≤ fall (rated_title ts j) (get_or x j 0)
      worth_it =
          s.given.worth_it j i (get_or x j 0) p lj li (h.choice.way.low j lj) gj (omega arith)
          (omega (arith, h.choice.way.high i li))

      earlier : j < i → at_least x y ≡ false
      earlier b =
          ranks x y j (sym (length-set z j _ ∙ length-set x i p)) (omega (arith, h.choice.way.places))
          (λ n m. sym (get_or-set_other z j n _ 0 (omega arith) ∙ get_or-set_other x i n p 0 (omega arith)))
          (omega (arith, get_or-set_same z j (suc (get_or x j 0)) 0 (omega (arith, z_way.places))))

      equal : j < i → (wait_sum ts y < wait_sum ts x) ⊎ (wait_sum ts x ≤ wait_sum ts y) → ⊥
      equal b (inl m) = no_lesser y y_choice m
      equal b (inr m) = no_better y y_choice (omega (arith, sums, worth_it)) (earlier b)

      go : Trio i j → ⊥
      go (less b) =
          no_lesser y y_choice
          (omega (
            arith,
            sums,
            s.given.first_served j i (get_or x j 0) p lj b (h.choice.way.low j lj) gj (omega arith)
                (omega (arith, h.choice.way.high i li)),
          ))
      go (same e) = apart (sym e)
      go (more b) = equal b (side (wait_sum ts y) (wait_sum ts x))

  pub settled_is_shared : x ≡ c
  settled_is_shared = go (gap (length ts) c x) (gap (length ts) x c)
    where
      go : Gap (length ts) c x ⊎ ((i : ℕ) → i < length ts → get_or x i 0 ≤ get_or c i 0)
          → Gap (length ts) x c ⊎ ((i : ℕ) → i < length ts → get_or c i 0 ≤ get_or x i 0) → x ≡ c
      go (inl a) (inl b) = absurd (misplaced a.at b.at a.inside b.inside a.gap b.gap)
      go (inl a) (inr b) = absurd (too_many_lem a.at a.inside a.gap b)
      go (inr a) (inl b) = absurd (too_few_lem b.at b.inside b.gap a)
      go (inr a) (inr b) =
          ext_get_or 0 x c (h.choice.way.places ∙ sym s.choice.way.places)
          (λ i l. let m : i < length ts = omega (arith, h.choice.way.places) in omega (arith, a i m, b i m))
