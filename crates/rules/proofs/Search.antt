-- Laws of the bounded searches and counts: each crosses between a search and the fact it stands for.
-- Order: some, every, first, how_many, after, total. Rest on the laws of tests.
use mathlib.Core.Path.{◌≡◌, refl, sym, ◌∙◌}
use Rattle.std.proofs.Common.{IsTrue, ◌↔◌, List, length, take, get_or, leb}
use mathlib.Core.Bool.{Bool, true, false, false≢true}
use mathlib.Core.Logic.{◌⊎◌, inl, inr, ⊎_elim}
use Prim.Native.Nat.{ℕ, zero, suc, ◌+◌, ◌-◌, ◌≤◌, ◌<◌}
use native.Mathlib.Omega.{arith}
use native.Mathlib.Nat.{le_antisymm}
use lib.Dec.{ltb}
use borrow.Author.Tests.{ltb-true, ltb-false, le-leb, leb-true}
use Rattle.std.proofs.lemmas.List.{get_or-take, length-take-le}
use Rattle.rules.specs.Refusals.{pick}
use Rattle.rules.specs.Search.{some, every, first, keep_first, how_many, after, total}
use Rattle.rules.proofs.Tests.{decide, both_l, both_r, both_in, either_l, either_r, either_out, fails, pick_true}
use Rattle.rules.proofs.Tests.{pick_false}

-- below suc n: below n, or n itself
pub below_suc : (i n : ℕ) → i < suc n → (i < n) ⊎ (i ≡ n)
below_suc i n h =
    ⊎_elim (λ t. inl (ltb-true i n t)) (λ t. inr (le_antisymm (omega arith) (ltb-false i n t))) (decide (ltb i n))

module _ (p : ℕ → Bool) where
  -- ---- some

  pub some_in : (n i : ℕ) → i < n → p i ≡ true → some p n ≡ true
  unfolding some
  some_in zero i l h = absurd (omega arith)
  some_in (suc n) i l h =
      ⊎_elim (λ b. either_r (p n) (some p n) (some_in n i b h)) (λ e. either_l (p n) (some p n) (rw e at h))
      (below_suc i n l)

  pub some_out : (n : ℕ) → some p n ≡ true → (i : ℕ) × (i < n) × (p i ≡ true)
  unfolding some
  some_out zero h = absurd (false≢true h)
  some_out (suc n) h =
      ⊎_elim (λ here. (n, omega arith, here))
      (λ there. let r = some_out n there in (r.0, omega (arith, r.1), r.2))
      (either_out (p n) (some p n) h)

  pub some_none : (n : ℕ) → ((i : ℕ) → i < n → p i ≡ false) → some p n ≡ false
  some_none n f = fails (some p n) (λ h. let r = some_out n h in false≢true (sym (f r.0 r.1) ∙ r.2))

  -- ---- every

  pub every_in : (n : ℕ) → ((i : ℕ) → i < n → p i ≡ true) → every p n ≡ true
  unfolding every
  every_in zero f = refl
  every_in (suc n) f = both_in (p n) (every p n) (f n (omega arith)) (every_in n (λ i l. f i (omega arith)))

  pub every_out : (n i : ℕ) → every p n ≡ true → i < n → p i ≡ true
  unfolding every
  every_out zero i h l = absurd (omega arith)
  every_out (suc n) i h l =
      ⊎_elim (λ b. every_out n i (both_r (p n) (every p n) h) b) (λ e. rw e (both_l (p n) (every p n) h))
      (below_suc i n l)

  -- a test that says of every number below n that its own holds
  pub every_is : (n : ℕ) (b : Bool) → (IsTrue b ↔ ((k : ℕ) → k < n → IsTrue (p k))) → b ≡ every p n
  every_is n true i = sym (every_in n (i.0 refl))
  every_is n false i = sym (fails _ (λ t. false≢true (i.1 (λ k l. every_out n k t l))))

  -- ---- first

  pub first_le : (n : ℕ) → first p n ≤ n
  unfolding first
  first_le zero = omega arith
  first_le (suc n) = go (first p n) (p n) (first_le n)
    where
      go : (f : ℕ) (b : Bool) → f ≤ n → keep_first f n b ≤ suc n
      go f b l =
          ⊎_elim (λ t. rw t (omega arith)) (λ t. rw t (elim b as (λ b. pick b n (suc n) ≤ suc n) [ true ↦ omega arith | false ↦ omega arith ]))
          (decide (ltb f n))

  -- before the first the test fails
  pub first_before : (n i : ℕ) → i < first p n → p i ≡ false
  unfolding first
  first_before zero i l = absurd (omega arith)
  first_before (suc n) i l = go (first p n) (p n) refl (first_le n) (first_before n i) l
    where
      go : (f : ℕ) (b : Bool) → p n ≡ b → f ≤ n → (i < f → p i ≡ false) → i < keep_first f n b → p i ≡ false
      go f b e le ih =
          ⊎_elim (λ t. rw t (λ h. ih h))
          (λ t. rw t (let fn : f ≡ n = le_antisymm le (ltb-false f n t) in at_end b e fn))
          (decide (ltb f n))
        where
          at_end : (b : Bool) → p n ≡ b → f ≡ n → i < pick b n (suc n) → p i ≡ false
          at_end true e fn h = ih (rw fn h)
          at_end false e fn h = ⊎_elim (λ b. ih (rw fn b)) (λ q. rw q e) (below_suc i n h)

  -- where the first is below the bound, the test holds there
  pub first_hit_lem : (n : ℕ) → first p n < n → p (first p n) ≡ true
  unfolding first
  first_hit_lem zero l = absurd (omega arith)
  first_hit_lem (suc n) l = go (first p n) (p n) refl (first_le n) (first_hit_lem n) l
    where
      go : (f : ℕ) (b : Bool) → p n ≡ b → f ≤ n → (f < n → p f ≡ true) → keep_first f n b < suc n →
          p (keep_first f n b) ≡ true
      go f b e le ih =
          ⊎_elim (λ t. rw t (λ h. ih (ltb-true f n t)))
          (λ t. rw t (elim b as (λ b. p n ≡ b → pick b n (suc n) < suc n → p (pick b n (suc n)) ≡ true) [ true ↦ λ e h. e | false ↦ λ e h. absurd (omega arith) ] e))
          (decide (ltb f n))

  -- the first is no later than any number that passes
  pub first_least : (n i : ℕ) → p i ≡ true → first p n ≤ i
  first_least n i h =
      ⊎_elim (λ t. absurd (false≢true (sym (first_before n i (ltb-true i (first p n) t)) ∙ h))) (λ t. ltb-false i (first p n) t)
      (decide (ltb i (first p n)))

  -- ---- how_many

  pub how_many_le : (n : ℕ) → how_many p n ≤ n
  unfolding how_many
  how_many_le zero = omega arith
  how_many_le (suc n) = elim (p n) as (λ b. how_many p n + pick b 1 0 ≤ suc n) [ true ↦ omega (arith, how_many_le n) | false ↦ omega (arith, how_many_le n) ]

  -- one more number raises the count by at most one
  pub how_many_step : (n : ℕ) → (how_many p n ≤ how_many p (suc n)) × (how_many p (suc n) ≤ suc (how_many p n))
  unfolding how_many
  how_many_step n = elim (p n) as (λ b. (how_many p n ≤ how_many p n + pick b 1 0) × (how_many p n + pick b 1 0 ≤ suc (how_many p n))) [ true ↦ omega arith | false ↦ omega arith ]

  pub how_many_hit : (n : ℕ) → p n ≡ true → how_many p (suc n) ≡ suc (how_many p n)
  unfolding how_many
  how_many_hit n h = rw h (omega arith)

  pub how_many_miss : (n : ℕ) → p n ≡ false → how_many p (suc n) ≡ how_many p n
  unfolding how_many
  how_many_miss n h = rw h (omega arith)

  pub how_many_more : (m k : ℕ) → how_many p m ≤ how_many p (m + k)
  how_many_more m zero = rw (native.Mathlib.Nat.add-zero m) (omega arith)
  how_many_more m (suc k) = rw (native.Mathlib.Nat.add-suc m k) (omega (arith, how_many_more m k, how_many_step (m + k)))

  pub how_many_mono : (m n : ℕ) → m ≤ n → how_many p m ≤ how_many p n
  how_many_mono m n l = let e : n ≡ m + (n - m) = omega arith in rw e (how_many_more m (n - m))

  -- numbers that all fail count for nothing
  pub how_many_flat : (m k : ℕ) → ((i : ℕ) → m ≤ i → p i ≡ false) → how_many p (m + k) ≡ how_many p m
  how_many_flat m zero f = rw (native.Mathlib.Nat.add-zero m) refl
  how_many_flat m (suc k) f = rw (native.Mathlib.Nat.add-suc m k) (how_many_miss (m + k) (f (m + k) (omega arith)) ∙ how_many_flat m k f)

  pub how_many_some : (n i : ℕ) → i < n → p i ≡ true → 0 < how_many p n
  how_many_some n i l h = omega (arith, how_many_hit i h, how_many_mono (suc i) n l)

  -- the number that passes with just i before it
  pub how_many_at : (n i : ℕ) → i < how_many p n → (u : ℕ) × (u < n) × (p u ≡ true) × (how_many p u ≡ i)
  how_many_at zero i l = absurd (omega (arith, how_many_le zero))
  how_many_at (suc n) i l =
      ⊎_elim
      (λ h. let r = how_many_at n i h in (r.0, omega (arith, r.1), r.2, r.3))
      (λ e. (n, omega arith, ⊎_elim (λ t. t) (λ t. absurd (omega (arith, how_many_miss n t))) (decide (p n)), sym e))
      (below_suc i (how_many p n) (omega (arith, how_many_step n)))

  -- ---- after

  pub after_le : (n : ℕ) → after p n ≤ n
  unfolding after
  after_le zero = omega arith
  after_le (suc n) = elim (p n) as (λ b. pick b (suc n) (after p n) ≤ suc n) [ true ↦ omega arith | false ↦ omega (arith, after_le n) ]

  -- the number before it passes
  pub after_last : (n m : ℕ) → after p n ≡ suc m → p m ≡ true
  unfolding after
  after_last zero m e = absurd (omega arith)
  after_last (suc n) m e =
      ⊎_elim (λ t. let q : n ≡ m = omega (arith, pick_true (p n) (suc n) (after p n) t) in rw (← q) t)
      (λ t. after_last n m (sym (pick_false (p n) (suc n) (after p n) t) ∙ e))
      (decide (p n))

  -- every number below the bound that passes is below it
  pub after_above : (n i : ℕ) → i < n → p i ≡ true → i < after p n
  unfolding after
  after_above zero i l h = absurd (omega arith)
  after_above (suc n) i l h =
      ⊎_elim (λ t. rw t l)
      (λ t. rw t (⊎_elim (λ b. after_above n i b h) (λ e. absurd (false≢true (sym t ∙ rw e at h))) (below_suc i n l)))
      (decide (p n))

  -- from it up to the bound none passes
  pub after_none : (n i : ℕ) → after p n ≤ i → i < n → p i ≡ false
  after_none n i a l = fails (p i) (λ t. omega (arith, after_above n i l t))

  -- numbers that fail from m on don't move it
  pub after_flat : (m n : ℕ) → m ≤ n → ((i : ℕ) → m ≤ i → i < n → p i ≡ false) → after p n ≡ after p m
  after_flat m n le f =
      le_antisymm (up (after p n) refl) (down (after p m) refl)
    where
      up : (x : ℕ) → after p n ≡ x → x ≤ after p m
      up zero e = omega arith
      up (suc j) e =
          after_above m j
          (⊎_elim (λ t. ltb-true j m t)
          (λ t. absurd (false≢true (sym (f j (ltb-false j m t) (omega (arith, after_le n))) ∙ after_last n j e)))
          (decide (ltb j m)))
          (after_last n j e)

      down : (x : ℕ) → after p m ≡ x → x ≤ after p n
      down zero e = omega arith
      down (suc j) e = after_above n j (omega (arith, after_le m)) (after_last m j e)

-- ---- two tests that agree

-- searches see a test only through its answers below the bound
module _ (p q : ℕ → Bool) where
  pub some_ext : (n : ℕ) → ((i : ℕ) → i < n → p i ≡ q i) → some p n ≡ some q n
  unfolding some
  some_ext zero f = refl
  some_ext (suc n) f = rw (f n (omega arith), some_ext n (λ i l. f i (omega arith))) refl

  pub first_ext : (n : ℕ) → ((i : ℕ) → i < n → p i ≡ q i) → first p n ≡ first q n
  unfolding first
  first_ext zero f = refl
  first_ext (suc n) f = rw (f n (omega arith), first_ext n (λ i l. f i (omega arith))) refl

  pub how_many_ext : (n : ℕ) → ((i : ℕ) → i < n → p i ≡ q i) → how_many p n ≡ how_many q n
  unfolding how_many
  how_many_ext zero f = refl
  how_many_ext (suc n) f = rw (f n (omega arith), how_many_ext n (λ i l. f i (omega arith))) refl

  -- a test that passes wherever another does passes at least as often
  pub how_many_wider : (n : ℕ) → ((i : ℕ) → i < n → p i ≡ true → q i ≡ true) → how_many p n ≤ how_many q n
  how_many_wider zero f = omega (arith, how_many_le p zero)
  how_many_wider (suc n) f =
      let ih : how_many p n ≤ how_many q n = how_many_wider n (λ i l. f i (omega arith)) in
      ⊎_elim
      (λ t. omega (arith, how_many_hit p n t, how_many_hit q n (f n (omega arith) t)))
      (λ t. omega (arith, how_many_miss p n t, how_many_step q n))
      (decide (p n))

  pub after_ext : (n : ℕ) → ((i : ℕ) → i < n → p i ≡ q i) → after p n ≡ after q n
  unfolding after
  after_ext zero f = refl
  after_ext (suc n) f = rw (f n (omega arith), after_ext n (λ i l. f i (omega arith))) refl

-- ---- total

module _ (f g : ℕ → ℕ) where
  pub total_ext : (n : ℕ) → ((i : ℕ) → i < n → f i ≡ g i) → total f n ≡ total g n
  unfolding total
  total_ext zero e = refl
  total_ext (suc n) e = rw (e n (omega arith), total_ext n (λ i l. e i (omega arith))) refl

  pub total_le : (n : ℕ) → ((i : ℕ) → i < n → f i ≤ g i) → total f n ≤ total g n
  unfolding total
  total_le zero e = omega arith
  total_le (suc n) e = omega (arith, e n (omega arith), total_le n (λ i l. e i (omega arith)))

-- a part is at most the sum
pub total_at : (f : ℕ → ℕ) (n i : ℕ) → i < n → f i ≤ total f n
unfolding total
total_at f zero i l = absurd (omega arith)
total_at f (suc n) i l =
    ⊎_elim (λ b. omega (arith, total_at f n i b)) (λ e. rw e (omega arith)) (below_suc i n l)

-- numbers that are all at most a limit, the first n of a row
pub all_at_most : (row : List ℕ) (n most : ℕ) (b : Bool) → n ≤ length row →
    (IsTrue b ↔ ((k : ℕ) → k < length (take n row) → get_or (take n row) k 0 ≤ most)) →
    b ≡ every (λ j. leb (get_or row j 0) most) n
all_at_most row n most b h i =
    let l : length (take n row) ≡ n = length-take-le n row h in
    every_is _ n b (
      λ t k c. le-leb _ _ (rw (get_or-take n row k 0 c) at (i.0 t k (omega arith))),
      λ f. i.1 (λ k c.
          let d : k < n = omega arith in
          rw (get_or-take n row k 0 d) (leb-true _ _ (f k d))),
    )
