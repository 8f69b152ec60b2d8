-- How many numbers pass a test whose answers come in stretches: of each the first so many pass and no other. And which number is the one
-- with just so many before it. Rest on the laws of searches and counts.
use mathlib.Core.Path.{◌≡◌, sym, ap, ◌∙◌}
use mathlib.Core.Bool.{Bool, true, false}
use mathlib.Core.Logic.{⊎_elim}
use Prim.Native.Nat.{ℕ, zero, suc, ◌+◌, ◌-◌, ◌*◌, ◌/◌, ◌%◌, ◌≤◌, ◌<◌, min}
use native.Mathlib.Omega.{arith}
use native.Mathlib.Nat.{add-zero, add-suc, le_antisymm, mod-lt, div-add-mod', div-lt_iff_lt-mul}
use lib.Dec.{ltb, eqb}
use borrow.Author.Tests.{ltb-true, ltb-false, le-ltb, eqb-true, eq-eqb}
use Rattle.rules.specs.Limits.{both}
use Rattle.rules.specs.Search.{first, how_many}
use Rattle.rules.proofs.Tests.{decide, both_l, both_r, both_in}
use Rattle.rules.proofs.Search.{first_le, first_hit_lem, first_least, how_many_hit, how_many_miss, how_many_mono}

module _ (p : ℕ → Bool) where
  -- of k numbers from m on the first b pass
  pub prefix : (m k b : ℕ) → ((r : ℕ) → r < k → p (m + r) ≡ ltb r b) → how_many p (m + k) ≡ how_many p m + min k b
  prefix m zero b f = rw (add-zero m) (omega arith)
  prefix m (suc k) b f =
      let ih : how_many p (m + k) ≡ how_many p m + min k b = prefix m k b (λ r l. f r (omega arith)) in
      rw (add-suc m k)
      (⊎_elim
      (λ t. let h : k < b = ltb-true k b t in omega (arith, how_many_hit p (m + k) (f k (omega arith) ∙ t)))
      (λ t. let h : b ≤ k = ltb-false k b t in omega (arith, how_many_miss p (m + k) (f k (omega arith) ∙ t)))
      (decide (ltb k b)))

  -- slots of w numbers in which none passes
  pub skipped : (w n k : ℕ) → 0 < w → n ≤ k → ((i r : ℕ) → n ≤ i → i < k → r < w → p (i * w + r) ≡ false) →
      how_many p (k * w) ≡ how_many p (n * w)
  skipped w n k pos l none =
      let e : k * w ≡ n * w + (k - n) * w = sym (ap (λ x. x * w) (le_split n k l)) ∙ split n (k - n) in
      rw e (prefix (n * w) ((k - n) * w) 0 each ∙ omega arith)
    where
      le_split : (a b : ℕ) → a ≤ b → a + (b - a) ≡ b
      le_split a b h = omega arith

      split : (a b : ℕ) → (a + b) * w ≡ a * w + b * w
      split a b = omega arith

      each : (o : ℕ) → o < (k - n) * w → p (n * w + o) ≡ ltb o 0
      each o b =
          let d : o / w * w + o % w ≡ o = div-add-mod' o w in
          let s : o / w < k - n = (div-lt_iff_lt-mul {k = w} {x = o} {y = k - n} pos).1 b in
          let e : n * w + o ≡ (n + o / w) * w + o % w = omega arith in
          rw (e, le-ltb o 0 (omega arith)) (none (n + o / w) (o % w) (omega arith) (omega arith) (mod-lt o pos))

  -- the one number that passes with just n before it
  abbrev nth : ℕ → ℕ → Bool
  nth n o = both (p o) (eqb (how_many p o) n)

  pub nth_is : (N n o : ℕ) → o < N → p o ≡ true → how_many p o ≡ n → first (nth n) N ≡ o
  nth_is N n o l h c =
      let f : ℕ = first (nth n) N in
      let least : f ≤ o = first_least (nth n) N o (both_in (p o) (eqb (how_many p o) n) h (eq-eqb (how_many p o) n c)) in
      let hit : both (p f) (eqb (how_many p f) n) ≡ true = first_hit_lem (nth n) N (omega arith) in
      let here : p f ≡ true = both_l (p f) (eqb (how_many p f) n) hit in
      let count : how_many p f ≡ n = eqb-true (how_many p f) n (both_r (p f) (eqb (how_many p f) n) hit) in
      ⊎_elim
      (λ t. let b : f < o = ltb-true f o t in absurd (omega (arith, how_many_hit p f here, how_many_mono p (suc f) o b)))
      (λ t. le_antisymm least (ltb-false f o t))
      (decide (ltb f o))

  pub nth_none : (N n : ℕ) → how_many p N ≤ n → first (nth n) N ≡ N
  nth_none N n few =
      let f : ℕ = first (nth n) N in
      ⊎_elim
      (λ t.
      let b : f < N = ltb-true f N t in
      let hit : both (p f) (eqb (how_many p f) n) ≡ true = first_hit_lem (nth n) N b in
      let count : how_many p f ≡ n = eqb-true (how_many p f) n (both_r (p f) (eqb (how_many p f) n) hit) in
      absurd (omega (arith, how_many_hit p f (both_l (p f) (eqb (how_many p f) n) hit), how_many_mono p (suc f) N b)))
      (λ t. le_antisymm (first_le (nth n) N) (ltb-false f N t))
      (decide (ltb f N))
