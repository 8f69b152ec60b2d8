-- Laws of the sets G(k, t) and of the lanes: G(k, t) lies within G(k + 1, t), which has exactly one cell more, and lanes
-- 0 to k - 1 carry exactly G(k, t). Rest on the laws of the channels.
use mathlib.Core.Path.{◌≡◌, refl, sym, ap, ◌∙◌}
use mathlib.Core.Bool.{Bool, true, false, not, false≢true}
use mathlib.Core.Logic.{◌⊎◌, inl, inr, ⊎_elim}
use Prim.Native.Nat.{ℕ, zero, suc, ◌+◌, ◌-◌, ◌%◌, ◌^◌, ◌≤◌, ◌<◌}
use native.Mathlib.Omega.{arith}
use native.Mathlib.Nat.{add-zero, add-suc, le_antisymm}
use lib.Dec.{ltb, eqb}
use borrow.Author.Tests.{ltb-true, ltb-false, eqb-true, eqb-false, lt-ltb, le-ltb, eq-eqb, ne_eqb, not-true, not-false}
use Rattle.rules.specs.Refusals.{pick}
use Rattle.rules.specs.Search.{first}
use Rattle.rules.proofs.Tests.{decide, fails, pick_true, pick_false}
use Rattle.rules.proofs.Search.{some_in, some_out, first_le, first_before, first_hit_lem, first_least, some_ext, first_ext}
use Rattle.grid.specs.Channels.{channel_cell, InG}
use Rattle.grid.specs.Lanes.{is_in_g, is_added, added_channel, lane_cell}
use Rattle.grid.proofs.Numbers.{divides_lower}
use Rattle.grid.proofs.Channels.{next_slot, raised, raise, channel_period}
pub use Rattle.grid.proofs.Channels.{distinct}

-- ---- the set as a test

-- the test says what the set says
pub is_in_g_in : (A K k t c : ℕ) → InG A K k t c → is_in_g A K k t c ≡ true
unfolding is_in_g
is_in_g_in A K k t c m = some_in (λ d. eqb (channel_cell A K k d t) c) k m.0 m.1 (eq-eqb (channel_cell A K k m.0 t) c m.2)

pub is_in_g_out : (A K k t c : ℕ) → is_in_g A K k t c ≡ true → InG A K k t c
unfolding is_in_g
is_in_g_out A K k t c h =
    let r = some_out (λ d. eqb (channel_cell A K k d t) c) k h in
    (r.0, r.1, eqb-true (channel_cell A K k r.0 t) c r.2)

pub raised_lt : (A K k t d : ℕ) → d < k → raised A K k t d < suc k
unfolding raised
raised_lt A K k t d l =
    elim (eqb (next_slot A K k t % 2 ^ suc d) 0) as (λ b. pick b d (suc d) < suc k) [ true ↦ omega arith | false ↦ omega arith ]

-- the test by which the channel that is added is found: the first power of two that does not divide the next_slot
abbrev odd : ℕ → ℕ → ℕ → ℕ → ℕ → Bool
odd A K k t d = not (eqb (next_slot A K k t % 2 ^ suc d) 0)

-- the channel of count k + 1 that is none of count k's
unfoldable pub spare : ℕ → ℕ → ℕ → ℕ → ℕ
spare A K k t = first (odd A K k t) k

module _ (A K k t : ℕ) where
  pub spare_le : spare A K k t ≤ k
  unfolding spare
  spare_le = first_le (odd A K k t) k

  raised_below : (d : ℕ) → d < spare A K k t → raised A K k t d ≡ d
  unfolding raised spare
  raised_below d l = pick_true (eqb (next_slot A K k t % 2 ^ suc d) 0) d (suc d) (not-false (eqb (next_slot A K k t % 2 ^ suc d) 0) (first_before (odd A K k t) k d l))

  raised_above : (d : ℕ) → spare A K k t ≤ d → d < k → raised A K k t d ≡ suc d
  unfolding raised spare
  raised_above d a l =
      pick_false (eqb (next_slot A K k t % 2 ^ suc d) 0) d (suc d)
      (ne_eqb (next_slot A K k t % 2 ^ suc d) 0
      (λ z. let s : ℕ = first (odd A K k t) k in
      eqb-false (next_slot A K k t % 2 ^ suc s) 0
      (not-true (eqb (next_slot A K k t % 2 ^ suc s) 0) (first_hit_lem (odd A K k t) k (omega arith)))
      (divides_lower (suc s) (suc d) (next_slot A K k t) (omega arith) z)))

  not_raised : (d : ℕ) → d < k → raised A K k t d ≡ spare A K k t → ⊥
  not_raised d l e =
      ⊎_elim (λ h. omega (arith, raised_below d (ltb-true d (spare A K k t) h), ltb-true d (spare A K k t) h))
      (λ h. omega (arith, raised_above d (ltb-false d (spare A K k t) h) l, ltb-false d (spare A K k t) h))
      (decide (ltb d (spare A K k t)))

-- ---- the added channel

-- below the floor a lane carries its channel of count A
pub lane_channel : (A K l t : ℕ) → l < A → lane_cell A K l t ≡ channel_cell A K A l t
unfolding lane_cell
lane_channel A K l t b = rw (lt-ltb l A b) refl

-- from the floor on it carries the channel that is added
pub lane_added : (A K l t : ℕ) → A ≤ l → lane_cell A K l t ≡ channel_cell A K (suc l) (added_channel A K l t) t
unfolding lane_cell
lane_added A K l t b = rw (le-ltb l A b) refl

module _ (A K k t : ℕ) (low : A ≤ k) (high : k < K) where
  -- the spare channel's cell is no cell of count k
  spare_fresh : InG A K k t (channel_cell A K (suc k) (spare A K k t) t) → ⊥
  spare_fresh m =
      not_raised A K k t m.0 m.1
      (distinct A K (suc k) t (raised A K k t m.0) (spare A K k t) (omega arith) (omega arith) (raised_lt A K k t m.0 m.1)
      (omega (arith, spare_le A K k t)) (sym (raise A K k t low high m.0 m.1) ∙ m.2))

  -- every other channel's is
  others : (e : ℕ) → e < suc k → (e ≡ spare A K k t → ⊥) → InG A K k t (channel_cell A K (suc k) e t)
  others e l n =
      ⊎_elim
      (λ h. let b : e < spare A K k t = ltb-true e (spare A K k t) h in
      let le : spare A K k t ≤ k = spare_le A K k t in
      (e, omega arith, raise A K k t low high e (omega arith) ∙ ap (λ d. channel_cell A K (suc k) d t) (raised_below A K k t e b)))
      (λ h. above e l n (ltb-false e (spare A K k t) h))
      (decide (ltb e (spare A K k t)))
    where
      above : (e : ℕ) → e < suc k → (e ≡ spare A K k t → ⊥) → spare A K k t ≤ e →
          InG A K k t (channel_cell A K (suc k) e t)
      above zero l n h = absurd (n (omega arith))
      above (suc d) l n h =
          let s : spare A K k t ≤ d = omega (arith, n) in
          (d, omega arith, raise A K k t low high d (omega arith) ∙ ap (λ d. channel_cell A K (suc k) d t) (raised_above A K k t d s (omega arith)))

  spare_added : is_added A K k t (spare A K k t) ≡ true
  unfolding is_added
  spare_added =
      let c : ℕ = channel_cell A K (suc k) (spare A K k t) t in
      rw (fails (is_in_g A K k t c) (λ h. spare_fresh (is_in_g_out A K k t c h))) refl

  -- only one passes the test
  added_only : (d : ℕ) → d < suc k → is_added A K k t d ≡ true → d ≡ spare A K k t
  unfolding is_added
  added_only d l h =
      let c : ℕ = channel_cell A K (suc k) d t in
      ⊎_elim (λ e. eqb-true d (spare A K k t) e)
      (λ e. absurd (false≢true (sym (not-true (is_in_g A K k t c) h) ∙ is_in_g_in A K k t c (others d l (eqb-false d (spare A K k t) e)))))
      (decide (eqb d (spare A K k t)))

  pub added_spare : added_channel A K k t ≡ spare A K k t
  unfolding added_channel
  added_spare =
      let s : first (is_added A K k t) (suc k) ≤ spare A K k t = first_least (is_added A K k t) (suc k) (spare A K k t) spare_added in
      let l : first (is_added A K k t) (suc k) < suc k = omega (arith, spare_le A K k t) in
      added_only (first (is_added A K k t) (suc k)) l (first_hit_lem (is_added A K k t) (suc k) l)

  pub lane_spare : lane_cell A K k t ≡ channel_cell A K (suc k) (spare A K k t) t
  lane_spare = lane_added A K k t low ∙ ap (λ d. channel_cell A K (suc k) d t) added_spare

-- ---- containment, and one cell more

-- Corollary 1 of source 000: G(k, t) lies within G(k + 1, t)
pub nested : (A K k t c : ℕ) → A ≤ k → k < K → InG A K k t c → InG A K (suc k) t c
nested A K k t c low high m =
    (raised A K k t m.0, raised_lt A K k t m.0 m.1, sym (raise A K k t low high m.0 m.1) ∙ m.2)

-- G(k + 1, t) is G(k, t) and one cell more, which lane k carries
pub record OneMore (A K k t : ℕ) : Type 0 where
  pub old : (c : ℕ) → InG A K k t c → InG A K (suc k) t c
  pub new : InG A K (suc k) t (lane_cell A K k t)
  pub fresh : InG A K k t (lane_cell A K k t) → ⊥
  pub no_other : (c : ℕ) → InG A K (suc k) t c → InG A K k t c ⊎ (c ≡ lane_cell A K k t)

pub one_more : (A K k t : ℕ) → A ≤ k → k < K → OneMore A K k t
one_more A K k t low high =
    record {
      old = λ c. nested A K k t c low high;
      new = (spare A K k t, omega (arith, spare_le A K k t), sym (lane_spare A K k t low high));
      fresh = λ m. spare_fresh A K k t low high (m.0, m.1, m.2 ∙ lane_spare A K k t low high);
      no_other = λ c m.
          ⊎_elim
          (λ e. inr (sym m.2 ∙ ap (λ d. channel_cell A K (suc k) d t) (eqb-true m.0 (spare A K k t) e) ∙ sym (lane_spare A K k t low high)))
          (λ e. let r = others A K k t low high m.0 m.1 (eqb-false m.0 (spare A K k t) e) in inl (r.0, r.1, r.2 ∙ m.2))
          (decide (eqb m.0 (spare A K k t)));
    }

-- a larger count has the cells of a smaller
pub nested_up : (A K k t c n : ℕ) → A ≤ k → k + n ≤ K → InG A K k t c → InG A K (k + n) t c
nested_up A K k t c zero low high m = rw (add-zero k) m
nested_up A K k t c (suc n) low high m =
    rw (add-suc k n) (nested A K (k + n) t c (omega arith) (omega arith) (nested_up A K k t c n low (omega arith) m))

pub nested_to : (A K k m t c : ℕ) → A ≤ k → k ≤ m → m ≤ K → InG A K k t c → InG A K m t c
nested_to A K k m t c low l high i =
    let e : k + (m - k) ≡ m = omega arith in rw e at (nested_up A K k t c (m - k) low (omega arith) i)

-- ---- lanes and cells

pub cell_of_lane : (A K k l t : ℕ) → A ≤ k → k ≤ K → l < k → InG A K k t (lane_cell A K l t)
cell_of_lane A K k l t low high b =
    ⊎_elim
    (λ h. let f : l < A = ltb-true l A h in nested_to A K A k t (lane_cell A K l t) (omega arith) low high (l, f, sym (lane_channel A K l t f)))
    (λ h. let f : A ≤ l = ltb-false l A h in nested_to A K (suc l) k t (lane_cell A K l t) (omega arith) b high (one_more A K l t f (omega arith)).new)
    (decide (ltb l A))

pub lane_not_in : (A K k l t : ℕ) → A ≤ k → k ≤ l → l < K → InG A K k t (lane_cell A K l t) → ⊥
lane_not_in A K k l t low b high m =
    (one_more A K l t (omega arith) high).fresh (nested_to A K k l t (lane_cell A K l t) low b (omega arith) m)

lane_up : (A K t c n : ℕ) → A + n ≤ K → InG A K (A + n) t c → (l : ℕ) × (l < A + n) × (lane_cell A K l t ≡ c)
lane_up A K t c zero high m =
    let l : m.0 < A = omega (arith, m.1) in
    (m.0, m.1, lane_channel A K m.0 t l ∙ rw (add-zero A) at m.2)
lane_up A K t c (suc n) high m =
    let s : InG A K (suc (A + n)) t c = rw (add-suc A n) at m in
    ⊎_elim (λ i. let r = lane_up A K t c n (omega arith) i in (r.0, omega (arith, r.1), r.2))
    (λ e. (A + n, omega arith, sym e))
    ((one_more A K (A + n) t (omega arith) (omega arith)).no_other c s)

-- lanes 0 to k - 1 carry all of G(k, t)
pub lane_of_cell : (A K k t c : ℕ) → A ≤ k → k ≤ K → InG A K k t c → (l : ℕ) × (l < k) × (lane_cell A K l t ≡ c)
lane_of_cell A K k t c low high m =
    let e : k ≡ A + (k - A) = omega arith in
    rw e (lane_up A K t c (k - A) (omega arith) (rw e at m))

-- no two lanes carry one cell
lane_before : (A K l m t : ℕ) → A ≤ K → l < m → m < K → lane_cell A K l t ≡ lane_cell A K m t → ⊥
lane_before A K l m t floor b high e =
    ⊎_elim
    (λ h. let f : m < A = ltb-true m A h in
    let same : l ≡ m = distinct A K A t l m (omega arith) floor (omega arith) f
    (sym (lane_channel A K l t (omega arith)) ∙ e ∙ lane_channel A K m t f) in
    omega arith)
    (λ h. let f : A ≤ m = ltb-false m A h in
    let i = cell_of_lane A K m l t f (omega arith) b in
    (one_more A K m t f high).fresh (i.0, i.1, i.2 ∙ e))
    (decide (ltb m A))

pub lanes_apart : (A K l m t : ℕ) → A ≤ K → l < K → m < K → lane_cell A K l t ≡ lane_cell A K m t → l ≡ m
lanes_apart A K l m t floor a b e =
    ⊎_elim (λ h. absurd (lane_before A K l m t floor (ltb-true l m h) b e))
    (λ h. ⊎_elim (λ g. absurd (lane_before A K m l t floor (ltb-true m l g) a (sym e)))
    (λ g. le_antisymm (ltb-false m l g) (ltb-false l m h)) (decide (ltb m l)))
    (decide (ltb l m))

-- ---- the period

-- lanes repeat with the grid's period
module _ (A K t : ℕ) (floor : A ≤ K) where
  same_in : (k c : ℕ) → k ≤ K → is_in_g A K k (t + 2 ^ (K - 1)) c ≡ is_in_g A K k t c
  unfolding is_in_g
  same_in k c l =
      some_ext (λ d. eqb (channel_cell A K k d (t + 2 ^ (K - 1))) c) (λ d. eqb (channel_cell A K k d t) c) k
      (λ d b. ap (λ x. eqb x c) (channel_period A K k d t l b))

  same_added : (l : ℕ) → l < K → added_channel A K l (t + 2 ^ (K - 1)) ≡ added_channel A K l t
  unfolding added_channel is_added
  same_added l b =
      first_ext (is_added A K l (t + 2 ^ (K - 1))) (is_added A K l t) (suc l)
      (λ d i. ap not (ap (is_in_g A K l (t + 2 ^ (K - 1))) (channel_period A K (suc l) d t b i) ∙ same_in l (channel_cell A K (suc l) d t) (omega arith)))

  pub lane_period : (l : ℕ) → l < K → lane_cell A K l (t + 2 ^ (K - 1)) ≡ lane_cell A K l t
  unfolding lane_cell
  lane_period l b =
      ⊎_elim (λ h. rw h (channel_period A K A l t floor (ltb-true l A h)))
      (λ h. rw h
      (let f : A ≤ l = ltb-false l A h in
      let s : added_channel A K l t ≤ l = rw (added_spare A K l t f b) (spare_le A K l t) in
      ap (λ d. channel_cell A K (suc l) d (t + 2 ^ (K - 1))) (same_added l b) ∙ channel_period A K (suc l) (added_channel A K l t) t b (omega arith)))
      (decide (ltb l A))
