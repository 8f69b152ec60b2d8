-- The numbers of a lane below the floor as the code computes them. Rests on the definitions.
use mathlib.Core.Path.{◌≡◌, refl}
use mathlib.Core.List.{List}
use mathlib.Core.Logic.{⊎_elim}
use Prim.Native.Nat.{ℕ, suc, ◌+◌, ◌-◌, ◌/◌, ◌%◌, ◌^◌, ◌≤◌, ◌<◌, min}
use native.Mathlib.Omega.{arith}
use native.Mathlib.Nat.{mod-lt}
use lib.Dec.{ltb, eqb}
use lib.Pow.{pow_pos, pow_mono}
use borrow.Author.Tests.{eq-eqb, ne_eqb, ltb-true, ltb-false}
use Rattle.rules.specs.Limits.{asked_max, count_max}
use Rattle.rules.proofs.Tests.{decide, pick_true, pick_false}
use Rattle.grid.specs.Ticks.{slot}
use Rattle.grid.specs.Bounds.{Exactly, IsRest}
use Rattle.grid.proofs.Ticks.{slot_pos}
use Rattle.stretches.specs.declared.low.Low.{Low}
use Rattle.stretches.specs.inner.Low.{Lower, place_at, left_at, IsTill, decisive, IsLength}

module _ (s : Low) (h : Lower s) where
  pub width_pos : 0 < s.width
  width_pos = rw h.wide (slot_pos s.cap s.floor)

  pub width_high : s.width ≤ 2 ^ count_max
  unfolding slot
  width_high =
      let m : 2 ^ (s.cap - s.floor) ≤ 2 ^ count_max = pow_mono {i = s.cap - s.floor} {j = count_max} (omega (arith, h.high)) in
      rw h.wide m

  pub own_pos : 0 < s.own
  own_pos = rw h.owns (pow_pos s.lane)

  pub own_high : s.own ≤ 2 ^ count_max
  own_high =
      let m : 2 ^ s.lane ≤ 2 ^ count_max = pow_mono {i = s.lane} {j = count_max} (omega (arith, h.below, h.fit, h.high)) in
      rw h.owns m

  pub left_exactly : (u : ℕ) → Exactly (left_at s.floor s.cap u) 1 (2 ^ count_max) (s.width - u % s.width)
  left_exactly u =
      let r : u % s.width < s.width = mod-lt u width_pos in
      record { is = rw h.wide refl; low = omega arith; high = omega (arith, width_high) }

  pub place_rest : (u : ℕ) → IsRest (place_at s.floor s.cap s.lane u) (2 ^ s.lane) (u / s.width % s.own)
  place_rest u = rw (h.wide, h.owns) (record { is = refl; less = mod-lt (u / slot s.cap s.floor) (pow_pos s.lane) })

module _ (A K l u : ℕ) where
  -- up to the highest power of two that is less than what is left
  pub length_first : (k r : ℕ) → r ≡ 2 ^ k → r ≤ left_at A K u - 1 → left_at A K u - 1 < 2 ^ suc k → (left_at A K u ≡ 1 → ⊥) → IsLength A K l u (left_at A K u - r)
  unfolding slot
  length_first k r is low high more =
      let o : 0 < 2 ^ k = pow_pos k in
      record {
        some = omega arith;
        within = omega arith;
        apart = λ z c from fit d. omega (arith, lower (K - c) (omega arith));
      }
    where
      lower : (n : ℕ) → 2 ^ n ≤ left_at A K u - 1 → 2 ^ n ≤ 2 ^ k
      lower n b =
          ⊎_elim
          (λ t. let m : 2 ^ suc k ≤ 2 ^ n = pow_mono {i = suc k} {j = n} (ltb-true k n t) in absurd (omega arith))
          (λ t. pow_mono {i = n} {j = k} (ltb-false k n t))
          (decide (ltb k n))

  pub decisive_first : place_at A K l u ≡ 0 → decisive A K l u ≡ left_at A K u
  unfolding decisive
  decisive_first z = pick_true (eqb (place_at A K l u) 0) (left_at A K u) 0 (eq-eqb (place_at A K l u) 0 z)

  pub decisive_later : (place_at A K l u ≡ 0 → ⊥) → decisive A K l u ≡ 0
  unfolding decisive
  decisive_later some = pick_false (eqb (place_at A K l u) 0) (left_at A K u) 0 (ne_eqb (place_at A K l u) 0 some)

-- what decides at a tick, as the code finds it
pub till_first : (ends : List ℕ) (A K l u left m : ℕ) → place_at A K l u ≡ 0 → left ≡ left_at A K u → IsTill ends A K l left m → IsTill ends A K l (decisive A K l u) m
till_first ends A K l u left m z e h = rw (decisive_first A K l u z, ← e) h

pub till_later : (ends : List ℕ) (A K l u m : ℕ) → (place_at A K l u ≡ 0 → ⊥) → IsTill ends A K l 0 m → IsTill ends A K l (decisive A K l u) m
till_later ends A K l u m some h = rw (decisive_later A K l u some) h

-- a tick of a walk up to `end` has room
pub tick_fits : (at i end far more : ℕ) → at ≤ asked_max → i ≤ end → end ≡ min far more → far ≤ 2 ^ count_max → at + i < 2 ^ 64
tick_fits at i end far more low in_end e high = omega arith

-- a step of a walk up to `end`: from i on, q of the stretch's ticks, of which so many are owed
pub record Stepped (end i q len owed ticks : ℕ) : Type 0 where
  pub some : 0 < q
  pub less : q ≤ len
  pub room : i + q ≤ end
  pub closer : end - (i + q) < end - i
  pub few : owed + ticks ≤ i + q
  pub part : owed + ticks ≤ owed + q
  pub sum_fits : owed + ticks < 2 ^ 64
  pub place_fits : i + q < 2 ^ 64

pub step : (end i q len owed ticks far more due : ℕ) → end ≡ min far more → far ≤ 2 ^ count_max → q ≡ min len (end - i) → 0 < len → i < end → ticks ≡ min q due →
    owed ≤ i → Stepped end i q len owed ticks
step end i q len owed ticks far more due e high f pos low g few =
    let a : end ≤ 2 ^ count_max = omega arith in
    let b : 0 < q = omega arith in
    let c : q ≤ len = omega arith in
    let d : i + q ≤ end = omega arith in
    let h : ticks ≤ q = omega arith in
    record { some = b; less = c; room = d; closer = plain end i q b d; few = sums owed ticks i q few h; part = sums owed ticks owed q (omega arith) h; sum_fits = fits owed ticks i q few h (le_trans d a); place_fits = fits i q i q (omega arith) (omega arith) (le_trans d a) }
  where
    le_trans : {x y z : ℕ} → x ≤ y → y ≤ z → x ≤ z
    le_trans p q = omega arith

    plain : (end i q : ℕ) → 0 < q → i + q ≤ end → end - (i + q) < end - i
    plain end i q b d = omega arith

    sums : (owed ticks i q : ℕ) → owed ≤ i → ticks ≤ q → owed + ticks ≤ i + q
    sums owed ticks i q a b = omega arith

    fits : (owed ticks i q : ℕ) → owed ≤ i → ticks ≤ q → i + q ≤ 2 ^ count_max → owed + ticks < 2 ^ 64
    fits owed ticks i q a b c = omega arith

pub reach_low : (end far more n : ℕ) → end ≡ min far more → n ≤ end → n ≤ far
reach_low end far more n e low = omega arith

-- a tick that is found in the step
pub found_low : (i nth owed ticks q far : ℕ) → nth < owed + ticks → owed + ticks ≤ owed + q → i + q ≤ far → far ≤ 2 ^ count_max → i + (nth - owed) ≤ 2 ^ count_max
found_low i nth owed ticks q far more less room high = omega arith
