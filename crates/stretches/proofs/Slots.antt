-- A lane from the floor up, slot by slot of the count that adds it: in each slot all cells are on one channel, whose number the slot's low
-- zeros give, and are those of the channel's last segment. Every larger count has them on a channel that is taken for as long; but those
-- of channel 0 nobody awaits who began in time. Rests on the grid's laws of zeros, lanes and carriers.
use mathlib.Core.Path.{◌≡◌, refl, ap, ◌∙◌}
use mathlib.Core.Bool.{Bool, true, false, not}
use mathlib.Core.Logic.{⊎_elim}
use Prim.Native.Nat.{ℕ, zero, suc, ◌+◌, ◌-◌, ◌*◌, ◌/◌, ◌%◌, ◌^◌, ◌≤◌, ◌<◌}
use native.Mathlib.Omega.{arith}
use native.Mathlib.Nat.{mod-lt, mod-one, div-add-mod, div-add-mod', div-lt_iff_lt-mul, mul-le-mul_right, mul-le-mul_left, pos_of_ne-zero, pow-succ'}
use lib.Dec.{ltb, eqb}
use lib.Pow.{pow_pos, pow-add, pow_mono}
use borrow.Author.Tests.{eqb-true, eqb-false, not-true, not-false, le-ltb}
use Rattle.rules.specs.Search.{first}
use Rattle.rules.proofs.Tests.{decide}
use Rattle.rules.proofs.Search.{first_le, first_before, first_hit_lem}
use Rattle.grid.specs.Ticks.{slot}
use Rattle.grid.specs.Lanes.{is_in_g, added_channel, lane_cell}
use Rattle.grid.specs.Bounds.{Carrier}
use Rattle.grid.proofs.Numbers.{mod_unique, div_unique}
use Rattle.grid.proofs.Ticks.{slot_pos}
use Rattle.grid.proofs.Channels.{lifted, next_slot, cell_lifted}
use Rattle.grid.proofs.Lanes.{spare, added_spare, lane_added, is_in_g_out}
use Rattle.grid.proofs.Zeros.{LowZeros}
use Rattle.grid.proofs.Carriers.{carries_only}
use Rattle.scheme.specs.Scheme.{Scheme, padded}
use Rattle.story.specs.Kept.{wants}
use Rattle.stretches.proofs.OneChannel.{wants_window, own_cell}

-- ---- the channel and the cells of a slot

-- the first power of two that does not divide a number has its low zeros
zeros_first : (k n : ℕ) → LowZeros k n (first (λ d. not (eqb (n % 2 ^ suc d) 0)) k)
zeros_first k n = record { most = first_le odd k; zeros = below (first odd k) refl; one = λ l. eqb-false (n % 2 ^ suc (first odd k)) 0 (not-true (eqb (n % 2 ^ suc (first odd k)) 0) (first_hit_lem odd k l)) }
  where
    odd : ℕ → Bool
    odd d = not (eqb (n % 2 ^ suc d) 0)

    below : (z : ℕ) → first odd k ≡ z → n % 2 ^ z ≡ 0
    below zero e = mod-one n
    below (suc d) e = eqb-true (n % 2 ^ suc d) 0 (not-false (eqb (n % 2 ^ suc d) 0) (first_before odd k d (omega arith)))

module _ (A K l u : ℕ) (low : A ≤ l) (high : l < K) where
  pub added_zeros : LowZeros l (next_slot A K l u) (added_channel A K l u)
  unfolding spare
  added_zeros = rw (added_spare A K l u low high) (zeros_first l (next_slot A K l u))

  pub added_cell : lane_cell A K l u ≡ (2 * 2 ^ added_channel A K l u - 2) * slot K (suc l) + u % slot K (suc l)
  unfolding next_slot
  added_cell =
      let d : ℕ = added_channel A K l u in
      let w : ℕ = slot K (suc l) in
      let y : ℕ = lifted A (suc l) (u / w) in
      let z : (y + 1) % 2 ^ d ≡ 0 = added_zeros.zeros in
      let e : 2 ^ d * ((y + 1) / 2 ^ d) + (y + 1) % 2 ^ d ≡ y + 1 = div-add-mod (y + 1) (2 ^ d) in
      let o : 0 < 2 ^ d = pow_pos d in
      let last : y % 2 ^ d ≡ 2 ^ d - 1 = mod_unique (2 ^ d) (2 ^ d - 1) y 1 ((y + 1) / 2 ^ d) (omega arith) (omega arith) in
      lane_added A K l u low
      ∙ cell_lifted A K (suc l) d u (omega (arith, added_zeros.most))
      ∙ rw last (ap (λ n. n * w + u % w) (omega arith))

-- ---- under a larger count

-- a count that never ruled has no boxes
pub wants_never : (S : Scheme) (end x u c : ℕ) → end ≡ 0 → wants S end x u c ≡ false
unfolding wants
wants_never S end x u c e = rw e refl

-- a slot in P parts of v ticks, behind 2a - 2 slots
module _ (a P v r : ℕ) (two : 2 ≤ a) (parts : 0 < P) (pos : 0 < v) (within : r < P * v) where
  part_of : ((2 * a - 2) * (P * v) + r) / v ≡ (2 * a - 2) * P + r / v
  part_of =
      div_unique v ((2 * a - 2) * P + r / v) (r % v) ((2 * a - 2) * (P * v) + r) (mod-lt r pos)
      (whole (2 * a - 2) (r / v) (r % v) (div-add-mod' r v))
    where
      whole : (g b m : ℕ) → b * v + m ≡ r → g * (P * v) + r ≡ (g * P + b) * v + m
      whole g b m e = omega arith

  between : (a * P ≤ (2 * a - 2) * P + r / v + 1) × ((2 * a - 2) * P + r / v + 1 < 2 * (a * P))
  between = go (2 * a - 2) (r / v) (omega arith) (omega arith) ((div-lt_iff_lt-mul {k = v} {x = r} {y = P} pos).1 within)
    where
      go : (g b : ℕ) → a ≤ g → g + 2 ≡ 2 * a → b < P → (a * P ≤ g * P + b + 1) × (g * P + b + 1 < 2 * (a * P))
      go g b l e s =
          let m : a * P ≤ g * P = mul-le-mul_right P l in
          let n : (g + 2) * P ≡ 2 * a * P = ap (λ x. x * P) e in
          (omega arith, omega arith)

-- a box has a cell by its turn: none that began so long ago awaits it
pub wants_passed : (A K l c u end : ℕ) → l < c → A ≤ c → c ≤ K → end + lane_cell A K l u ≤ u → wants (padded A K) end (lane_cell A K l u) u c ≡ false
wants_passed A K l c u end has low fit early =
    let x : ℕ = lane_cell A K l u in
    let v : ℕ = slot K c in
    let out : is_in_g A K c u x ≡ true = own_cell A K l c u x fit has refl low in
    let on = is_in_g_out A K c u x out in
    let carries : Carrier K c x on.0 = rw on.2 at (carries_only A K c on.0 u (omega (arith, on.1))) in
    let m : v * 2 ^ on.0 ≤ v * (x / v + 1) = mul-le-mul_left v carries.low in
    let q : v * (x / v) + x % v ≡ x = div-add-mod x v in
    ⊎_elim
    (λ t. wants_never (padded A K) end x u c (eqb-true end 0 t))
    (λ t.
    wants_window A K c end x u on.0 carries out (pos_of_ne-zero (eqb-false end 0 t))
    ∙ le-ltb (u + v) (end + v * 2 ^ on.0) (omega arith))
    (decide (eqb end 0))

-- a slot of a count holds whole slots of a larger one
pub slot_split : (K k c : ℕ) → k ≤ c → c ≤ K → slot K k ≡ 2 ^ (c - k) * slot K c
unfolding slot
slot_split K k c l fit = let e : K - k ≡ (c - k) + (K - c) = omega arith in ap (λ n. 2 ^ n) e ∙ pow-add 2 (c - k) (K - c)

pub slot_less : (K k c : ℕ) → k ≤ c → c ≤ K → slot K c ≤ slot K k
slot_less K k c l fit =
    let p : 0 < 2 ^ (c - k) = pow_pos (c - k) in
    let m : 1 * slot K c ≤ 2 ^ (c - k) * slot K c = mul-le-mul_right (slot K c) p in
    omega (arith, slot_split K k c l fit)

module _ (K l c : ℕ) (has : l < c) (fit : c ≤ K) where
  slot_parts : slot K (suc l) ≡ 2 ^ (c - suc l) * slot K c
  slot_parts = slot_split K (suc l) c has fit

  last_carrier : (d r : ℕ) → 0 < d → r < slot K (suc l) → Carrier K c ((2 * 2 ^ d - 2) * slot K (suc l) + r) (d + (c - suc l))
  last_carrier d r some b =
      let P : ℕ = 2 ^ (c - suc l) in
      let v : ℕ = slot K c in
      let two : 2 ≤ 2 ^ d = pow_mono {i = 1} {j = d} some in
      let in_parts : r < P * v = rw slot_parts at b in
      let q = part_of (2 ^ d) P v r two (pow_pos (c - suc l)) (slot_pos K c) in_parts in
      let m = between (2 ^ d) P v r two (pow_pos (c - suc l)) (slot_pos K c) in_parts in
      rw slot_parts
      (record { low = rw (pow-add 2 d (c - suc l), q) m.0; high = rw (q, pow_suc_add d) m.1 })
    where
      pow_suc_add : (d : ℕ) → 2 ^ suc (d + (c - suc l)) ≡ 2 * (2 ^ d * 2 ^ (c - suc l))
      pow_suc_add d = pow-succ' 2 (d + (c - suc l)) ∙ ap (λ n. 2 * n) (pow-add 2 d (c - suc l))

  same_span : (d : ℕ) → slot K c * 2 ^ (d + (c - suc l)) ≡ slot K (suc l) * 2 ^ d
  same_span d = rw (slot_parts, pow-add 2 d (c - suc l)) (omega arith)

  module _ (A u end : ℕ) (low : A ≤ l) where
    -- its boxes take the cell for as long as under the count that adds the lane
    pub wants_as_long : 0 < added_channel A K l u → 0 < end →
        wants (padded A K) end (lane_cell A K l u) u c ≡ ltb (u + slot K c) (end + slot K (suc l) * 2 ^ added_channel A K l u)
    wants_as_long some ruled =
        let d : ℕ = added_channel A K l u in
        let x : ℕ = lane_cell A K l u in
        let carries : Carrier K c x (d + (c - suc l)) = rw (added_cell A K l u low (omega arith)) (last_carrier d (u % slot K (suc l)) some (mod-lt u (slot_pos K (suc l)))) in
        wants_window A K c end x u (d + (c - suc l)) carries (own_cell A K l c u x fit has refl (omega arith)) ruled
        ∙ ap (λ n. ltb (u + slot K c) (end + n)) (same_span d)

    -- and on channel 0 none that began before the slot
    pub wants_none : added_channel A K l u ≡ 0 → end + u % slot K (suc l) ≤ u → wants (padded A K) end (lane_cell A K l u) u c ≡ false
    wants_none first-channel early =
        let is : lane_cell A K l u ≡ u % slot K (suc l) = added_cell A K l u low (omega arith) ∙ rw first-channel (omega arith) in
        wants_passed A K l c u end has (omega arith) fit (omega arith)
