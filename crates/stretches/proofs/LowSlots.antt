-- A lane below the floor, slot by slot of the floor's count: it repeats the segments of its channel in order. Every count takes those after
-- the first for as long as the floor's does; of the first it takes its own last slot for as long, and the others half as long. Of
-- lane 0 nobody awaits a cell who began in time. Rests on the grid's laws of channels and carriers.
use mathlib.Core.Path.{◌≡◌, refl, sym, ap, ◌∙◌}
use mathlib.Core.Bool.{true, false}
use mathlib.Core.Logic.{◌⊎◌, ⊎_elim}
use Prim.Native.Nat.{ℕ, zero, suc, ◌+◌, ◌-◌, ◌*◌, ◌/◌, ◌%◌, ◌^◌, ◌≤◌, ◌<◌}
use native.Mathlib.Omega.{arith}
use native.Mathlib.Nat.{mod-lt, div-add-mod', div-lt_iff_lt-mul, le-div_iff_mul-le, mul-le-mul_right, mul-le-mul_left, pow-succ', pos_of_ne-zero}
use lib.Dec.{leb, ltb, eqb}
use Rattle.rules.specs.Refusals.{pick}
use lib.Pow.{pow_pos, pow-add, pow_mono}
use borrow.Author.Tests.{eqb-true, eqb-false, le-leb}
use Rattle.rules.proofs.Tests.{decide}
use Rattle.grid.specs.Ticks.{slot}
use Rattle.grid.specs.Lanes.{lane_cell}
use Rattle.grid.specs.Bounds.{Carrier}
use Rattle.grid.proofs.Numbers.{mod_same, div_unique, pow_part}
use Rattle.grid.proofs.Ticks.{slot_pos}
use Rattle.grid.proofs.Channels.{lifted, cell_lifted}
use Rattle.grid.proofs.Lanes.{lane_channel}
use Rattle.scheme.specs.Scheme.{padded}
use Rattle.story.specs.Kept.{wants}
use Rattle.stretches.specs.inner.Low.{place_at, span_by}
use Rattle.stretches.proofs.OneChannel.{wants_window, own_cell}
use Rattle.stretches.proofs.Slots.{slot_split, slot_less}

pub low_cell : (A K l u : ℕ) → l < A → lane_cell A K l u ≡ (2 ^ l - 1 + place_at A K l u) * slot K A + u % slot K A
unfolding lifted
low_cell A K l u below =
    let w : ℕ = slot K A in
    let none : A - A ≡ 0 = omega arith in
    let p : 2 ^ A ≡ 2 ^ l * 2 ^ (A - l) = pow_part l A (omega arith) in
    let o : 0 < 2 ^ A = pow_pos A in
    let e : (u / w + 1 + (2 ^ A - 2 ^ (A - A))) % 2 ^ l ≡ u / w % 2 ^ l =
    mod_same (2 ^ l) (u / w) (u / w + 1 + (2 ^ A - 2 ^ (A - A))) 0 (2 ^ (A - l)) (rw none (omega arith)) in
    lane_channel A K l u below ∙ cell_lifted A K A l u (omega arith) ∙ rw e refl

-- ---- under a larger count

-- a slot in P parts of v ticks, behind a - 1 + q slots
module _ (a P v r q : ℕ) (some : 0 < a) (parts : 0 < P) (pos : 0 < v) (within : r < P * v) where
  low_part : ((a - 1 + q) * (P * v) + r) / v ≡ (a - 1 + q) * P + r / v
  low_part =
      div_unique v ((a - 1 + q) * P + r / v) (r % v) ((a - 1 + q) * (P * v) + r) (mod-lt r pos)
      (whole (a - 1 + q) (r / v) (r % v) (div-add-mod' r v))
    where
      whole : (g b m : ℕ) → b * v + m ≡ r → g * (P * v) + r ≡ (g * P + b) * v + m
      whole g b m e = omega arith

  below_part : r / v < P
  below_part = (div-lt_iff_lt-mul {k = v} {x = r} {y = P} pos).1 within

  -- a segment after the first
  long_later : 0 < q → q < a → (a * P ≤ (a - 1 + q) * P + r / v + 1) × ((a - 1 + q) * P + r / v + 1 < 2 * (a * P))
  long_later l h = go (a - 1 + q) (r / v) (omega arith) (omega arith) below_part
    where
      go : (g b : ℕ) → a ≤ g → g + 2 ≤ 2 * a → b < P → (a * P ≤ g * P + b + 1) × (g * P + b + 1 < 2 * (a * P))
      go g b l e s =
          let m : a * P ≤ g * P = mul-le-mul_right P l in
          let n : (g + 2) * P ≤ 2 * a * P = mul-le-mul_right P e in
          (omega arith, omega arith)

  -- the last part of the first
  long_last : q ≡ 0 → P * v ≤ r + v → (a * P ≤ (a - 1 + q) * P + r / v + 1) × ((a - 1 + q) * P + r / v + 1 < 2 * (a * P))
  long_last z late = go (a - 1 + q) (r / v) (omega arith) below_part (last P refl)
    where
      last : (k : ℕ) → k ≡ P → k ≤ r / v + 1
      last zero e = omega arith
      last (suc k) e =
          let m : k * v ≤ r = (let n : suc k * v ≡ P * v = ap (λ x. x * v) e in omega arith) in
          let d : k ≤ r / v = (le-div_iff_mul-le {k = v} {x = k} {y = r} pos).1 m in
          omega arith

      go : (g b : ℕ) → g + 1 ≡ a → b < P → P ≤ b + 1 → (a * P ≤ g * P + b + 1) × (g * P + b + 1 < 2 * (a * P))
      go g b e s t =
          let n : (g + 1) * P ≡ a * P = ap (λ x. x * P) e in
          (omega arith, omega arith)

  -- and the others
  short_first : (h : ℕ) → 2 * h ≡ a → q ≡ 0 → r + v < P * v → (h * P ≤ (a - 1 + q) * P + r / v + 1) × ((a - 1 + q) * P + r / v + 1 < 2 * (h * P))
  short_first h even z early = go (a - 1 + q) (r / v) (omega arith) (omega arith) (before P refl)
    where
      before : (k : ℕ) → k ≡ P → r / v + 1 < k
      before zero e = absurd (omega arith)
      before (suc k) e =
          let m : r < k * v = (let n : suc k * v ≡ P * v = ap (λ x. x * v) e in omega arith) in
          let d : r / v < k = (div-lt_iff_lt-mul {k = v} {x = r} {y = k} pos).1 m in
          omega arith

      go : (g b : ℕ) → g + 1 ≡ 2 * h → h ≤ g → b + 1 < P → (h * P ≤ g * P + b + 1) × (g * P + b + 1 < 2 * (h * P))
      go g b e l t =
          let m : h * P ≤ g * P = mul-le-mul_right P l in
          let n : (g + 1) * P ≡ 2 * h * P = ap (λ x. x * P) e in
          (omega arith, omega arith)

module _ (A K l c u end : ℕ) (below : l < A) (low : A ≤ c) (fit : c ≤ K) where
  -- a channel that carries the cell has it for so long
  taken_for : (e span : ℕ) → Carrier K c (lane_cell A K l u) e → slot K c * 2 ^ e ≡ span → 0 < end →
      wants (padded A K) end (lane_cell A K l u) u c ≡ ltb (u + slot K c) (end + span)
  taken_for e span carries is ruled =
      let x : ℕ = lane_cell A K l u in
      wants_window A K c end x u e carries (own_cell A K l c u x fit (omega arith) refl low) ruled
      ∙ ap (λ n. ltb (u + slot K c) (end + n)) is

  in_parts : u % slot K A < 2 ^ (c - A) * slot K c
  in_parts = omega (arith, mod-lt u (slot_pos K A), slot_split K A c low fit)

  cell_in : lane_cell A K l u ≡ (2 ^ l - 1 + place_at A K l u) * (2 ^ (c - A) * slot K c) + u % slot K A
  cell_in = low_cell A K l u below ∙ ap (λ w. (2 ^ l - 1 + place_at A K l u) * w + u % slot K A) (slot_split K A c low fit)

  -- the carrier, by the highest power of two within the number of its segment
  carried_by : (e a : ℕ) → 2 ^ e ≡ a * 2 ^ (c - A)
      → (a * 2 ^ (c - A) ≤ (2 ^ l - 1 + place_at A K l u) * 2 ^ (c - A) + u % slot K A / slot K c + 1)
      × ((2 ^ l - 1 + place_at A K l u) * 2 ^ (c - A) + u % slot K A / slot K c + 1 < 2 * (a * 2 ^ (c - A)))
      → Carrier K c (lane_cell A K l u) e
  carried_by e a is m =
      let q = low_part (2 ^ l) (2 ^ (c - A)) (slot K c) (u % slot K A) (place_at A K l u) (pow_pos l) (pow_pos (c - A)) (slot_pos K c) in_parts in
      rw cell_in
      (record { low = rw (is, q) m.0; high = rw (q, pow-succ' 2 e, is) m.1 })

  span_is : (e k : ℕ) → 2 ^ e ≡ 2 ^ k * 2 ^ (c - A) → slot K c * 2 ^ e ≡ slot K A * 2 ^ k
  span_is e k is = rw (is, slot_split K A c low fit) (omega arith)

  pub wants_long : (0 < place_at A K l u) ⊎ (slot K A ≤ u % slot K A + slot K c) → 0 < end →
      wants (padded A K) end (lane_cell A K l u) u c ≡ ltb (u + slot K c) (end + slot K A * 2 ^ l)
  wants_long where-it-is ruled =
      let p : 2 ^ (l + (c - A)) ≡ 2 ^ l * 2 ^ (c - A) = pow-add 2 l (c - A) in
      taken_for (l + (c - A)) (slot K A * 2 ^ l) (carried_by (l + (c - A)) (2 ^ l) p (⊎_elim later last where-it-is)) (span_is (l + (c - A)) l p) ruled
    where
      Within : Type 0
      Within =
          (2 ^ l * 2 ^ (c - A) ≤ (2 ^ l - 1 + place_at A K l u) * 2 ^ (c - A) + u % slot K A / slot K c + 1)
          × ((2 ^ l - 1 + place_at A K l u) * 2 ^ (c - A) + u % slot K A / slot K c + 1 < 2 * (2 ^ l * 2 ^ (c - A)))

      later : 0 < place_at A K l u → Within
      later some =
          long_later (2 ^ l) (2 ^ (c - A)) (slot K c) (u % slot K A) (place_at A K l u) (pow_pos l) (pow_pos (c - A)) (slot_pos K c) in_parts some
          (mod-lt (u / slot K A) (pow_pos l))

      last : slot K A ≤ u % slot K A + slot K c → Within
      last late =
          ⊎_elim
          (λ z.
          long_last (2 ^ l) (2 ^ (c - A)) (slot K c) (u % slot K A) (place_at A K l u) (pow_pos l) (pow_pos (c - A)) (slot_pos K c) in_parts
          (eqb-true (place_at A K l u) 0 z) (omega (arith, slot_split K A c low fit)))
          (λ z. later (pos_of_ne-zero (eqb-false (place_at A K l u) 0 z)))
          (decide (eqb (place_at A K l u) 0))

  pub wants_short : (h : ℕ) → l ≡ suc h → place_at A K l u ≡ 0 → u % slot K A + slot K c < slot K A → 0 < end →
      wants (padded A K) end (lane_cell A K l u) u c ≡ ltb (u + slot K c) (end + slot K A * 2 ^ h)
  wants_short h is z early ruled =
      let p : 2 ^ (h + (c - A)) ≡ 2 ^ h * 2 ^ (c - A) = pow-add 2 h (c - A) in
      let even : 2 * 2 ^ h ≡ 2 ^ l = rw is (sym (pow-succ' 2 h)) in
      taken_for (h + (c - A)) (slot K A * 2 ^ h)
      (carried_by (h + (c - A)) (2 ^ h) p
      (short_first (2 ^ l) (2 ^ (c - A)) (slot K c) (u % slot K A) (place_at A K l u) (pow_pos l) (pow_pos (c - A)) (slot_pos K c) in_parts (2 ^ h) even z
      (omega (arith, slot_split K A c low fit))))
      (span_is (h + (c - A)) h p) ruled

-- no count's slot is longer than what its boxes take
pub span_wide : (A K l left c : ℕ) → A ≤ c → c ≤ K → slot K c ≤ span_by A K l left c
unfolding span_by
span_wide A K l left c low fit =
    let m : slot K A * 1 ≤ slot K A * 2 ^ l = mul-le-mul_left (slot K A) (pow_pos l) in
    let n : slot K A * 1 ≤ slot K A * 2 ^ (l - 1) = mul-le-mul_left (slot K A) (pow_pos (l - 1)) in
    let b : slot K c ≤ slot K A = slot_less K A c low fit in
    elim (leb left (slot K c)) as (λ t. slot K c ≤ pick t (slot K A * 2 ^ l) (slot K A * 2 ^ (l - 1))) [ true ↦ omega arith | false ↦ omega arith ]

pub span_low : (left width long short most : ℕ) → long ≤ most → short ≤ most → pick (leb left width) long short ≤ most
span_low left width long short most a b = elim (leb left width) as (λ t. pick t long short ≤ most) [ true ↦ a | false ↦ b ]

-- no span is longer than where no ticks decide
pub span_most_lem : (A K l left c : ℕ) → span_by A K l left c ≤ span_by A K l 0 c
unfolding span_by
span_most_lem A K l left c =
    let m : slot K A * 2 ^ (l - 1) ≤ slot K A * 2 ^ l = mul-le-mul_left (slot K A) (pow_mono {i = l - 1} {j = l} (omega arith)) in
    rw (le-leb 0 (slot K c) (omega arith)) (span_low left (slot K c) (slot K A * 2 ^ l) (slot K A * 2 ^ (l - 1)) (slot K A * 2 ^ l) (omega arith) m)
