-- When a box takes each cell on the padded grid: once, on the channel that carries it, after a wait with a closed form, no later than
-- its turn; the last w cells never. Rests on the laws of the channels and of the one channel of a cell.
use mathlib.Core.Path.{◌≡◌, sym, ap, ◌∙◌}
use mathlib.Core.Bool.{true}
use Prim.Native.Nat.{ℕ, suc, ◌+◌, ◌-◌, ◌*◌, ◌/◌, ◌%◌, ◌^◌, ◌≤◌, ◌<◌}
use native.Mathlib.Omega.{arith}
use native.Mathlib.Nat.{mod-lt, div-add-mod', mul-le-mul_right, le-div_iff_mul-le, div-lt_iff_lt-mul}
use lib.Pow.{pow_pos}
use Rattle.grid.specs.Ticks.{slot}
use Rattle.grid.specs.Bounds.{Carrier}
use Rattle.grid.proofs.Numbers.{mod_unique, div_unique, until, turn_to, turn_only}
use Rattle.grid.proofs.Ticks.{slot_pos}
use Rattle.grid.proofs.Channels.{lifted, cell_lifted, lifted_add}
use Rattle.grid.proofs.Carriers.{carrier, carrier_one, carried_cell}
use Rattle.scheme.specs.Scheme.{padded, starts, takes}
use Rattle.scheme.proofs.Takes.{Taken, taken_in_lem, whole_slots}

-- how many slots a box that starts at tick a waits for cell c on channel d
unfoldable pub wait : ℕ → ℕ → ℕ → ℕ → ℕ → ℕ → ℕ
wait A K k a c d = until (2 ^ d) (lifted A k (a / slot K k)) (c / slot K k + 1)

-- the tick minus a at which the cell comes there
abbrev pub due : ℕ → ℕ → ℕ → ℕ → ℕ → ℕ → ℕ
due A K k a c d = wait A K k a c d * slot K k + c % slot K k

pub wait_lt : (A K k a c d : ℕ) → wait A K k a c d < 2 ^ d
unfolding wait
wait_lt A K k a c d = mod-lt (c / slot K k + 1 + (2 ^ d - lifted A k (a / slot K k) % 2 ^ d)) (pow_pos d)

module _ (A K k a c d : ℕ) (start : starts (padded A K) k a ≡ true) (count : d < k) where
  -- on the channel that carries it the cell comes after that wait
  pub wait_taken : Carrier K k c d → Taken (padded A K) k a c (a + due A K k a c d) d
  unfolding wait
  wait_taken h =
      let w : ℕ = slot K k in
      let o : ℕ = until (2 ^ d) (lifted A k (a / w)) (c / w + 1) in
      let t : ℕ = a + (o * w + c % w) in
      let p : 0 < w = slot_pos K k in
      let r : c % w < w = mod-lt c p in
      let b : o < 2 ^ d = mod-lt (c / w + 1 + (2 ^ d - lifted A k (a / w) % 2 ^ d)) (pow_pos d) in
      let s : a / w * w ≡ a = whole_slots (padded A K) k a start in
      let m : suc o * w ≤ 2 ^ d * w = mul-le-mul_right w b in
      let low : 2 ^ d ≤ c / w + 1 = h.low in
      let j : t / w ≡ a / w + o = div_unique w (a / w + o) (c % w) t r (omega arith) in
      let i : t % w ≡ c % w = mod_unique w (c % w) t 0 (a / w + o) r (omega arith) in
      let x : lifted A k (a / w + o) % 2 ^ d ≡ c / w + 1 - 2 ^ d =
      ap (λ n. n % 2 ^ d) (lifted_add A k (a / w) o)
      ∙ turn_to (2 ^ d) (lifted A k (a / w)) (c / w + 1) (pow_pos d) low (omega (arith, h.high)) in
      record {
        channel = count;
        from = omega arith;
        before = omega arith;
        carries =
            cell_lifted A K k d t (omega arith)
            ∙ rw (j, i, x) (ap (λ n. n * w + c % w) (let o : 0 < 2 ^ d = pow_pos d in omega arith) ∙ div-add-mod' c w);
      }

  -- and only then, on that channel alone
  pub taken_only : (t : ℕ) → Taken (padded A K) k a c t d → Carrier K k c d × (t ≡ a + due A K k a c d)
  unfolding wait
  taken_only t h =
      let w : ℕ = slot K k in
      let P : ℕ = 2 ^ d in
      let x : ℕ = lifted A k (t / w) % P in
      let o : ℕ = t / w - a / w in
      let p : 0 < w = slot_pos K k in
      let pp : 0 < P = pow_pos d in
      let xl : x < P = mod-lt (lifted A k (t / w)) pp in
      let rt : t % w < w = mod-lt t p in
      let e : c ≡ (P - 1 + x) * w + t % w = sym h.carries ∙ cell_lifted A K k d t (omega arith) in
      let q : c / w ≡ P - 1 + x = div_unique w (P - 1 + x) (t % w) c rt e in
      let i : c % w ≡ t % w = mod_unique w (t % w) c 0 (P - 1 + x) rt (omega arith) in
      let s : a / w * w ≡ a = whole_slots (padded A K) k a start in
      let v : t / w * w + t % w ≡ t = div-add-mod' t w in
      let g : a / w ≤ t / w = (le-div_iff_mul-le {k = w} {x = a / w} {y = t} p).1 (omega (arith, h.from)) in
      let u : t / w < a / w + P = (div-lt_iff_lt-mul {k = w} {x = t} {y = a / w + P} p).1 (omega (arith, h.before)) in
      let j : a / w + o ≡ t / w = omega arith in
      let f : (lifted A k (a / w) + o) % P ≡ c / w + 1 - P =
      ap (λ n. n % P) (sym (lifted_add A k (a / w) o) ∙ ap (lifted A k) j) ∙ omega arith in
      let z : until P (lifted A k (a / w)) (c / w + 1) ≡ o =
      turn_only P (lifted A k (a / w)) (c / w + 1) o pp (omega arith) (omega arith) (omega arith) f in
      let y : (a / w + o) * w ≡ t / w * w = ap (λ n. n * w) j in
      (record { low = omega arith; high = omega arith }, rw (z, i) (omega arith))

-- a cell that some box takes is none of the last w
pub taken_cell : (A K k a c t d : ℕ) → k ≤ K → starts (padded A K) k a ≡ true → Taken (padded A K) k a c t d → c < 2 ^ K - slot K k
taken_cell A K k a c t d l start h =
    carried_cell K k c d l h.channel (taken_only A K k a c d start h.channel t h).0

-- a box takes a cell once: at one tick, from one channel
pub once : (A K k a c t d u e : ℕ) → starts (padded A K) k a ≡ true → Taken (padded A K) k a c t d → Taken (padded A K) k a c u e →
    (t ≡ u) × (d ≡ e)
once A K k a c t d u e start h g =
    let x = taken_only A K k a c d start h.channel t h in
    let y = taken_only A K k a c e start g.channel u g in
    let same : d ≡ e = carrier_one K k c d e x.0 y.0 in
    (x.1 ∙ ap (λ n. a + due A K k a c n) same ∙ sym y.1, same)

-- a cell comes no later than its turn
pub in_time : (A K k a c : ℕ) → k ≤ K → starts (padded A K) k a ≡ true → c < 2 ^ K - slot K k →
    (t : ℕ) × (t ≤ a + c) × (takes (padded A K) k a c t ≡ true)
in_time A K k a c high start h =
    let r = carrier K k c high h in
    let d : ℕ = r.0 in
    let w : ℕ = slot K k in
    let b : wait A K k a c d < 2 ^ d = wait_lt A K k a c d in
    let f : 2 ^ d ≤ c / w + 1 = r.2.low in
    let m : wait A K k a c d * w ≤ c / w * w = mul-le-mul_right w (omega arith) in (
      a + due A K k a c d,
      omega (arith, div-add-mod' c w),
      taken_in_lem (padded A K) k a c (a + due A K k a c d) d (wait_taken A K k a c d start r.1 r.2),
    )
