-- The one channel on which a cell goes out: a channel that has the cell is the one that carries it, and all cells but the last w
-- have one. Rests on the laws of the channels.
use mathlib.Core.Path.{◌≡◌}
use mathlib.Core.Bool.{Bool, true, false}
use Prim.Native.Nat.{ℕ, suc, ◌+◌, ◌-◌, ◌*◌, ◌/◌, ◌%◌, ◌^◌, ◌≤◌, ◌<◌}
use native.Mathlib.Omega.{arith}
use native.Mathlib.Nat.{mod-lt, div-add-mod', div-lt_iff_lt-mul, mul-sub, mul-le-mul_right}
use lib.Count.{leading_top}
use lib.Dec.{ltb, eqb}
use lib.Pow.{pow_pos, pow_mono}
use borrow.Author.Tests.{ltb-true, eqb-true, lt-ltb, ne_eqb}
use Rattle.rules.specs.Limits.{both}
use Rattle.rules.specs.Search.{some}
use Rattle.rules.proofs.Tests.{both_l, both_r, both_in, same}
use Rattle.rules.proofs.Search.{some_in, some_out, some_none}
use Rattle.grid.specs.Ticks.{slot}
use Rattle.grid.specs.Channels.{channel_cell}
use Rattle.grid.specs.Lanes.{is_in_g}
use Rattle.grid.specs.Bounds.{Carrier}
use Rattle.grid.proofs.Ticks.{slot_pos, all_cells_lem}
use Rattle.grid.proofs.Numbers.{div_unique, top_unique}
use Rattle.grid.proofs.Channels.{lifted, cell_lifted, cell_within}

-- a channel that has a cell on it is the one that carries it
pub carries_only : (A K k d t : ℕ) → d ≤ k → Carrier K k (channel_cell A K k d t) d
carries_only A K k d t l =
    let w : ℕ = slot K k in
    let x : ℕ = lifted A k (t / w) % 2 ^ d in
    let b : x < 2 ^ d = mod-lt (lifted A k (t / w)) (pow_pos d) in
    let q : channel_cell A K k d t / w ≡ 2 ^ d - 1 + x =
    div_unique w (2 ^ d - 1 + x) (t % w) (channel_cell A K k d t) (mod-lt t (slot_pos K k)) (cell_lifted A K k d t l) in
    record { low = omega arith; high = omega arith }

pub carrier_one : (K k c d e : ℕ) → Carrier K k c d → Carrier K k c e → d ≡ e
carrier_one K k c d e a b = top_unique d e (c / slot K k + 1) a.low a.high b.low b.high

-- where only one number can pass, some number passes if that one does
pub some_one : (p : ℕ → Bool) (n d : ℕ) → ((e : ℕ) → e < n → p e ≡ true → e ≡ d) → some p n ≡ both (ltb d n) (p d)
some_one p n d only =
    same (some p n) (both (ltb d n) (p d))
    (λ h. let r = some_out p n h in
    let e : r.0 ≡ d = only r.0 r.1 r.2 in
    both_in (ltb d n) (p d) (lt-ltb d n (omega (arith, r.1))) (rw e at r.2))
    (λ h. some_in p n d (ltb-true d n (both_l (ltb d n) (p d) h)) (both_r (ltb d n) (p d) h))

-- a cell is in G(k, t) where the channel that carries it has it
pub in_carried : (A K k t c d : ℕ) → Carrier K k c d → is_in_g A K k t c ≡ both (ltb d k) (eqb (channel_cell A K k d t) c)
unfolding is_in_g
in_carried A K k t c d h =
    some_one (λ e. eqb (channel_cell A K k e t) c) k d
    (λ e l x. carrier_one K k c e d (rw (eqb-true (channel_cell A K k e t) c x) at (carries_only A K k e t (omega arith))) h)

pub in_cells : (A K k t c : ℕ) → k ≤ K → 2 ^ K ≤ c → is_in_g A K k t c ≡ false
unfolding is_in_g
in_cells A K k t c high l =
    some_none (λ d. eqb (channel_cell A K k d t) c) k
    (λ d b. ne_eqb (channel_cell A K k d t) c (λ e. omega (arith, e, cell_within A K k d t high b)))

-- none of the last w has a channel that carries it
pub carried_cell : (K k c d : ℕ) → k ≤ K → d < k → Carrier K k c d → c < 2 ^ K - slot K k
carried_cell K k c d l b h =
    let w : ℕ = slot K k in
    let u : c / w + 1 < 2 ^ suc d = h.high in
    let m : 2 ^ suc d ≤ 2 ^ k = pow_mono b in
    let r : c % w < w = mod-lt c (slot_pos K k) in
    let n : suc (c / w + 1) * w ≤ 2 ^ k * w = mul-le-mul_right w (omega arith) in
    omega (arith, div-add-mod' c w, all_cells_lem K k l)

-- and every other has one
pub carrier : (K k c : ℕ) → k ≤ K → c < 2 ^ K - slot K k → (d : ℕ) × (d < k) × Carrier K k c d
carrier K k c l h =
    let w : ℕ = slot K k in
    let p : 0 < w = slot_pos K k in
    let q : c / w < 2 ^ k - 1 = (div-lt_iff_lt-mul {k = w} {x = c} {y = 2 ^ k - 1} p).1 (omega (arith, all_cells_lem K k l, mul-sub w (2 ^ k) 1)) in
    let r = leading_top k (c / w + 1) (omega arith) (omega arith) in
    (r.0, omega (arith, r.1), record { low = r.2; high = r.3 })
