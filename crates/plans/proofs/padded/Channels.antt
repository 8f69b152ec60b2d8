-- The plan's numbers are those of the channels' runs: a channel's cells are one run of runs, at the start as far on as the start lies
-- behind the shift; and the runs with the last slot's cells behind them are the plan.
-- Rests on the plan's closed form and on the laws of runs.
use mathlib.Core.Path.{◌≡◌, sym, ap, ap₂, ◌∙◌}
use mathlib.Core.Bool.{true}
use mathlib.Core.List.{List}
use Prim.Native.Nat.{ℕ, suc, ◌+◌, ◌-◌, ◌*◌, ◌/◌, ◌%◌, ◌^◌, ◌≤◌, ◌<◌}
use native.Mathlib.Omega.{arith}
use native.Mathlib.Nat.{mod-lt, div-add-mod, div-add-mod', mul-le-mul_right}
use lib.Arith.{digits_div, digits_mod, mod-mul}
use lib.Pow.{pow-add, pow_mono, pow_pos}
use Rattle.grid.specs.Ticks.{slot}
use Rattle.grid.specs.Bounds.{Counted}
use Rattle.grid.specs.Lifted.{lifted}
use Rattle.grid.proofs.Numbers.{mod_unique, until}
use Rattle.grid.proofs.Ticks.{all_cells_lem, slot_pos}
use Rattle.grid.proofs.Carriers.{carrier}
use Rattle.scheme.specs.Scheme.{padded, starts}
use Rattle.scheme.proofs.Takes.{whole_slots}
use Rattle.scheme.proofs.Waits.{wait}
use Rattle.plans.specs.Padded.{plan_at, never}
use Rattle.plans.specs.Row.{written}
use Rattle.plans.specs.inner.Rows.{written_from, runs_at}
use Rattle.plans.proofs.rows.Written.{from_same, from_join, from_first}
use Rattle.plans.proofs.rows.Places.{run_number}
use Rattle.plans.proofs.padded.Places.{plan_due, plan_never}

-- a run of M slots is a run of their cells
split : (w M u s q r c : ℕ) → M ≡ s + u → c ≡ q * w + r → c + w + (M * w - u * w) ≡ (q + 1 + s) * w + r
split w M u s q r c m e = rw (m, e) (omega arith)

scaled : (M L w c : ℕ) → 0 < M → 0 < w → until (M * w) (L * w) (c + w) ≡ until M L (c / w + 1) * w + c % w
scaled M L w c p q =
    let b : L % M < M = mod-lt L p in
    let n : suc (L % M) * w ≤ M * w = mul-le-mul_right w b in
    let d : (M * (L / M) + L % M) * w ≡ L * w = ap (λ x. x * w) (div-add-mod L M) in
    let e : L * w % (M * w) ≡ L % M * w = mod_unique (M * w) (L % M * w) (L * w) 0 (L / M) (omega arith) (omega arith) in
    let y : ℕ = c / w + 1 + (M - L % M) in
    let x : c + w + (M * w - L * w % (M * w)) ≡ y * w + c % w =
    rw e (split w M (L % M) (M - L % M) (c / w) (c % w) c (omega arith) (sym (div-add-mod' c w))) in
    let r : c % w < w = mod-lt c q in
    ap (λ x. x % (M * w)) x ∙ mod-mul (y * w + c % w) p q ∙ ap₂ (λ i j. i % M * w + j) (digits_div y r) (digits_mod y r)

-- the cells of the segments from 2^d on, as many
in_run : (w c d : ℕ) → 0 < w → 2 ^ d ≤ c / w + 1 → c / w + 1 < 2 ^ suc d → (2 ^ d * w ≤ c + w) × (c + w < 2 * (2 ^ d * w))
in_run w c d p low high =
    let o : c % w < w = mod-lt c p in
    let f : c / w * w + c % w ≡ c = div-add-mod' c w in
    let l : 2 ^ d * w ≤ (c / w + 1) * w = mul-le-mul_right w low in
    let g : suc (c / w + 1) * w ≤ 2 ^ suc d * w = mul-le-mul_right w high in
    let t : 2 ^ suc d ≡ 2 * 2 ^ d = omega arith in
    let e : 2 ^ suc d * w ≡ 2 * 2 ^ d * w = ap (λ n. n * w) t in
    (omega arith, omega arith)

-- how far on the runs are at the start
ahead : (j w z y : ℕ) → j * w + w + (w * (z + y) - w * y) ≡ (j + 1 + z) * w
ahead j w z y = omega arith

module _ (A K k a : ℕ) (count : Counted A K k) (start : starts (padded A K) k a ≡ true) where
  abbrev w : ℕ
  w = slot K k

  abbrev phase : ℕ
  phase = a + w + (2 ^ K - 2 ^ (K - A))

  phase_lifted : phase ≡ lifted A k (a / w) * w
  unfolding lifted slot
  phase_lifted =
      let e : K - A ≡ (K - k) + (k - A) = omega (arith, count.floor, count.fit) in
      let u : 2 ^ (K - A) ≡ w * 2 ^ (k - A) = ap (λ n. 2 ^ n) e ∙ pow-add 2 (K - k) (k - A) in
      let m : 2 ^ (k - A) ≤ 2 ^ k = pow_mono (omega arith) in
      let z : 2 ^ k ≡ 2 ^ k - 2 ^ (k - A) + 2 ^ (k - A) = omega arith in
      let t : 2 ^ K ≡ w * (2 ^ k - 2 ^ (k - A) + 2 ^ (k - A)) = sym (all_cells_lem K k count.fit) ∙ ap (λ n. w * n) z in
      let s : a ≡ a / w * w = sym (whole_slots (padded A K) k a start) in
      ap (λ n. n + w + (2 ^ K - 2 ^ (K - A))) s
      ∙ ap₂ (λ x y. a / w * w + w + (x - y)) t u
      ∙ ahead (a / w) w (2 ^ k - 2 ^ (k - A)) (2 ^ (k - A))

  -- each cell but the last w has the number of its run
  run_plan : (c : ℕ) → c < 2 ^ K - w → runs_at w phase c ≡ plan_at A K k a c
  unfolding wait slot
  run_plan c h =
      let r = carrier K k c count.fit h in
      let d : ℕ = r.0 in
      let p : 2 ^ (K - k + d) ≡ 2 ^ d * w = pow-add 2 (K - k) d ∙ omega arith in
      let i = in_run w c d (slot_pos K k) r.2.low r.2.high in
      run_number w phase (K - k + d) (omega (arith, r.1, count.fit, count.high)) c (rw p i.0) (omega (arith, p, i.1))
      ∙ ap₂ (λ m n. until m n (c + w)) p phase_lifted
      ∙ scaled (2 ^ d) (lifted A k (a / w)) w c (pow_pos d) (slot_pos K k)
      ∙ sym (plan_due A K k a c count.fit start d r.1 r.2)

  -- the runs, and the last slot's cells behind them
  pub runs_plan : (row x y : List ℕ) → x ≡ written_from (runs_at w phase) row (2 ^ (K - k) - w) (2 ^ K - 2 ^ (K - k)) →
      y ≡ written_from (λ _. never) x (2 ^ K - w) w → y ≡ written (plan_at A K k a) row (2 ^ K)
  unfolding slot
  runs_plan row x y p q =
      let f : ℕ → ℕ = plan_at A K k a in
      let m : w ≤ 2 ^ K = pow_mono {i = K - k} {j = K} (omega arith) in
      let z : w - w ≡ 0 = omega arith in
      let s : 2 ^ K - w + w ≡ 2 ^ K = omega arith in
      let n : 0 + (2 ^ K - w) ≡ 2 ^ K - w = omega arith in
      let b : x ≡ written_from f row 0 (2 ^ K - w) =
      p
      ∙ ap (λ i. written_from (runs_at w phase) row i (2 ^ K - w)) z
      ∙ from_same (runs_at w phase) row 0 f (2 ^ K - w) (λ i l. run_plan (0 + i) (omega arith)) in
      q
      ∙ from_same (λ _. never) x (2 ^ K - w) f w
      (λ i l. sym (plan_never A K k a (2 ^ K - w + i) count.fit start (omega arith)))
      ∙ ap₂ (λ r i. written_from f r i w) b (sym n)
      ∙ from_join f row 0 (2 ^ K - w) w
      ∙ ap (written_from f row 0) s
      ∙ from_first f row (2 ^ K)
