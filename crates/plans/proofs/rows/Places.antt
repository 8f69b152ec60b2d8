-- Laws of the runs of a plan: two rises make a run, and the numbers of all runs are one rule by the place of a cell.
-- Rest on the laws of remainders, and on the place of a number's highest one-bit.
use mathlib.Core.Path.{◌≡◌, refl, sym, ap, ◌∙◌}
use mathlib.Core.List.{List}
use Prim.Native.Nat.{ℕ, suc, ◌+◌, ◌-◌, ◌%◌, ◌^◌, ◌≤◌, ◌<◌}
use native.Mathlib.Omega.{arith}
use native.Mathlib.Nat.{mod-lt}
use lib.Count.{count_leading_zeros}
use lib.Pow.{pow_pos, pow_mono}
use Rattle.rules.specs.Limits.{count_max}
use Rattle.grid.proofs.Numbers.{mod_unique, mod_same, until, top_bit, top_unique}
use Rattle.plans.specs.inner.Rows.{written_from, rising_at, run_at, runs_at}
use Rattle.plans.proofs.rows.Written.{from_same, from_join}

-- the cells before the one that is taken first come last
module _ (from many off : ℕ) (l : off < many) where
  early : (i : ℕ) → i < off → rising_at from (many - off) (from + i) ≡ run_at from many off (from + i)
  early i h =
      let e : from + i - from ≡ i = omega arith in
      rw e (sym (mod_unique many (many - off + i) (i + (many - off)) 0 0 (omega arith) (omega arith)))

  late : (i : ℕ) → i < many - off → rising_at (from + off) 0 (from + off + i) ≡ run_at from many off (from + off + i)
  late i h =
      let e : from + off + i - (from + off) ≡ i = omega arith in
      let s : from + off + i - from ≡ off + i = omega arith in
      rw (e, s) (sym (mod_unique many (0 + i) (off + i + (many - off)) 0 1 (omega arith) (omega arith)))

  pub two_rises : (row a b : List ℕ) → a ≡ written_from (rising_at from (many - off)) row from off →
      b ≡ written_from (rising_at (from + off) 0) a (from + off) (many - off) → b ≡ written_from (run_at from many off) row from many
  two_rises row a b p q =
      let s : off + (many - off) ≡ many = omega arith in
      q
      ∙ from_same (rising_at (from + off) 0) a (from + off) (run_at from many off) (many - off) late
      ∙ ap (λ r. written_from (run_at from many off) r (from + off) (many - off))
      (p ∙ from_same (rising_at from (many - off)) row from (run_at from many off) off early)
      ∙ from_join (run_at from many off) row from off (many - off)
      ∙ ap (written_from (run_at from many off) row from) s

module _ (base phase e : ℕ) (small : e ≤ count_max) where
  -- the number of a cell of the run of 2^e
  pub run_number : (c : ℕ) → 2 ^ e ≤ c + base → c + base < 2 ^ suc e → runs_at base phase c ≡ until (2 ^ e) phase (c + base)
  unfolding runs_at
  run_number c low high =
      let o : 0 < 2 ^ e = pow_pos e in
      let m : 2 ^ suc e ≤ 2 ^ suc count_max = pow_mono {i = suc e} {j = suc count_max} (omega arith) in
      let t = top_bit (c + base) (omega arith) (omega arith) in
      let s : 63 - count_leading_zeros 64 (c + base) ≡ e =
      top_unique (63 - count_leading_zeros 64 (c + base)) e (c + base) t.low t.high low high in
      rw s refl

  -- which is what the run writes
  run_place : base ≤ 2 ^ e → (i : ℕ) → i < 2 ^ e →
      run_at (2 ^ e - base) (2 ^ e) (phase % 2 ^ e) (2 ^ e - base + i) ≡ runs_at base phase (2 ^ e - base + i)
  run_place b i h =
      let o : 0 < 2 ^ e = pow_pos e in
      let p : phase % 2 ^ e < 2 ^ e = mod-lt phase o in
      let s : 2 ^ e - base + i - (2 ^ e - base) ≡ i = omega arith in
      let t : 2 ^ e - base + i + base ≡ 2 ^ e + i = omega arith in
      rw s
      (mod_same (2 ^ e) (2 ^ e + i + (2 ^ e - phase % 2 ^ e)) (i + (2 ^ e - phase % 2 ^ e)) 1 0 (omega arith)
      ∙ sym (run_number (2 ^ e - base + i) (omega arith) (omega arith) ∙ ap (until (2 ^ e) phase) t))

  -- the next run behind those before
  pub next_run : (row a b : List ℕ) (low many off : ℕ) → low ≤ e → base ≤ 2 ^ low → many ≡ 2 ^ e → off ≡ phase % many →
      a ≡ written_from (runs_at base phase) row (2 ^ low - base) (2 ^ e - 2 ^ low) →
      b ≡ written_from (run_at (many - base) many off) a (many - base) many →
      b ≡ written_from (runs_at base phase) row (2 ^ low - base) (2 ^ suc e - 2 ^ low)
  next_run row a b low many off l h m n p q =
      let g : 2 ^ low ≤ 2 ^ e = pow_mono l in
      let s : 2 ^ low - base + (2 ^ e - 2 ^ low) ≡ 2 ^ e - base = omega arith in
      let t : 2 ^ e - 2 ^ low + 2 ^ e ≡ 2 ^ suc e - 2 ^ low = omega arith in
      let x : b ≡ written_from (run_at (2 ^ e - base) (2 ^ e) (phase % 2 ^ e)) a (2 ^ e - base) (2 ^ e) = rw (n, m) at q in
      x
      ∙ from_same (run_at (2 ^ e - base) (2 ^ e) (phase % 2 ^ e)) a (2 ^ e - base) (runs_at base phase) (2 ^ e) (run_place (omega arith))
      ∙ ap (λ i. written_from (runs_at base phase) a i (2 ^ e)) (sym s)
      ∙ ap (λ r. written_from (runs_at base phase) r (2 ^ low - base + (2 ^ e - 2 ^ low)) (2 ^ e)) p
      ∙ from_join (runs_at base phase) row (2 ^ low - base) (2 ^ e - 2 ^ low) (2 ^ e)
      ∙ ap (written_from (runs_at base phase) row (2 ^ low - base)) t
