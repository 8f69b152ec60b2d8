-- Laws of slots and of the tick's length: how the slots of two counts lie to each other, and how many there are.
-- Rest on the laws of powers and remainders.
use mathlib.Core.Path.{◌≡◌, refl, sym, ap, ◌∙◌}
use Prim.Native.Nat.{ℕ, zero, suc, ◌+◌, ◌-◌, ◌*◌, ◌/◌, ◌%◌, ◌^◌, ◌≤◌, ◌<◌}
use native.Mathlib.Omega.{arith}
use native.Mathlib.Nat.{mod-lt, div-add-mod', le-div_iff_mul-le, div-le_of_le-mul, mul-le-mul, div-eq_of_lt-le}
use Rattle.std.specs.Int.{div_ceil}
use Rattle.std.proofs.lemmas.Grind.{div_ceil_times}
use lib.Pow.{pow_pos, pow-add, pow-lt, pow_mono}
use Rattle.rules.specs.Limits.{count_max, length_max}
use Rattle.grid.specs.Ticks.{slot, rounded_up, tick_of}
use Rattle.grid.specs.Bounds.{Exactly}

pub slot_pos : (K k : ℕ) → 0 < slot K k
unfolding slot
slot_pos K k = pow_pos (K - k)

-- a slot is two slots of one count more
pub slot_half : (K k : ℕ) → k < K → slot K k ≡ 2 * slot K (suc k)
unfolding slot
slot_half K k l = let e : K - k ≡ suc (K - suc k) = omega arith in rw e (omega arith)

-- the slots of a count up to the last channel's window
pub half_cells : (K k : ℕ) → 0 < k → k ≤ K → slot K k * 2 ^ (k - 1) ≡ 2 ^ (K - 1)
unfolding slot
half_cells K k p l =
    let e : K - 1 ≡ (K - k) + (k - 1) = omega arith in
    sym (ap (λ n. 2 ^ n) e ∙ pow-add 2 (K - k) (k - 1))

pub all_cells_lem : (K k : ℕ) → k ≤ K → slot K k * 2 ^ k ≡ 2 ^ K
unfolding slot
all_cells_lem K k l =
    let e : K ≡ (K - k) + k = omega arith in
    sym (ap (λ n. 2 ^ n) e ∙ pow-add 2 (K - k) k)

-- a tick that is rounded up is long enough
pub rounded_enough : (n m : ℕ) → 0 < m → n ≤ rounded_up n m * m
unfolding rounded_up
rounded_enough n m p =
    let r : (n + (m - 1)) % m < m = mod-lt (n + (m - 1)) p in
    omega (arith, div-add-mod' (n + (m - 1)) m)

-- at least one and at most as many as there were
pub rounded_low : (n m : ℕ) → 0 < n → 0 < m → 1 ≤ rounded_up n m
unfolding rounded_up
rounded_low n m p q = (le-div_iff_mul-le {k = m} {x = 1} {y = n + (m - 1)} q).1 (omega arith)

pub rounded_high : (n m : ℕ) → 0 < n → 0 < m → rounded_up n m ≤ n
unfolding rounded_up
rounded_high zero m p q = absurd (omega arith)
rounded_high (suc n) zero p q = absurd (omega arith)
rounded_high (suc n) (suc m) p q = div-le_of_le-mul (suc m) (omega arith)

-- a floor above 0 leaves cells for film
pub held_pos : (A K : ℕ) → 0 < A → A ≤ K → 2 ^ (K - A) < 2 ^ K
held_pos A K p l = pow-lt (omega arith)

-- what the language rounds up is what the definition does
between : (n m k : ℕ) → 0 < m → n ≤ k * m → k * m < n + m → k ≡ (n + (m - 1)) / m
between n m k p low high = sym (div-eq_of_lt-le m {m = n + (m - 1)} (omega arith) (omega arith))

pub ceil_rounded : (n m : ℕ) → 0 < m → div_ceil n m ≡ (n + (m - 1)) / m
ceil_rounded n m p = let t = div_ceil_times n m p in between n m (div_ceil n m) p t.0 t.1

pub tick_exactly : (D A K p q : ℕ) → 0 < D → 0 < A → A ≤ K → p ≡ 2 ^ K → q ≡ 2 ^ (K - A) →
    Exactly (tick_of D A K) 1 D ((D + (p - q - 1)) / (p - q))
unfolding tick_of rounded_up
tick_exactly D A K p q d a l e f =
    let m : ℕ = 2 ^ K - 2 ^ (K - A) in
    let h : 0 < m = omega (arith, held_pos A K a l) in
    rw (e, f) (record { is = refl; low = rounded_low D m d h; high = rounded_high D m d h })

-- a slot of some ticks, of some ms each
pub slot_ms_lem : (a b D : ℕ) → 1 ≤ a → a ≤ 2 ^ count_max → 1 ≤ b → b ≤ D → D ≤ length_max →
    (0 < a * b) × (a * b ≤ 2 ^ count_max * length_max)
slot_ms_lem a b D p high q le short = (
  mul-le-mul {n₁ = 1} {m₁ = 1} {n₂ = a} {m₂ = b} p q,
  mul-le-mul {n₁ = a} {m₁ = b} {n₂ = 2 ^ count_max} {m₂ = length_max} high (omega arith),
)

pub film_room : (c K r D : ℕ) → c < 2 ^ K → K ≤ count_max → r ≤ D → D ≤ length_max → c * r < 2 ^ 64
film_room c K r D a b l h =
    let m : 2 ^ K ≤ 2 ^ count_max = pow_mono b in
    let n : c * r ≤ 2 ^ count_max * length_max = mul-le-mul {n₁ = c} {m₁ = r} {n₂ = 2 ^ count_max} {m₂ = length_max} (omega arith) (omega arith) in
    omega arith
