-- Laws of the shift: it moves each of two registers by itself, whose bits differ where those of the third do; and moves add up.
-- Rest on the digits of exclusive or.
use mathlib.Core.Path.{◌≡◌, refl, sym, ap, ap₂, ◌∙◌}
use Prim.Native.Nat.{ℕ, zero, suc, ◌+◌, ◌*◌, ◌/◌, ◌%◌, ◌<◌}
use native.Mathlib.Omega.{arith}
use native.Mathlib.Nat.{mod-lt}
use lib.Arith.{bin_ind, digits_mod}
use lib.Bits.{bit_xor, differ, xor_step, xor_shr, xor_comm, xor_self}
use lib.Dec.{eqb}
use Rattle.rules.specs.Refusals.{pick}
use Rattle.sums.specs.Crc.{polynomial, shifted, shifted_by}

-- ---- exclusive or of three

differ_assoc : (x y z : ℕ) → x < 2 → y < 2 → z < 2 → differ (differ x y) z ≡ differ x (differ y z)
differ_assoc zero y z a b c = refl
differ_assoc (suc zero) zero z a b c = refl
differ_assoc (suc zero) (suc zero) zero a b c = refl
differ_assoc (suc zero) (suc zero) (suc zero) a b c = refl
differ_assoc (suc zero) (suc zero) (suc (suc z)) a b c = absurd (omega arith)
differ_assoc (suc zero) (suc (suc y)) z a b c = absurd (omega arith)
differ_assoc (suc (suc x)) y z a b c = absurd (omega arith)

differ_lt : (x y : ℕ) → x < 2 → y < 2 → differ x y < 2
differ_lt zero y a b = b
differ_lt (suc x) zero a b = a
differ_lt (suc zero) (suc y) a b = omega arith
differ_lt (suc (suc x)) (suc y) a b = absurd (omega arith)

bit : (x : ℕ) → x % 2 < 2
bit x = mod-lt x (omega arith)

xor_odd : (a b : ℕ) → bit_xor a b % 2 ≡ differ (a % 2) (b % 2)
xor_odd a b =
    ap (λ x. x % 2) (xor_step a b) ∙ digits_mod (bit_xor (a / 2) (b / 2)) (differ_lt (a % 2) (b % 2) (bit a) (bit b))

pub xor_assoc : (a b c : ℕ) → bit_xor (bit_xor a b) c ≡ bit_xor a (bit_xor b c)
xor_assoc =
    bin_ind (λ a. (b c : ℕ) → bit_xor (bit_xor a b) c ≡ bit_xor a (bit_xor b c)) (λ b c. refl)
    (λ a ih b c.
    xor_step (bit_xor a b) c
    ∙ ap₂ (λ x y. x * 2 + y)
    (ap (λ x. bit_xor x (c / 2)) (xor_shr a b 1) ∙ ih (b / 2) (c / 2) ∙ ap (bit_xor (a / 2)) (sym (xor_shr b c 1)))
    (ap (λ x. differ x (c % 2)) (xor_odd a b) ∙ differ_assoc (a % 2) (b % 2) (c % 2) (bit a) (bit b) (bit c)
    ∙ ap (differ (a % 2)) (sym (xor_odd b c)))
    ∙ sym (xor_step a (bit_xor b c)))

-- ---- one bit

-- what a bit that goes out puts in
abbrev fed : ℕ → ℕ → ℕ
fed x u = pick (eqb x 1) (bit_xor u polynomial) u

fed_xor : (x y u v : ℕ) → x < 2 → y < 2 → fed (differ x y) (bit_xor u v) ≡ bit_xor (fed x u) (fed y v)
fed_xor zero zero u v a b = refl
fed_xor zero (suc zero) u v a b = xor_assoc u v polynomial
fed_xor (suc zero) zero u v a b =
    xor_assoc u v polynomial ∙ ap (bit_xor u) (xor_comm v polynomial) ∙ sym (xor_assoc u polynomial v)
fed_xor (suc zero) (suc zero) u v a b =
    ap (bit_xor u)
    (sym (sym (xor_assoc polynomial polynomial v) ∙ ap (λ p. bit_xor p v) (xor_self polynomial))
    ∙ ap (bit_xor polynomial) (xor_comm polynomial v))
    ∙ sym (xor_assoc u polynomial (bit_xor v polynomial))
fed_xor zero (suc (suc y)) u v a b = absurd (omega arith)
fed_xor (suc zero) (suc (suc y)) u v a b = absurd (omega arith)
fed_xor (suc (suc x)) y u v a b = absurd (omega arith)

shifted_xor : (a b : ℕ) → shifted (bit_xor a b) ≡ bit_xor (shifted a) (shifted b)
shifted_xor a b = ap₂ fed (xor_odd a b) (xor_shr a b 1) ∙ fed_xor (a % 2) (b % 2) (a / 2) (b / 2) (bit a) (bit b)

-- ---- many bits

pub by_xor : (n a b : ℕ) → shifted_by n (bit_xor a b) ≡ bit_xor (shifted_by n a) (shifted_by n b)
unfolding shifted_by
by_xor zero a b = refl
by_xor (suc n) a b = ap shifted (by_xor n a b) ∙ shifted_xor (shifted_by n a) (shifted_by n b)

pub by_zero : (n : ℕ) → shifted_by n 0 ≡ 0
unfolding shifted_by
by_zero zero = refl
by_zero (suc n) = ap shifted (by_zero n)

pub by_add : (m n r : ℕ) → shifted_by m (shifted_by n r) ≡ shifted_by (m + n) r
unfolding shifted_by
by_add zero n r = let e : 0 + n ≡ n = omega arith in rw e refl
by_add (suc m) n r = let e : suc m + n ≡ suc (m + n) = omega arith in rw e (ap shifted (by_add m n r))

-- one more before is one more behind
pub by_next : (n r : ℕ) → shifted_by n (shifted r) ≡ shifted (shifted_by n r)
unfolding shifted_by
by_next zero r = refl
by_next (suc n) r = ap shifted (by_next n r)
