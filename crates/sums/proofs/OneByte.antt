-- One byte of a row changed changes its sum: a step of the checksum loses nothing, since the polynomial's highest bit says whether a bit that
-- went out was set. So registers that differ stay so through equal bytes, and two bytes that differ part equal ones.
-- Rests on the laws of the shift and the widths of registers.
use mathlib.Core.Path.{◌≡◌, refl, sym, ap, ap₂, ◌∙◌}
use mathlib.Core.Bool.{Bool, true, false}
use mathlib.Core.Logic.{⊎_elim}
use mathlib.Core.List.{List}
use Prim.Native.Nat.{ℕ, zero, suc, ◌/◌, ◌%◌, ◌≤◌, ◌<◌, ◌^◌}
use native.Mathlib.Omega.{arith}
use lib.Bits.{bit_xor, xor_lt, xor_self, xor_zero_l, xor_comm}
use lib.Dec.{eqb}
use lib.ListN.{length, get_or}
use borrow.Author.Tests.{eqb-false}
use Rattle.rules.specs.Refusals.{pick}
use Rattle.rules.proofs.Search.{below_suc}
use Rattle.sums.specs.Crc.{polynomial, ones, shifted, shifted_by, with_byte, register, sum_of}
use Rattle.sums.proofs.moves.Linear.{xor_assoc, by_xor}
use Rattle.sums.proofs.Small.{by_small, register_small}

-- ---- exclusive or taken back

xor_back : (r b : ℕ) → bit_xor r (bit_xor r b) ≡ b
xor_back r b = sym (xor_assoc r r b) ∙ ap (λ x. bit_xor x b) (xor_self r) ∙ xor_zero_l b

xor_left : (r b c : ℕ) → bit_xor r b ≡ bit_xor r c → b ≡ c
xor_left r b c e = sym (xor_back r b) ∙ ap (bit_xor r) e ∙ xor_back r c

xor_right : (r s b : ℕ) → bit_xor r b ≡ bit_xor s b → r ≡ s
xor_right r s b e = xor_left b r s (xor_comm b r ∙ e ∙ xor_comm s b)

xor_none : (a b : ℕ) → bit_xor a b ≡ 0 → a ≡ b
xor_none a b e = xor_right a b b (e ∙ sym (xor_self b))

-- ---- a shift loses nothing

odd_or_even : (x : ℕ) → (x % 2 ≡ 1 → ⊥) → x / 2 ≡ 0 → x ≡ 0
odd_or_even zero even none = refl
odd_or_even (suc zero) even none = absurd (even refl)
odd_or_even (suc (suc x)) even none = absurd (omega arith)

shifted_none : (x : ℕ) → x < 2 ^ 32 → shifted x ≡ 0 → x ≡ 0
shifted_none x h e = go (eqb (x % 2) 1) refl e
  where
    go : (b : Bool) → eqb (x % 2) 1 ≡ b → pick b (bit_xor (x / 2) polynomial) (x / 2) ≡ 0 → x ≡ 0
    go true odd none = let same : x / 2 ≡ polynomial = xor_none (x / 2) polynomial none in absurd (omega arith)
    go false even none = odd_or_even x (eqb-false _ _ even) none

by_none : (n x : ℕ) → x < 2 ^ 32 → shifted_by n x ≡ 0 → x ≡ 0
unfolding shifted_by
by_none zero x h e = e
by_none (suc n) x h e = by_none n x h (shifted_none (shifted_by n x) (by_small n x h) e)

by_one : (n a b : ℕ) → a < 2 ^ 32 → b < 2 ^ 32 → shifted_by n a ≡ shifted_by n b → a ≡ b
by_one n a b f g e =
    xor_none a b
    (by_none n (bit_xor a b) (xor_lt 32 a b f g)
    (by_xor n a b ∙ ap (λ x. bit_xor x (shifted_by n b)) e ∙ xor_self (shifted_by n b)))

-- ---- rows that differ in one byte

module _ (bs cs : List ℕ) (small : (j : ℕ) → get_or bs j 0 < 256) (small' : (j : ℕ) → get_or cs j 0 < 256)
    (i : ℕ) (others : (j : ℕ) → (j ≡ i → ⊥) → get_or bs j 0 ≡ get_or cs j 0) (differ : get_or bs i 0 ≡ get_or cs i 0 → ⊥) where
  same_before : (n : ℕ) → n ≤ i → register bs n ≡ register cs n
  unfolding register
  same_before zero l = refl
  same_before (suc n) l = ap₂ with_byte (same_before n (omega arith)) (others n (λ e. omega arith))

  wide : (l : List ℕ) → ((j : ℕ) → get_or l j 0 < 256) → (n : ℕ) → bit_xor (register l n) (get_or l n 0) < 2 ^ 32
  wide l f n = xor_lt 32 (register l n) (get_or l n 0) (register_small l f n) (omega (arith, f n))

  at_place : (n : ℕ) → i ≡ n → bit_xor (register bs n) (get_or bs n 0) ≡ bit_xor (register cs n) (get_or cs n 0) → get_or bs i 0 ≡ get_or cs i 0
  at_place n here x =
      rw here
      (xor_left (register bs n) (get_or bs n 0) (get_or cs n 0)
      (x ∙ ap (λ r. bit_xor r (get_or cs n 0)) (sym (same_before n (omega arith)))))

  parted : (n : ℕ) → i < n → register bs n ≡ register cs n → ⊥
  unfolding register
  parted zero l e = omega arith
  parted (suc n) l e =
      let x : bit_xor (register bs n) (get_or bs n 0) ≡ bit_xor (register cs n) (get_or cs n 0) =
      by_one 8 _ _ (wide bs small n) (wide cs small' n) e in
      ⊎_elim (λ before. parted n before (behind before x)) (λ here. differ (at_place n here x)) (below_suc i n l)
    where
      behind : i < n → bit_xor (register bs n) (get_or bs n 0) ≡ bit_xor (register cs n) (get_or cs n 0) → register bs n ≡ register cs n
      behind before x =
          xor_right (register bs n) (register cs n) (get_or bs n 0)
          (x ∙ ap (bit_xor (register cs n)) (sym (others n (λ e. omega arith))))

  pub sum_one_byte : length bs ≡ length cs → i < length bs → sum_of bs ≡ sum_of cs → ⊥
  unfolding sum_of
  sum_one_byte long l e =
      parted (length bs) l (xor_right (register bs (length bs)) (register cs (length bs)) ones (rw (← long) at e))
