-- Laws of the registers of parts of a row: one byte more, a part behind another, and the register of a part begun with any other as that
-- begun with nothing; so that parts that were summed apart make up the whole.
-- Rest on the laws of the shift.
use mathlib.Core.Path.{◌≡◌, refl, sym, ap, ap₂, ◌∙◌}
use mathlib.Core.List.{List, ◌++◌}
use Prim.Native.Nat.{ℕ, zero, suc, ◌+◌, ◌-◌, ◌*◌, ◌≤◌, ◌<◌, ◌^◌}
use native.Mathlib.Omega.{arith}
use native.Mathlib.Nat.{add-zero}
use native.Mathlib.Numerals.{add-one}
use lib.Bits.{bit_xor, xor_zero_r}
use lib.ListN.{length, get_or, length-append, get_or-append}
use lib.Seq.{get_or-append-add}
use Rattle.sums.specs.Crc.{ones, shifted_by, with_byte, register}
use Rattle.sums.specs.inner.Moves.{highest, moved_to, register_from}
use Rattle.sums.proofs.moves.Linear.{xor_assoc, by_xor, by_add}
use Rattle.sums.proofs.moves.Bits.{moved_by}

-- one byte more
module _ (bs : List ℕ) (from r : ℕ) where
  pub next_in_lem : (i x y : ℕ) → x ≡ register_from bs from r i → y ≡ with_byte x (get_or bs (from + i) 0) → y ≡ register_from bs from r (i + 1)
  unfolding register_from
  next_in_lem i x y p q = rw (add-one i) (q ∙ ap (λ z. with_byte z (get_or bs (from + i) 0)) p)

  pub next_at : (at x y : ℕ) → from ≤ at → x ≡ register_from bs from r (at - from) → y ≡ with_byte x (get_or bs at 0) →
      y ≡ register_from bs from r (at + 1 - from)
  next_at at x y l p q =
      let e : from + (at - from) ≡ at = omega arith in
      let s : at + 1 - from ≡ at - from + 1 = omega arith in
      rw s (next_in_lem (at - from) x y p (rw e q))

  pub none_in : r ≡ register_from bs from r 0
  unfolding register_from
  none_in = refl

  -- a part behind another
  pub more_in : (m n : ℕ) → register_from bs from r (m + n) ≡ register_from bs (from + m) (register_from bs from r m) n
  unfolding register_from
  more_in m zero = ap (register_from bs from r) (add-zero m)
  more_in m (suc n) =
      let e : m + suc n ≡ suc (m + n) = omega arith in
      let s : from + (m + n) ≡ from + m + n = omega arith in
      rw e (ap₂ (λ x i. with_byte x (get_or bs i 0)) (more_in m n) s)

  -- what stood in the register before goes through by itself
  pub apart : (n : ℕ) → register_from bs from r n ≡ bit_xor (shifted_by (8 * n) r) (register_from bs from 0 n)
  unfolding register_from shifted_by
  apart zero = sym (xor_zero_r r)
  apart (suc n) =
      let b : ℕ = get_or bs (from + n) 0 in
      let x : ℕ = shifted_by (8 * n) r in
      let y : ℕ = register_from bs from 0 n in
      let e : 8 + 8 * n ≡ 8 * suc n = omega arith in
      ap (λ z. with_byte z b) (apart n)
      ∙ ap (shifted_by 8) (xor_assoc x y b)
      ∙ by_xor 8 x (bit_xor y b)
      ∙ ap (λ z. bit_xor z (with_byte y b)) (by_add 8 (8 * n) r ∙ ap (λ k. shifted_by k r) e)

-- from the first byte on
pub whole : (bs : List ℕ) (n : ℕ) → register bs n ≡ register_from bs 0 ones n
unfolding register register_from
whole bs zero = refl
whole bs (suc n) = let e : 0 + n ≡ n = omega arith in rw e (ap (λ x. with_byte x (get_or bs n 0)) (whole bs n))

-- the register of n bytes, and that of m bytes behind them, as one
pub behind_in_lem : (bs : List ℕ) (n m x y k z : ℕ) → x < 2 ^ 32 → x ≡ register_from bs 0 ones n → y ≡ register_from bs n 0 m →
    k ≡ shifted_by (8 * m) highest → z ≡ bit_xor (moved_to x k 32) y → z ≡ register_from bs 0 ones (n + m)
behind_in_lem bs n m x y k z small p q e f =
    let s : 0 + n ≡ n = omega arith in
    f
    ∙ ap₂ bit_xor (ap (λ k. moved_to x k 32) e ∙ moved_by x (8 * m) small) q
    ∙ sym (apart bs n x m)
    ∙ ap₂ (λ i r. register_from bs i r m) (sym s) p
    ∙ sym (more_in bs 0 ones n m)

-- ---- two rows, one behind the other

module _ (a b : List ℕ) (r : ℕ) where
  in_first : (n : ℕ) → n ≤ length a → register_from (a ++ b) 0 r n ≡ register_from a 0 r n
  unfolding register_from
  in_first zero l = refl
  in_first (suc n) l =
      let e : 0 + n ≡ n = omega arith in
      ap₂ with_byte (in_first n (omega arith)) (rw e (get_or-append a b 0 n (omega arith)))

  in_second : (n : ℕ) → register_from (a ++ b) (length a) r n ≡ register_from b 0 r n
  unfolding register_from
  in_second zero = refl
  in_second (suc n) = let e : 0 + n ≡ n = omega arith in ap₂ with_byte (in_second n) (rw e (get_or-append-add a b n 0))

-- the register of both goes on from that of the first
pub joined_in : (a b : List ℕ) (x y : ℕ) → x ≡ register_from a 0 ones (length a - 0) → y ≡ register_from b 0 x (length b - 0)
    → y ≡ register (a ++ b) (length (a ++ b))
joined_in a b x y p q =
    let m : length a - 0 ≡ length a = omega arith in
    let n : length b - 0 ≡ length b = omega arith in
    let s : 0 + length a ≡ length a = omega arith in
    rw n at q
    ∙ sym (in_second a b x (length b))
    ∙ ap (λ z. register_from (a ++ b) (length a) z (length b)) (rw m at p ∙ sym (in_first a b ones (length a) (omega arith)))
    ∙ ap (λ i. register_from (a ++ b) i (register_from (a ++ b) 0 ones (length a)) (length b)) (sym s)
    ∙ sym (more_in (a ++ b) 0 ones (length a) (length b))
    ∙ ap (register_from (a ++ b) 0 ones) (sym (length-append a b))
    ∙ sym (whole (a ++ b) (length (a ++ b)))
