-- A row of numbers and its bytes: how long they are, one number more of either, and that each comes back from the other.
-- Rests on big-endian numbers.
use mathlib.Core.Path.{◌≡◌, refl, sym, ap, ◌∙◌}
use mathlib.Core.List.{List, [], ◌∷◌, ◌++◌, append-nil, append_assoc}
use Prim.Native.Nat.{ℕ, zero, suc, ◌+◌, ◌*◌, ◌≤◌, ◌<◌, ◌^◌}
use native.Mathlib.Omega.{arith}
use lib.ListN.{length, get_or, take, drop, set, length-append}
use lib.Seq.{take-suc, take-add, take-length, drop-cons, set_at, append_snoc}
use Rattle.notice_fields.specs.Numbers.{Bytes, big_endian}
use Rattle.notice_fields.proofs.Digits.{length_big}
use Rattle.notice_fields.proofs.Has.{Has, has_left, has_right, has_part, number_back, bytes_back, bytes_append, bytes_big}
use Rattle.snapshots.specs.Bytes.{number_bytes, saved_number, numbers_in}

-- ---- bytes of numbers

pub length_numbers : (vs : List ℕ) → length (number_bytes vs) ≡ 8 * length vs
unfolding number_bytes
length_numbers [] = refl
length_numbers (v ∷ vs) =
    omega (arith, length-append (big_endian 8 v) (number_bytes vs), length_big 8 v, length_numbers vs)

-- they are bytes
pub bytes_numbers : (vs : List ℕ) → Bytes (number_bytes vs)
unfolding number_bytes
bytes_numbers [] j = omega arith
bytes_numbers (v ∷ vs) j = bytes_append (big_endian 8 v) (number_bytes vs) (bytes_big 8 v) (bytes_numbers vs) j

pub numbers_append : (vs ws : List ℕ) → number_bytes (vs ++ ws) ≡ number_bytes vs ++ number_bytes ws
unfolding number_bytes
numbers_append [] ws = refl
numbers_append (v ∷ vs) ws = rw (numbers_append vs ws) (sym (append_assoc (big_endian 8 v) (number_bytes vs) (number_bytes ws)))

one_number : (v : ℕ) → number_bytes (v ∷ []) ≡ big_endian 8 v
unfolding number_bytes
one_number v = append-nil (big_endian 8 v)

-- the bytes of one number more
pub one_more : (row : List ℕ) (i : ℕ) → i < length row
    → number_bytes (take (suc i) row) ≡ number_bytes (take i row) ++ big_endian 8 (get_or row i 0)
one_more row i h =
    ap number_bytes (take-suc row i 0 h)
    ∙ (numbers_append (take i row) (get_or row i 0 ∷ []) ∙ ap (λ (bs : List ℕ). number_bytes (take i row) ++ bs) (one_number (get_or row i 0)))

-- ---- numbers of bytes

pub length_in : (bs : List ℕ) (n : ℕ) → length (numbers_in bs n) ≡ n
unfolding numbers_in
length_in bs zero = refl
length_in bs (suc n) = omega (arith, length-append (numbers_in bs n) (saved_number bs n ∷ []), length_in bs n)

-- a store of the next number behind those that stand in a row
pub one_stored : (bs l : List ℕ) (i : ℕ) → i < length l
    → set (numbers_in bs i ++ drop i l) i (saved_number bs i) ≡ numbers_in bs (suc i) ++ drop (suc i) l
unfolding numbers_in
one_stored bs l i h =
    rw (drop-cons l i 0 h)
    (set_at (numbers_in bs i) (get_or l i 0) (drop (suc i) l) (saved_number bs i) i (length_in bs i)
    ∙ sym (append_snoc (numbers_in bs i) (saved_number bs i) (drop (suc i) l)))

-- ---- there and back

-- where the bytes of a row stand, each of its numbers is spelt
number_has : (bs vs : List ℕ) (a i : ℕ) → i < length vs → Has bs a (number_bytes vs) → Has bs (a + 8 * i) (big_endian 8 (get_or vs i 0))
unfolding number_bytes
number_has bs [] a i h has = absurd (omega arith)
number_has bs (v ∷ vs) a zero h has =
    let e : a + 8 * 0 ≡ a = omega arith in
    rw e (has_left bs a (big_endian 8 v) (number_bytes vs) has)
number_has bs (v ∷ vs) a (suc i) h has =
    let e : a + length (big_endian 8 v) ≡ a + 8 = omega (arith, length_big 8 v) in
    let f : a + 8 + 8 * i ≡ a + 8 * suc i = omega arith in
    rw f at (number_has bs vs (a + 8) i (omega arith) (rw e at (has_right bs a (big_endian 8 v) (number_bytes vs) has)))

module _ (bs row : List ℕ) (small : (i : ℕ) → get_or row i 0 < 2 ^ 64) (has : Has bs 0 (number_bytes row)) where
  pub number_comes : (i : ℕ) → i < length row → saved_number bs i ≡ get_or row i 0
  number_comes i h =
      let e : 0 + 8 * i ≡ 8 * i = omega arith in
      number_back bs (8 * i) 8 (get_or row i 0) (small i) (rw e at (number_has bs row 0 i h has))

  numbers_come : (n : ℕ) → n ≤ length row → numbers_in bs n ≡ take n row
  unfolding numbers_in
  numbers_come zero h = refl
  numbers_come (suc n) h =
      rw (numbers_come n (omega arith), number_comes n h) (sym (take-suc row n 0 h))

  -- so the row comes back from its bytes
  pub row_comes : numbers_in bs (length row) ≡ row
  row_comes = numbers_come (length row) (omega arith) ∙ take-length row

-- and bytes come back from their numbers
pub bytes_come : (bs : List ℕ) → Bytes bs → (n : ℕ) → 8 * n ≤ length bs → number_bytes (numbers_in bs n) ≡ take (8 * n) bs
unfolding numbers_in number_bytes
bytes_come bs bytes zero h = refl
bytes_come bs bytes (suc n) h =
    let e : 8 * n + 8 ≡ 8 * suc n = omega arith in
    let w = big_endian 8 (saved_number bs n) in
    let part : take 8 (drop (8 * n) bs) ≡ w =
    rw (length_big 8 (saved_number bs n)) at (has_part bs (8 * n) w (omega (arith, length_big 8 (saved_number bs n))) (bytes_back bs bytes (8 * n) 8)) in
    numbers_append (numbers_in bs n) (saved_number bs n ∷ [])
    ∙ rw (one_number (saved_number bs n), bytes_come bs bytes n (omega arith), ← part, ← e) (sym (take-add (8 * n) 8 bs))
