-- The sum of a notice in its four bytes, as it is laid into a row of four.
use Prim.Native.Nat.{ℕ, ◌+◌, ◌≤◌}
use mathlib.Core.Path.{◌≡◌, ap, ◌∙◌}
use mathlib.Core.List.{List, [], ◌++◌, append-nil}
use native.Mathlib.Omega.{arith}
use lib.ListN.{length, drop, drop_of_length-le}
use lib.Seq.{sets, sets-eq}
use Rattle.sums.specs.Crc.{sum_of, sum_size}
use Rattle.notice_fields.specs.Numbers.{big_endian}
use Rattle.notice_fields.proofs.Digits.{length_big}
use Rattle.headend_desk.specs.Desk.{sum_text}

laid : (four : List ℕ) (v : ℕ) → length four ≡ sum_size → sets four 0 (big_endian sum_size v) ≡ big_endian sum_size v
laid four v size =
    let long = length_big sum_size v in
    let far : length four ≤ 0 + length (big_endian sum_size v) = omega (arith, size, long) in
    let none : drop (0 + length (big_endian sum_size v)) four ≡ [] = drop_of_length-le four far in
    sets-eq (big_endian sum_size v) four 0 (omega (arith, size, long))
    ∙ ap (λ (l : List ℕ). big_endian sum_size v ++ l) none
    ∙ append-nil (big_endian sum_size v)

pub laid_sum : (four row bs : List ℕ) (v : ℕ) → length four ≡ sum_size → row ≡ sets four 0 (big_endian sum_size v) → v ≡ sum_of bs →
    row ≡ sum_text bs
laid_sum four row bs v size is sum = is ∙ laid four v size ∙ ap (big_endian sum_size) sum
