-- A record that was written stands where it was written, and reads as what was written.
-- Rests on numbers that come back from their bytes, and on a sum fitting four.
use mathlib.Core.Path.{◌≡◌, ap, ◌∙◌}
use mathlib.Core.Bool.{true}
use mathlib.Core.List.{List, ◌++◌}
use Prim.Native.Nat.{ℕ, ◌+◌, ◌≤◌, ◌<◌, ◌^◌}
use native.Mathlib.Omega.{arith}
use lib.ListN.{length, take, drop}
use Rattle.sums.specs.Crc.{sum_of, sum_size}
use Rattle.sums.proofs.Small.{sum_small}
use Rattle.notice_fields.specs.Numbers.{Bytes, big_endian}
use Rattle.notice_fields.proofs.Digits.{length_big}
use Rattle.notice_fields.proofs.Has.{Has, has_left, has_right, has_part, number_back, bytes_append, bytes_big}
use Rattle.journal_records.specs.Records.{record_head, record_least, records_max, payload_max, body_of, record_of, record_number, record_kind, payload_size}
use Rattle.journal_records.specs.Records.{payload_at, verifies_at}
use Rattle.journal_records.proofs.Standing.{verifies}
use Rattle.journal_records.proofs.Laid.{length_body}

-- the numbers of a record, and its payload, are within what its bytes hold
pub record Recordable (n kind : ℕ) (payload : List ℕ) : Type 0 where
  pub numbered : 1 ≤ n
  pub low : n ≤ records_max
  pub kinded : 1 ≤ kind
  pub narrow : kind < 256
  pub short : length payload ≤ payload_max
  pub bytes : Bytes payload

pub bytes_body : (n kind : ℕ) (payload : List ℕ) → Bytes payload → Bytes (body_of n kind payload)
unfolding body_of
bytes_body n kind payload small =
    let c = big_endian 2 (length payload) in
    bytes_append (big_endian 8 n) (big_endian 1 kind ++ (c ++ payload)) (bytes_big 8 n)
    (bytes_append (big_endian 1 kind) (c ++ payload) (bytes_big 1 kind) (bytes_append c payload (bytes_big 2 (length payload)) small))

pub bytes_record : (identity : List ℕ) (n kind : ℕ) (payload : List ℕ) → Bytes payload → Bytes (record_of identity n kind payload)
unfolding record_of
bytes_record identity n kind payload small =
    bytes_append (body_of n kind payload) (big_endian sum_size (sum_of (identity ++ body_of n kind payload))) (bytes_body n kind payload small)
    (bytes_big sum_size (sum_of (identity ++ body_of n kind payload)))

module _ (identity : List ℕ) (small : Bytes identity) (n kind : ℕ) (payload : List ℕ) (r : Recordable n kind payload) where
  abbrev body : List ℕ
  body = body_of n kind payload

  -- a sum comes back from its bytes
  pub sum_fits : sum_of (identity ++ body) < 256 ^ 4
  sum_fits = omega (arith, sum_small (identity ++ body) (bytes_append identity body small (bytes_body n kind payload r.bytes)))

  module _ (bs : List ℕ) (p : ℕ) (has : Has bs p (record_of identity n kind payload)) where
    body_has : Has bs p body
    unfolding record_of
    body_has = has_left bs p body (big_endian sum_size (sum_of (identity ++ body))) has

    behind_number : Has bs (p + 8) (big_endian 1 kind ++ (big_endian 2 (length payload) ++ payload))
    unfolding body_of
    behind_number =
        let e : p + length (big_endian 8 n) ≡ p + 8 = omega (arith, length_big 8 n) in
        rw e at (has_right bs p (big_endian 8 n) (big_endian 1 kind ++ (big_endian 2 (length payload) ++ payload)) body_has)

    behind_kind : Has bs (p + 9) (big_endian 2 (length payload) ++ payload)
    behind_kind =
        let e : p + 8 + length (big_endian 1 kind) ≡ p + 9 = omega (arith, length_big 1 kind) in
        rw e at (has_right bs (p + 8) (big_endian 1 kind) (big_endian 2 (length payload) ++ payload) behind_number)

    payload_has : Has bs (p + record_head) payload
    payload_has =
        let e : p + 9 + length (big_endian 2 (length payload)) ≡ p + record_head = omega (arith, length_big 2 (length payload)) in
        rw e at (has_right bs (p + 9) (big_endian 2 (length payload)) payload behind_kind)

    sum_has : Has bs (p + (record_head + length payload)) (big_endian sum_size (sum_of (identity ++ body)))
    unfolding record_of
    sum_has =
        let e : p + length body ≡ p + (record_head + length payload) = omega (arith, length_body n kind payload) in
        rw e at (has_right bs p body (big_endian sum_size (sum_of (identity ++ body))) has)

    pub number_is : record_number bs p ≡ n
    unfolding body_of
    number_is =
        number_back bs p 8 n (omega (arith, r.low))
        (has_left bs p (big_endian 8 n) (big_endian 1 kind ++ (big_endian 2 (length payload) ++ payload)) body_has)

    pub kind_is : record_kind bs p ≡ kind
    kind_is =
        number_back bs (p + 8) 1 kind (omega (arith, r.narrow))
        (has_left bs (p + 8) (big_endian 1 kind) (big_endian 2 (length payload) ++ payload) behind_number)

    pub size_is : payload_size bs p ≡ length payload
    size_is =
        number_back bs (p + 9) 2 (length payload) (omega (arith, r.short))
        (has_left bs (p + 9) (big_endian 2 (length payload)) payload behind_kind)

    module _ (fits : p + (record_least + length payload) ≤ length bs) where
      pub payload_is : payload_at bs p ≡ payload
      payload_is =
          ap (λ (m : ℕ). take m (drop (p + record_head) bs)) size_is ∙ has_part bs (p + record_head) payload (omega arith) payload_has

      body_part : take (record_head + payload_size bs p) (drop p bs) ≡ body
      body_part =
          let long = length_body n kind payload in
          let e : record_head + payload_size bs p ≡ length body = omega (arith, long, size_is) in
          rw e (has_part bs p body (omega (arith, long)) body_has)

      -- it stands there
      pub written_verifies : verifies_at identity bs p ≡ true
      written_verifies =
          verifies identity bs p
          (record {
            there = omega arith;
            numbered = rw number_is r.numbered;
            low = rw number_is r.low;
            kinded = rw kind_is r.kinded;
            ends = omega (arith, size_is);
            summed = rw (body_part, size_is) (number_back bs (p + (record_head + length payload)) 4 (sum_of (identity ++ body)) sum_fits sum_has);
          })
