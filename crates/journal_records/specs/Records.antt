-- The records of a journal: number from 1 on (8 bytes), kind (1), the payload's length (2), payload, and the CRC-32C of the journal's identity
-- and of all that (4). Numbers are big-endian.
use Rattle.std.specs.Prelude.{ℕ, suc, ◌+◌, ◌-◌, ◌^◌, Bool, List, [], ◌∷◌, ◌++◌, Option, Some, None, eqb, leb, length, take, drop}
use Rattle.rules.specs.Limits.{both, within}
use Rattle.rules.specs.Refusals.{pick}
use Rattle.sums.specs.Crc.{sum_of, sum_size}
use Rattle.notice_fields.specs.Numbers.{big_endian, number_at}
use Rattle.journal_records.specs.declared.records.Record.{Record}

-- the bytes before the payload, those of the shortest record, the longest payload and the longest record
abbrev pub record_head : ℕ
record_head = 11

abbrev pub record_least : ℕ
record_least = record_head + sum_size

abbrev pub payload_max : ℕ
payload_max = 2 ^ 16 - 1

abbrev pub longest_record : ℕ
longest_record = record_least + payload_max

-- no journal has more records
abbrev pub records_max : ℕ
records_max = 2 ^ 48 - 1

-- kind 1 is a notice
abbrev pub notice_record : ℕ
notice_record = 1

-- ---- written

unfoldable pub body_of : ℕ → ℕ → List ℕ → List ℕ
body_of n kind payload = big_endian 8 n ++ (big_endian 1 kind ++ (big_endian 2 (length payload) ++ payload))

unfoldable pub record_of : List ℕ → ℕ → ℕ → List ℕ → List ℕ
record_of identity n kind payload = body_of n kind payload ++ big_endian sum_size (sum_of (identity ++ body_of n kind payload))

-- the records of notices, numbered from n on, one behind the other
unfoldable pub records_of : List ℕ → ℕ → List (List ℕ) → List ℕ
records_of identity n [] = []
records_of identity n (p ∷ ps) = record_of identity n notice_record p ++ records_of identity (suc n) ps

-- ---- read, at a place

abbrev pub record_number : List ℕ → ℕ → ℕ
record_number bs p = number_at bs p 8

abbrev pub record_kind : List ℕ → ℕ → ℕ
record_kind bs p = number_at bs (p + 8) 1

abbrev pub payload_size : List ℕ → ℕ → ℕ
payload_size bs p = number_at bs (p + 9) 2

abbrev pub payload_at : List ℕ → ℕ → List ℕ
payload_at bs p = take (payload_size bs p) (drop (p + record_head) bs)

-- the place behind the record
abbrev pub record_end : List ℕ → ℕ → ℕ
record_end bs p = p + (record_least + payload_size bs p)

-- number and kind are those of a record
unfoldable pub is_headed : List ℕ → ℕ → Bool
is_headed bs p = both (within 1 records_max (record_number bs p)) (leb 1 (record_kind bs p))

-- the sum behind n bytes is that of identity and those bytes
abbrev pub is_summed : List ℕ → List ℕ → ℕ → ℕ → Bool
is_summed identity bs p n = eqb (number_at bs (p + n) sum_size) (sum_of (identity ++ take n (drop p bs)))

-- a record of the journal with this identity stands at the place: all of it is there, and its sum is right
unfoldable pub verifies_at : List ℕ → List ℕ → ℕ → Bool
verifies_at identity bs p =
    both (leb (p + record_least) (length bs))
    (both (is_headed bs p)
    (both (leb (record_end bs p) (length bs))
    (is_summed identity bs p (record_head + payload_size bs p))))

unfoldable pub found_at : List ℕ → List ℕ → ℕ → Option Record
found_at identity bs p =
    pick (verifies_at identity bs p) (Some (record { number = record_number bs p; kind = record_kind bs p; size = payload_size bs p })) None
