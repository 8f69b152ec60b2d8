-- The header of a journal, 64 bytes: letters with the version (0 to 7), identity (8 to 23), the Unix time in ms of its time 0 (24 to 31), pool (32
-- to 39), LEAD and LEAST in ms (40 to 47, 48 to 55), zeros, and the CRC-32C of the 60 bytes before it (60 to 63).
use Rattle.std.specs.Prelude.{ℕ, ◌+◌, ◌/◌, List, ◌++◌, Result, Ok, Err, eqb, ltb, length, take, drop}
use Rattle.rules.specs.Limits.{both, within, pool_min, pool_max}
use Rattle.rules.specs.Refusals.{pick}
use Rattle.sums.specs.Crc.{sum_of, sum_size}
use Rattle.notice_fields.specs.Numbers.{big_endian, number_at}
use Rattle.journal_records.specs.declared.headers.Origin.{Origin}
use Rattle.journal_records.specs.declared.headers.HeaderFault.{HeaderFault}
use Rattle.journal_records.specs.declared.headers.HeaderFault.TheVariants.{TooShort, NotJournal, LaterVersion, SumDiffers, OutsideLimits}

abbrev pub header_summed : ℕ
header_summed = 60

abbrev pub header_size : ℕ
header_size = header_summed + sum_size

abbrev pub identity_size : ℕ
identity_size = 16

-- the letters RLJRNL01 as a number of eight bytes
abbrev pub header_word : ℕ
header_word = 5_930_196_526_701_490_225

-- ---- written

-- the numbers, and the zeros behind them
unfoldable pub origin_bytes : Origin → List ℕ
origin_bytes o = big_endian 8 o.zero ++ (big_endian 8 o.pool ++ (big_endian 8 o.lead ++ (big_endian 8 o.least ++ big_endian 4 0)))

unfoldable pub summed_bytes : List ℕ → Origin → List ℕ
summed_bytes identity o = big_endian 8 header_word ++ (identity ++ origin_bytes o)

unfoldable pub header_of : List ℕ → Origin → List ℕ
header_of identity o = summed_bytes identity o ++ big_endian sum_size (sum_of (summed_bytes identity o))

-- ---- read

abbrev pub identity_in : List ℕ → List ℕ
identity_in bs = take identity_size (drop 8 bs)

abbrev pub origin_in : List ℕ → Origin
origin_in bs = record { zero = number_at bs 24 8; pool = number_at bs 32 8; lead = number_at bs 40 8; least = number_at bs 48 8 }

-- other letters: the same with a later version, or no journal
unfoldable pub other_word : ℕ → HeaderFault
other_word w = pick (both (eqb (w / 65536) (header_word / 65536)) (ltb header_word w)) LaterVersion NotJournal

unfoldable pub header_found : List ℕ → Result Origin HeaderFault
header_found bs =
    pick (ltb (length bs) header_size) (Err TooShort)
    (pick (eqb (number_at bs 0 8) header_word)
    (pick (eqb (number_at bs header_summed sum_size) (sum_of (take header_summed bs)))
    (pick (within pool_min pool_max (number_at bs 32 8)) (Ok (origin_in bs)) (Err OutsideLimits))
    (Err SumDiffers))
    (Err (other_word (number_at bs 0 8))))
