-- How long a notice's bytes are, that they are bytes, and what `write` promises on either side of its test.
-- Rests on the lengths of rows and on runs of stores.
use mathlib.Core.Path.{◌≡◌}
use mathlib.Core.Bool.{Bool, true, false}
use mathlib.Core.List.{List, [], ◌∷◌, ◌++◌}
use Prim.Native.Nat.{ℕ, zero, suc, ◌≤◌, ◌<◌}
use native.Mathlib.Omega.{arith}
use lib.ListN.{length, get_or}
use lib.Seq.{sets}
use borrow.Author.Tests.{lt-ltb, le-ltb}
use Rattle.rules.specs.Refusals.{pick, first_hit}
use Rattle.notice_fields.specs.Fields.{tag_of, size_of, is_carried, length_of, rows}
use Rattle.notice_fields.specs.Numbers.{Bytes, big_endian}
use Rattle.notice_fields.proofs.Table.{sound}
use Rattle.notice_fields.proofs.Has.{bytes_append, bytes_big}
use Rattle.notice_bytes.specs.Laying.{field_bytes, row_bytes, bytes_to}
use Rattle.notice_bytes.proofs.Laid.{length_bytes, laid}
use Rattle.notice.specs.declared.Notice.{Notice}
use Rattle.notice.specs.Encode.{kind_of, values_in, bytes_of, Writes}

-- a notice is as long as its kind says
pub length_notice : (n : Notice) → length (bytes_of n) ≡ length_of (kind_of n.kind)
unfolding bytes_of
length_notice n = length_bytes (kind_of n.kind) (values_in n) rows

-- each of them is a byte
one_byte : (b : ℕ) → b < 256 → Bytes (b ∷ [])
one_byte b h zero = h
one_byte b h (suc j) = omega arith

row_bytes_lem : (k i v : ℕ) → i < rows → Bytes (row_bytes k i v)
unfolding row_bytes field_bytes
row_bytes_lem k i v h = go (is_carried k i)
  where
    go : (b : Bool) → Bytes (pick b (tag_of i ∷ big_endian 2 (size_of i) ++ big_endian (size_of i) v) [])
    go true j =
        bytes_append (tag_of i ∷ []) (big_endian 2 (size_of i) ++ big_endian (size_of i) v) (one_byte (tag_of i) (sound i h).tagged)
        (bytes_append (big_endian 2 (size_of i)) (big_endian (size_of i) v) (bytes_big 2 (size_of i)) (bytes_big (size_of i) v)) j
    go false j = omega arith

rows_bytes : (k : ℕ) (vs : List ℕ) (i : ℕ) → i ≤ rows → Bytes (bytes_to k vs i)
unfolding bytes_to
rows_bytes k vs zero h j = omega arith
rows_bytes k vs (suc i) h j =
    bytes_append (bytes_to k vs i) (row_bytes k i (get_or vs i 0)) (rows_bytes k vs i (omega arith)) (row_bytes_lem k i (get_or vs i 0) h) j

pub bytes_small : (n : Notice) → Bytes (bytes_of n)
unfolding bytes_of
bytes_small n = rows_bytes (kind_of n.kind) (values_in n) rows (omega arith)

-- what `write` promises, on either side of its test
pub written_short : (n : Notice) (room : List ℕ) → length room < length_of (kind_of n.kind) → Writes n room 10 room
unfolding first_hit
written_short n room h =
    let short = lt-ltb (length room) (length (bytes_of n)) (rw length_notice h) in
    record { answers = simp short; leaves = simp short }

pub written_whole : (n : Notice) (room : List ℕ) → length_of (kind_of n.kind) ≤ length room
    → Writes n room 0 (sets room 0 (bytes_to (kind_of n.kind) (values_in n) rows))
unfolding first_hit bytes_of
written_whole n room h =
    let fits : length (bytes_of n) ≤ length room = rw length_notice h in
    let long = le-ltb (length room) (length (bytes_of n)) fits in
    record { answers = simp long; leaves = simp long (laid (bytes_of n) room fits) }
