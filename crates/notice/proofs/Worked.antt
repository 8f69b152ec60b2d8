-- Worked numbers of 01, "Notices", and of 02's requests 7 and 12: each kind's length, case 12, the opening of a
-- skip-forward title, and values outside the limits.
-- Rests on the table and on the round trip.
use mathlib.Core.Path.{◌≡◌, refl}
use mathlib.Core.List.{[], ◌∷◌}
use Prim.Native.Nat.{◌-◌, ◌≤◌, ◌^◌}
use native.Mathlib.Omega.{arith}
use lib.ListN.{length}
use Rattle.notice.specs.declared.Notice.{Notice}
use Rattle.notice.specs.declared.Kind.TheVariants.{Open, Change, Skip}
use Rattle.notice.specs.declared.Reading.TheVariants as reading
use Rattle.notice_fields.specs.Fields.{table, open_kind, change_kind, close_kind, hold_kind, lift_kind, skip_kind, span_of}
use Rattle.notice_fields.specs.Fields.{start_of, length_of, longest_notice}
use Rattle.notice_fields.specs.Numbers.{big_endian}
use Rattle.notice.specs.Encode.{kind_of, field_bytes, row_bytes, bytes_to, bytes_of}
use Rattle.notice.specs.Decode.{read_of}
use Rattle.notice.proofs.RoundTrip.{written_reads}
use Rattle.notice_fields.proofs.Table.{longest_kind}
use Rattle.notice.proofs.Bytes.{length_notice}
use Rattle.notice.proofs.Typed.{typed_fits}

-- the lengths of the kinds
pub open_length : length_of open_kind ≡ 45
unfolding table start_of span_of
open_length = refl

pub change_length : length_of change_kind ≡ 30
unfolding table start_of span_of
change_length = refl

pub close_length : length_of close_kind ≡ 26
unfolding table start_of span_of
close_length = refl

pub hold_length : length_of hold_kind ≡ 26
unfolding table start_of span_of
hold_length = refl

pub lift_length : length_of lift_kind ≡ 26
unfolding table start_of span_of
lift_length = refl

pub skip_length : length_of skip_kind ≡ 37
unfolding table start_of span_of
skip_length = refl

-- sequence 2, title 0, time 4, count 3
pub case_12 : bytes_of (record { sequence = 2; title = 0; time = 4; kind = Change 3 })
    ≡ 1 ∷ 0 ∷ 1 ∷ 2
    ∷ 2 ∷ 0 ∷ 4 ∷ 0 ∷ 0 ∷ 0 ∷ 2
    ∷ 3 ∷ 0 ∷ 1 ∷ 0
    ∷ 4 ∷ 0 ∷ 8 ∷ 0 ∷ 0 ∷ 0 ∷ 0 ∷ 0 ∷ 0 ∷ 0 ∷ 4
    ∷ 8 ∷ 0 ∷ 1 ∷ 3
    ∷ []
unfolding table bytes_of bytes_to row_bytes field_bytes big_endian
case_12 = refl

-- sequence 9, title 4, time 16, a film of 5,400,000 ms on 4 lanes
pub skip_bytes : bytes_of (record { sequence = 9; title = 4; time = 16; kind = Skip 5400000 4 })
    ≡ 1 ∷ 0 ∷ 1 ∷ 6
    ∷ 2 ∷ 0 ∷ 4 ∷ 0 ∷ 0 ∷ 0 ∷ 9
    ∷ 3 ∷ 0 ∷ 1 ∷ 4
    ∷ 4 ∷ 0 ∷ 8 ∷ 0 ∷ 0 ∷ 0 ∷ 0 ∷ 0 ∷ 0 ∷ 0 ∷ 16
    ∷ 5 ∷ 0 ∷ 4 ∷ 0 ∷ 82 ∷ 101 ∷ 192
    ∷ 8 ∷ 0 ∷ 1 ∷ 4
    ∷ []
unfolding table bytes_of bytes_to row_bytes field_bytes big_endian
skip_bytes = refl

-- values outside the limits are well formed and survive
abbrev outside : Notice
outside = record { sequence = 2 ^ 32 - 1; title = 255; time = 2 ^ 64 - 1; kind = Open (2 ^ 32 - 1) 255 255 255 }

pub outside_survive : read_of (bytes_of outside) ≡ reading.Whole outside
outside_survive =
    written_reads outside
    (typed_fits outside
    (record { sequence_fits = omega arith; title_fits = omega arith; time_fits = omega arith; kind_fits = omega arith }))

-- no notice is longer than an open
pub none_longer : (n : Notice) → length (bytes_of n) ≤ longest_notice
none_longer n = rw length_notice (longest_kind (kind_of n.kind))
