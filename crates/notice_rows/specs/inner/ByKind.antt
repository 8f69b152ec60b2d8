-- How the code tests a row: by its kind, with the widths of the fields written out. proofs/Widths shows that these are the table's.
use Rattle.std.specs.Prelude.{ℕ, ◌^◌, Bool, eqb, ltb}
use Rattle.rules.specs.Limits.{both, within}
use Rattle.rules.specs.Refusals.{pick}
use Rattle.notice_fields.specs.Fields.{open_kind, change_kind, close_kind, lift_kind, skip_kind}

abbrev pub in_byte : ℕ → Bool
in_byte v = ltb v (256 ^ 1)

abbrev pub in_four : ℕ → Bool
in_four v = ltb v (256 ^ 4)

-- length, floor, cap and count of an opening fit, beside the rest
abbrev pub open_fits : ℕ → ℕ → ℕ → ℕ → Bool → Bool
open_fits d a c n rest = both (in_byte n) (both (in_byte c) (both (in_byte a) (both (in_four d) rest)))

-- those of a kind that it has, and that it is a kind
unfoldable pub data_fits : ℕ → ℕ → ℕ → ℕ → ℕ → Bool → Bool
data_fits k d a c n rest =
    pick (eqb k open_kind) (open_fits d a c n rest)
    (pick (eqb k change_kind) (both (in_byte n) rest)
    (pick (eqb k skip_kind) (both (in_byte n) (both (in_four d) rest))
    (both (within close_kind lift_kind k) rest)))
