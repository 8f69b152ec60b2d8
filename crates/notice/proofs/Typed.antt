-- Every record of the code's types can be written: each part has the width of its field in the table.
-- Rests on the table.
use mathlib.Core.List.{List}
use Prim.Native.Nat.{ℕ, ◌<◌, ◌^◌}
use native.Mathlib.Omega.{arith}
use lib.ListN.{get_or}
use Rattle.notice.specs.declared.Notice.{Notice}
use Rattle.notice.specs.declared.Kind.{Kind}
use Rattle.notice.specs.declared.Kind.TheVariants.{Open, Change, Close, Hold, Lift, Skip}
use Rattle.notice_fields.specs.Fields.{table, kind_row, length_row, floor_row, cap_row, count_row, size_of, rows}
use Rattle.notice.specs.Encode.{kind_of, data_in, values_in}
use Rattle.notice.specs.Log.{KindTyped, Typed, FitsFields}
use Rattle.notice_fields.proofs.Each.{each}

-- row i of some values fits, whether a kind carries it or not: a value that a kind has not is 0
abbrev Fit : List ℕ → ℕ → ℕ → Type 0
Fit vs j i = get_or vs j 0 < 256 ^ size_of i

-- a kind's number and its own data
data_fits_lem : (d : Kind) → KindTyped d
    → (kind_of d < 256 ^ size_of kind_row) × (Fit (data_in d) 0 length_row
    × (Fit (data_in d) 1 floor_row × (Fit (data_in d) 2 cap_row × Fit (data_in d) 3 count_row)))
unfolding table
data_fits_lem (Open l a k n) h = omega arith
data_fits_lem (Change n) h = omega arith
data_fits_lem Close h = omega arith
data_fits_lem Hold h = omega arith
data_fits_lem Lift h = omega arith
data_fits_lem (Skip l n) h = omega arith

pub typed_fits : (n : Notice) → Typed n → FitsFields n
unfolding table
typed_fits n h i row has =
    let (k, (l, (a, (c, m)))) = data_fits_lem n.kind h.kind_fits in
    each (λ (j : ℕ). Fit (values_in n) j j) rows
    ((((((((tt, k), h.sequence_fits), h.title_fits), h.time_fits), l), a), c), m) i row
