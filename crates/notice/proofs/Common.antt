-- The fields that every kind carries, up to the time, stand in a notice of any kind where a close, which has no others, has them.
-- Rests on the field table, kind by kind.
use mathlib.Core.Path.{◌≡◌, refl}
use mathlib.Core.Bool.{true}
use mathlib.Core.List.{List}
use Prim.Native.Nat.{ℕ, ◌≤◌, ◌<◌}
use native.Mathlib.Omega.{arith}
use Rattle.notice_fields.specs.Fields.{table, start_of, span_of, is_known, length_of, close_kind, length_row}
use Rattle.notice_fields.proofs.Each.{Each, each}
use Rattle.notice_fields.proofs.Table.{by_kind}
use Rattle.notice.specs.Decode.{value_at}

pub no_shorter : (k : ℕ) → is_known k ≡ true → length_of close_kind ≤ length_of k
unfolding table start_of span_of
no_shorter =
    by_kind (λ (k : ℕ). length_of close_kind ≤ length_of k)
    (omega arith, (omega arith, (omega arith, (omega arith, (omega arith, omega arith)))))

stands : (k : ℕ) → is_known k ≡ true → Each (λ (i : ℕ). start_of close_kind i ≡ start_of k i) length_row
unfolding table start_of span_of
stands =
    by_kind (λ (k : ℕ). Each (λ (i : ℕ). start_of close_kind i ≡ start_of k i) length_row)
    (((((tt, refl), refl), refl), refl), (((((tt, refl), refl), refl), refl), (((((tt, refl), refl), refl), refl), (((((tt, refl), refl), refl), refl), (((((tt, refl), refl), refl), refl), ((((tt, refl), refl), refl), refl))))))

pub as_close : (bs : List ℕ) (p k i : ℕ) → is_known k ≡ true → i < length_row → value_at bs p close_kind i ≡ value_at bs p k i
unfolding value_at
as_close bs p k i known h = rw (each (λ (j : ℕ). start_of close_kind j ≡ start_of k j) length_row (stands k known) i h)
