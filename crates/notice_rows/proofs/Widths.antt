-- The tests by the kind are the field table's: which numbers are a kind's, how wide each field is, and that no kind's number asks for
-- no room. Rests on the table.
use mathlib.Core.Path.{◌≡◌, refl, sym, ◌∙◌}
use mathlib.Core.Bool.{Bool, true, false}
use mathlib.Core.List.{List}
use mathlib.Core.Logic.{⊎_elim}
use Prim.Native.Nat.{ℕ, zero, suc, ◌≤◌, ◌<◌, ◌^◌}
use native.Mathlib.Omega.{arith}
use lib.Dec.{leb}
use borrow.Author.Tests.{lt-ltb, ne_eqb, leb-true}
use Rattle.rules.specs.Limits.{both, within}
use Rattle.rules.specs.Search.{every}
use Rattle.rules.proofs.Tests.{decide, both_l, both_r, both_true, fails}
use Rattle.notice_fields.specs.Fields.{table, rows, is_known, span_of, start_of, length_of}
use Rattle.notice_fields.specs.Fields.{sequence_row, title_row, time_row, length_row, floor_row, cap_row, count_row}
use Rattle.notice_fields.specs.Fields.{open_kind, change_kind, skip_kind, close_kind, lift_kind, last_kind}
use Rattle.notice_fields.proofs.Each.{by_order, each, false_true}
use Rattle.notice_fields.proofs.Table.{by_kind, no_bit}
use Rattle.notice_rows.specs.Rows.{field_in, kind_number, fits_field, is_notice_row}
use Rattle.notice_rows.specs.inner.ByKind.{in_byte, in_four, data_fits}

-- every number from the first kind's to the last's is one
known : (k : ℕ) → open_kind ≤ k → k ≤ last_kind → is_known k ≡ true
unfolding table
known k low high =
    each (λ (j : ℕ). open_kind ≤ j → is_known j ≡ true) 7
    (((((((tt, (λ h. absurd (omega arith))), (λ _. refl)), (λ _. refl)), (λ _. refl)), (λ _. refl)), (λ _. refl)), (λ _. refl))
    k (omega arith) low

-- so one that is none lies outside
pub outside : (k : ℕ) → is_known k ≡ false → open_kind ≤ k → k ≤ last_kind → ⊥
outside k none low high = false_true (sym none ∙ known k low high)

pub known_small : (k : ℕ) → is_known k ≡ true → k < 256
known_small = by_kind (λ (k : ℕ). k < 256) (omega arith, (omega arith, (omega arith, (omega arith, (omega arith, omega arith)))))

-- a number that is no kind's asks for no room
far_start : (k i : ℕ) → 8 ≤ k → i ≤ rows → start_of k i ≡ 0
unfolding start_of span_of
far_start k zero far h = refl
far_start k (suc i) far h = rw (far_start k i far (omega arith), no_bit k i h far)

pub needs_none : (k : ℕ) → is_known k ≡ false → length_of k ≡ 0
unfolding table start_of span_of
needs_none k none =
    by_order k 8
    (λ near.
    by_order k 1
    (λ first. let e : k ≡ 0 = omega arith in rw e refl)
    (λ low. let e : k ≡ 7 = by_order last_kind k (λ high. omega arith) (λ le. absurd (outside k none low le)) in rw e refl))
    (λ far. far_start k rows far (omega arith))

-- ---- the widths

module _ (row : List ℕ) (time : field_in row time_row < 2 ^ 64) where
  abbrev common : Bool
  common = both (in_byte (field_in row title_row)) (in_four (field_in row sequence_row))

  abbrev tested : ℕ → Bool
  tested k =
      data_fits k (field_in row length_row) (field_in row floor_row) (field_in row cap_row) (field_in row count_row) common

  of_kinds : (k : ℕ) → is_known k ≡ true → kind_number row ≡ k → tested k ≡ every (fits_field k row) rows
  unfolding data_fits every fits_field table
  of_kinds =
      let in_time = lt-ltb (field_in row time_row) (256 ^ 8) time in
      by_kind (λ (k : ℕ). kind_number row ≡ k → tested k ≡ every (fits_field k row) rows) (
        (λ e. rw (in_time, e, both_true)),
        (
          (λ e. rw (in_time, e, both_true)),
          (
            (λ e. rw (in_time, e, both_true)),
            (
              (λ e. rw (in_time, e, both_true)),
              ((λ e. rw (in_time, e, both_true)), (λ e. rw (in_time, e, both_true))),
            ),
          ),
        ),
      )

  none_of_them : (k : ℕ) → is_known k ≡ false → tested k ≡ false
  unfolding data_fits
  none_of_them k none =
      let opening = ne_eqb k open_kind (λ e. outside k none (omega arith) (omega arith)) in
      let change = ne_eqb k change_kind (λ e. outside k none (omega arith) (omega arith)) in
      let skip = ne_eqb k skip_kind (λ e. outside k none (omega arith) (omega arith)) in
      let others : within close_kind lift_kind k ≡ false =
      fails (within close_kind lift_kind k)
      (λ t.
      let low = leb-true close_kind k (both_l _ _ t) in
      let high = leb-true k lift_kind (both_r (leb close_kind k) _ t) in
      outside k none (omega arith) (omega arith)) in
      rw (opening, change, skip, others)

  -- the test by the kind is the table's
  pub by_the_kind : tested (kind_number row) ≡ is_notice_row row
  unfolding is_notice_row
  by_the_kind =
      ⊎_elim
      (λ t. of_kinds (kind_number row) t refl ∙ rw t)
      (λ f. none_of_them (kind_number row) f ∙ rw f)
      (decide (is_known (kind_number row)))
