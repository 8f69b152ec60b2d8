-- What each way out of `write`, `read` and `next` leaves is what their records promise.
-- Rests on a row's bytes, on runs of stores, and on the cases of a reading.
use mathlib.Core.Path.{◌≡◌, refl, sym}
use mathlib.Core.Bool.{true, false}
use mathlib.Core.List.{List, ◌++◌}
use Prim.Native.Nat.{ℕ, ◌≤◌, ◌<◌}
use lib.ListN.{length, drop}
use lib.Seq.{sets}
use borrow.Author.Tests.{lt-ltb, le-ltb, eq-eqb, ne_eqb}
use Rattle.rules.specs.Refusals.{first_hit}
use Rattle.notice_fields.specs.Fields.{rows, length_of}
use Rattle.notice_bytes.specs.Laying.{bytes_to}
use Rattle.notice_bytes.proofs.Laid.{length_bytes, laid}
use Rattle.notice.specs.declared.Notice.{Notice}
use Rattle.notice.specs.declared.Reading.{Reading}
use Rattle.notice.specs.declared.Reading.TheVariants as reading
use Rattle.notice.specs.declared.Found.{Found}
use Rattle.notice.specs.declared.Found.TheVariants as found
use Rattle.notice.specs.Encode.{bytes_of}
use Rattle.notice.specs.Decode.{Reads, Finds}
use Rattle.notice_rows.specs.Rows.{fields_of, kind_number, notice_from, is_notice_row}
use Rattle.notice_rows.specs.Calls.{is_cramped, unwritten, WritesRow, ReadsRow, StepsRow, log_end}
use Rattle.notice_rows.proofs.Rows.{bytes_from}

-- ---- write

module _ (row room : List ℕ) where
  cramped : is_cramped row room ≡ true → WritesRow row room (unwritten 10) room
  unfolding first_hit
  cramped t = record { answers = rw t; counts = refl; leaves = refl }

  pub not_eight : (length row ≡ rows → ⊥) → WritesRow row room (unwritten 10) room
  not_eight other = cramped (rw (ne_eqb _ _ other))

  module _ (is : length row ≡ rows) where
    pub too_short : length room < length_of (kind_number row) → WritesRow row room (unwritten 10) room
    too_short short = cramped (rw (eq-eqb _ _ is, lt-ltb _ _ short))

    module _ (long : length_of (kind_number row) ≤ length room) where
      roomy : is_cramped row room ≡ false
      roomy = rw (eq-eqb _ _ is, le-ltb _ _ long)

      pub no_notice : is_notice_row row ≡ false → WritesRow row room (unwritten 1) room
      unfolding first_hit
      no_notice f = record { answers = rw (roomy, f); counts = refl; leaves = refl }

      pub whole_row : is_notice_row row ≡ true
          → WritesRow row room (record { answer = 0; bytes = length_of (kind_number row) }) (sets room 0 (bytes_to (kind_number row) row rows))
      unfolding first_hit
      whole_row t =
          let size : length (bytes_of (notice_from row)) ≡ length_of (kind_number row) = rw (bytes_from row t) (length_bytes (kind_number row) row rows) in
          record {
            answers = rw (roomy, t);
            counts = sym size;
            leaves = rw (← bytes_from row t) (laid (bytes_of (notice_from row)) room (rw size long));
          }

-- ---- read

module _ (bs row : List ℕ) where
  pub read_short : length row < rows → ReadsRow bs row 10 row
  unfolding first_hit
  read_short short = let s = lt-ltb _ _ short in record { answers = rw s; leaves = rw s }

  module _ (r : Reading) (long : rows ≤ length row) (reads : Reads bs r) where
    pub read_whole : (n : Notice) → r ≡ reading.Whole n → ReadsRow bs row 0 (fields_of n ++ drop rows row)
    unfolding first_hit
    read_whole n is =
        let l = le-ltb _ _ long in
        record { answers = rw l (rw is at reads.answers); leaves = rw (l, ← reads.is, is) }

    pub read_none : r ≡ reading.Malformed → ReadsRow bs row 11 row
    unfolding first_hit
    read_none is =
        let l = le-ltb _ _ long in
        record { answers = rw l (rw is at reads.answers); leaves = rw (l, ← reads.is, is) }

-- ---- next

module _ (bs : List ℕ) (p : ℕ) (row : List ℕ) where
  pub step_short : length row < rows → StepsRow bs p row (record { answer = 10; place = p }) row
  step_short short = let s = lt-ltb _ _ short in record { answers = rw s; moves = rw s; leaves = rw s }

  module _ (r : Found) (long : rows ≤ length row) (finds : Finds bs p r) where
    pub step_at_lem : (n : Notice) (e : ℕ) → r ≡ found.At n e → StepsRow bs p row (record { answer = 0; place = e }) (fields_of n ++ drop rows row)
    step_at_lem n e is =
        let l = le-ltb _ _ long in
        record { answers = rw (l, ← finds.is, is); moves = rw (l, ← finds.is, is); leaves = rw (l, ← finds.is, is) }

    pub step_end : r ≡ found.End → StepsRow bs p row (record { answer = log_end; place = p }) row
    step_end is =
        let l = le-ltb _ _ long in
        record { answers = rw (l, ← finds.is, is); moves = rw (l, ← finds.is, is); leaves = rw (l, ← finds.is, is) }

    pub step_none : r ≡ found.Malformed → StepsRow bs p row (record { answer = 11; place = p }) row
    step_none is =
        let l = le-ltb _ _ long in
        record { answers = rw (l, ← finds.is, is); moves = rw (l, ← finds.is, is); leaves = rw (l, ← finds.is, is) }
