-- What is written reads back as the same notice, wherever its bytes stand.
-- Rests on the field table's laws, on rows making a notice, on bytes at a place, and on the cases of a reading.
use mathlib.Core.Path.{◌≡◌, refl, sym, ap, ◌∙◌}
use mathlib.Core.Bool.{Bool, true, false}
use mathlib.Core.List.{List, [], ◌∷◌, ◌++◌, append-nil, append_assoc}
use Prim.Native.Nat.{ℕ, zero, suc, ◌+◌, ◌-◌, ◌≤◌, ◌<◌, ◌^◌}
use native.Mathlib.Nat.{add-zero, zero-add, add-suc}
use native.Mathlib.Omega.{arith}
use lib.ListN.{length, get_or, length-append}
use borrow.Author.Tests.{eq-eqb}
use Rattle.rules.specs.Refusals.{pick}
use Rattle.notice.specs.declared.Notice.{Notice}
use Rattle.notice.specs.declared.Reading.TheVariants as reading
use Rattle.notice.specs.declared.Found.TheVariants as found
use Rattle.notice_fields.specs.Fields.{table, tag_of, size_of, is_carried, start_of, length_of, rows}
use Rattle.notice_fields.specs.Numbers.{big_endian, number_at}
use Rattle.notice.specs.Encode.{kind_of, values_in, field_bytes, row_bytes, bytes_to, bytes_of}
use Rattle.notice.specs.Decode.{head_stands, row_stands, stands_to, value_at, kind_at, is_whole}
use Rattle.notice.specs.Decode.{read_at, read_of}
use Rattle.notice.specs.Log.{FitsFields, AllFit, none, more, log_of, Gives, ends, next}
use Rattle.notice_fields.proofs.Table.{sound, value_inside}
use Rattle.notice.proofs.Made.{Shows, kind_known, first_value, notice_back}
use Rattle.notice_fields.proofs.Digits.{length_big}
use Rattle.notice_bytes.proofs.Laid.{length_bytes}
use Rattle.notice.proofs.Bytes.{length_notice}
use Rattle.notice.proofs.Has.{Has, has_left, has_right, has_middle, number_back}
use Rattle.notice_bytes.proofs.Whole.{whole}
use Rattle.notice.proofs.Cases.{at_end, at_whole, only, alone}

-- ---- one field

module _ (bs : List ℕ) (at i v : ℕ) (row : i < rows) (has : Has bs at (field_bytes i v)) where
  after_tag : Has bs (at + 1) (big_endian 2 (size_of i) ++ big_endian (size_of i) v)
  unfolding field_bytes
  after_tag = has_right bs at (tag_of i ∷ []) (big_endian 2 (size_of i) ++ big_endian (size_of i) v) has

  head_back : head_stands bs at i ≡ true
  unfolding head_stands field_bytes
  head_back =
      let tag : get_or bs at 0 ≡ tag_of i = rw add-zero at (has 0 (omega arith)) in
      let two : size_of i < 256 ^ 2 = omega (arith, sound i row) in
      let size : number_at bs (at + 1) 2 ≡ size_of i =
      number_back bs (at + 1) 2 (size_of i) two (has_left bs (at + 1) (big_endian 2 (size_of i)) (big_endian (size_of i) v) after_tag) in
      simp (eq-eqb _ _ tag, eq-eqb _ _ size)

  value_back : v < 256 ^ size_of i → number_at bs (at + 3) (size_of i) ≡ v
  value_back small =
      let e : at + 1 + length (big_endian 2 (size_of i)) ≡ at + 3 = omega (arith, length_big 2 (size_of i)) in
      number_back bs (at + 3) (size_of i) v small
      (rw e at (has_right bs (at + 1) (big_endian 2 (size_of i)) (big_endian (size_of i) v) after_tag))

-- ---- all rows of a kind

module _ (bs : List ℕ) (p k : ℕ) (vs : List ℕ) where
  -- each row stands after those before it
  row_has : (i d : ℕ) → Has bs p (bytes_to k vs (suc i + d)) → Has bs (p + start_of k i) (row_bytes k i (get_or vs i 0))
  unfolding bytes_to
  row_has i zero h =
      let e : suc i + 0 ≡ suc i = omega arith in
      rw length_bytes at (has_right bs p (bytes_to k vs i) (row_bytes k i (get_or vs i 0)) (rw e at h))
  row_has i (suc d) h =
      row_has i d (has_left bs p (bytes_to k vs (suc i + d)) (row_bytes k (suc i + d) (get_or vs (suc i + d) 0)) (rw add-suc at h))

  module _ (has : Has bs p (bytes_to k vs rows)) where
    field_has : (i : ℕ) → i < rows → is_carried k i ≡ true → Has bs (p + start_of k i) (field_bytes i (get_or vs i 0))
    unfolding row_bytes
    field_has i h c =
        let e : suc i + (rows - suc i) ≡ rows = omega arith in
        rw c at (row_has i (rows - suc i) (rw e has))

    pub rows_back : (i : ℕ) → i ≤ rows → stands_to bs p k i ≡ true
    unfolding stands_to row_stands
    rows_back zero h = refl
    rows_back (suc i) h = rw (rows_back i (omega arith)) (go (is_carried k i) refl)
      where
        go : (b : Bool) → is_carried k i ≡ b → pick b (head_stands bs (p + start_of k i) i) true ≡ true
        go true c = head_back bs (p + start_of k i) i (get_or vs i 0) h (field_has i h c)
        go false c = refl

    pub values_back : (i : ℕ) → i < rows → is_carried k i ≡ true → get_or vs i 0 < 256 ^ size_of i
        → value_at bs p k i ≡ get_or vs i 0
    unfolding value_at
    values_back i h c small = value_back bs (p + start_of k i) i (get_or vs i 0) h (field_has i h c) small

-- ---- the kind and the notice

-- a notice goes on past the place of its kind
pub past_kind : (n : Notice) → 3 < length (bytes_of n)
unfolding table
past_kind n = omega (arith, length_notice n, value_inside (kind_of n.kind) 0 (omega arith) (kind_known n.kind))

module _ (bs : List ℕ) (p : ℕ) (n : Notice) (fits : FitsFields n) (has : Has bs p (bytes_of n))
    (room : p + length (bytes_of n) ≤ length bs) where
  value : Shows bs p (kind_of n.kind) (values_in n)
  unfolding bytes_of
  value i h c = values_back bs p (kind_of n.kind) (values_in n) has i h c (fits i h c)

  pub kind_at_lem : kind_at bs p ≡ kind_of n.kind
  kind_at_lem = sym (first_value bs p (kind_of n.kind)) ∙ value 0 (omega arith) (kind_known n.kind)

  stand_back : stands_to bs p (kind_of n.kind) rows ≡ true
  unfolding bytes_of
  stand_back = rows_back bs p (kind_of n.kind) (values_in n) has rows (omega arith)

  -- a notice that stands at a place of a log is read there, and the place after it is where its bytes end
  pub written_reads_at : read_at bs p ≡ found.At n (p + length (bytes_of n))
  written_reads_at =
      let long : p + length_of (kind_of n.kind) ≤ length bs = rw length_notice at room in
      let known = kind_known n.kind in
      let some = value_inside (kind_of n.kind) 0 (omega arith) known in
      let all : is_whole bs p ≡ true = whole bs p (rw kind_at_lem known) (rw kind_at_lem long) (rw kind_at_lem stand_back) in
      sym (at_whole bs p (omega arith) all) ∙ rw (kind_at_lem, notice_back bs p (kind_of n.kind) n refl value, length_notice)

-- alone, a notice's bytes read as that notice
pub written_reads : (n : Notice) → FitsFields n → read_of (bytes_of n) ≡ reading.Whole n
unfolding only
written_reads n fits =
    let here : Has (bytes_of n) 0 (bytes_of n) = λ j lt. rw zero-add in
    let end : 0 + length (bytes_of n) ≡ length (bytes_of n) = omega arith in
    alone (bytes_of n)
    ∙ (ap (only (length (bytes_of n))) (written_reads_at (bytes_of n) 0 n fits here (omega arith)) ∙ simp (eq-eqb _ _ end))

-- ---- a log

-- two logs back to back
pub log_append : (ms ns : List Notice) → log_of (ms ++ ns) ≡ log_of ms ++ log_of ns
unfolding log_of
log_append [] ns = refl
log_append (m ∷ ms) ns = rw (log_append ms ns) (sym (append_assoc (bytes_of m) (log_of ms) (log_of ns)))

-- from where the first notice starts, a log gives the notices in order and then "end"
gives_from : (pre : List ℕ) (ns : List Notice) → AllFit ns → Gives (pre ++ log_of ns) (length pre) ns
unfolding log_of
gives_from pre [] none = ends (sym (at_end (pre ++ []) (length pre) (rw append-nil (omega arith))))
gives_from pre (n ∷ ns) (more f fs) =
    let bs = pre ++ (bytes_of n ++ log_of ns) in
    let room : length pre + length (bytes_of n) ≤ length bs =
    omega (arith, length-append pre (bytes_of n ++ log_of ns), length-append (bytes_of n) (log_of ns)) in
    let rest = gives_from (pre ++ bytes_of n) ns fs in
    next (written_reads_at bs (length pre) n f (has_middle pre (bytes_of n) (log_of ns)) room)
    (rw (append_assoc, length-append) at rest)

pub log_gives : (ns : List Notice) → AllFit ns → Gives (log_of ns) 0 ns
log_gives ns fs = gives_from [] ns fs
