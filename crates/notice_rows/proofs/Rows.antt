-- A notice and its row are each other's: the row of a notice gives that notice, and the notice of a row that is one gives that row.
-- Rests on the definitions, case by case, and on the field table.
use mathlib.Core.Path.{◌≡◌, refl, sym, ap, ◌∙◌}
use mathlib.Core.Bool.{Bool, true, false}
use mathlib.Core.List.{List, [], ◌∷◌, ◌++◌}
use Prim.Native.Nat.{ℕ, zero, suc, ◌+◌, ◌≤◌, ◌<◌, ◌^◌}
use native.Mathlib.Nat.{zero-add}
use native.Mathlib.Numerals.{add-one}
use native.Mathlib.Omega.{arith}
use lib.Dec.{ltb}
use lib.ListN.{length, drop, set}
use lib.Seq.{ext_get_or, paste, paste-suc, length-paste, take_all}
use borrow.Author.Tests.{ltb-true, lt-ltb}
use Rattle.rules.specs.Refusals.{pick}
use Rattle.rules.proofs.Tests.{both_l, both_r}
use Rattle.rules.proofs.Search.{every_in, every_out}
use Rattle.notice_fields.specs.Fields.{table, rows, size_of, is_carried, is_known}
use Rattle.notice_fields.proofs.Each.{each}
use Rattle.notice_fields.proofs.Table.{by_kind}
use Rattle.notice_bytes.specs.Laying.{field_bytes, row_bytes, bytes_to}
use Rattle.notice.specs.declared.Notice.{Notice}
use Rattle.notice.specs.declared.Kind.{Kind}
use Rattle.notice.specs.declared.Kind.TheVariants.{Open, Change, Close, Hold, Lift, Skip}
use Rattle.notice.specs.declared.Reading.TheVariants as reading
use Rattle.notice.specs.Encode.{kind_of, data_in, bytes_of}
use Rattle.notice.specs.Decode.{read_of}
use Rattle.notice.specs.Log.{FitsFields}
use Rattle.notice.proofs.Made.{kind_known}
use Rattle.notice.proofs.RoundTrip.{written_reads}
use Rattle.notice_rows.specs.Rows.{fields_of, field_in, kind_number, kind_from, notice_from, fits_field, is_notice_row, NoticeRow}
use Rattle.notice_rows.specs.Calls.{row_read_of}

-- ---- from a notice to its row and back

kind_back : (d : Kind) (s t u : ℕ) → kind_from (kind_of d) (kind_of d ∷ s ∷ t ∷ u ∷ data_in d) ≡ d
unfolding kind_from
kind_back (Open l a k n) s t u = refl
kind_back (Change n) s t u = refl
kind_back Close s t u = refl
kind_back Hold s t u = refl
kind_back Lift s t u = refl
kind_back (Skip l n) s t u = refl

-- the row of a notice is its own: the notice comes back
pub from_fields : (n : Notice) → notice_from (fields_of n) ≡ n
unfolding notice_from
from_fields n = rw (kind_back n.kind n.sequence n.title n.time)

pub length_fields : (n : Notice) → length (fields_of n) ≡ rows
length_fields n = go n.kind
  where
    go : (d : Kind) → suc (suc (suc (suc (length (data_in d))))) ≡ rows
    go (Open l a k n) = refl
    go (Change n) = refl
    go Close = refl
    go Hold = refl
    go Lift = refl
    go (Skip l n) = refl

-- ---- from a row to its notice and back

module _ (row : List ℕ) where
  -- the number of a field that kind k has, else 0
  abbrev own : ℕ → ℕ → ℕ
  own k i = pick (is_carried k i) (field_in row i) 0

  abbrev own_fields : ℕ → List ℕ
  own_fields k = k ∷ own k 1 ∷ own k 2 ∷ own k 3 ∷ own k 4 ∷ own k 5 ∷ own k 6 ∷ own k 7 ∷ []

  of_kind_lem : (k : ℕ) → is_known k ≡ true → kind_number row ≡ k → fields_of (notice_from row) ≡ own_fields k
  unfolding notice_from kind_from table
  of_kind_lem =
      by_kind (λ (k : ℕ). kind_number row ≡ k → fields_of (notice_from row) ≡ own_fields k)
      ((λ e. rw e), ((λ e. rw e), ((λ e. rw e), ((λ e. rw e), ((λ e. rw e), (λ e. rw e))))))

-- the row of a notice that a row gives is that row, with 0 where its kind has no field
pub own_number_lem : (row : List ℕ) (i : ℕ) → i < rows → is_known (kind_number row) ≡ true
    → field_in (fields_of (notice_from row)) i ≡ pick (is_carried (kind_number row) i) (field_in row i) 0
own_number_lem row i h is =
    let k = kind_number row in
    ap (λ (vs : List ℕ). field_in vs i) (of_kind_lem row k is refl)
    ∙ each (λ (j : ℕ). field_in (own_fields row k) j ≡ own row k j) rows
    ((((((((tt, rw is), refl), refl), refl), refl), refl), refl), refl) i h

module _ (row : List ℕ) (is : is_notice_row row ≡ true) where
  pub known_row : is_known (kind_number row) ≡ true
  unfolding is_notice_row
  known_row = both_l _ _ is

  -- a notice's row gives a notice of its kind
  pub kind_same : kind_of (notice_from row).kind ≡ kind_number row
  unfolding table
  kind_same = own_number_lem row 0 (omega arith) known_row ∙ rw known_row

  -- that has the row's number in each field of the kind
  pub number_same : (i : ℕ) → i < rows → is_carried (kind_number row) i ≡ true → field_in (fields_of (notice_from row)) i ≡ field_in row i
  number_same i h c = own_number_lem row i h known_row ∙ rw c

  field_fits : (i : ℕ) → i < rows → is_carried (kind_number row) i ≡ true → field_in row i < 256 ^ size_of i
  unfolding is_notice_row fits_field
  field_fits i h c =
      let all = both_r (is_known (kind_number row)) _ is in
      ltb-true _ _ (rw c at (every_out (fits_field (kind_number row) row) rows i all h))

  -- and can be written
  pub row_fits : FitsFields (notice_from row)
  row_fits i h c =
      let own = rw kind_same at c in
      rw (number_same i h own) (field_fits i h own)

  -- read back, it is that notice
  pub row_reads : read_of (bytes_of (notice_from row)) ≡ reading.Whole (notice_from row)
  row_reads = written_reads (notice_from row) row_fits

-- a row that is a notice's to the number is the row of the notice that it gives
pub fields_from : (row : List ℕ) → NoticeRow row → fields_of (notice_from row) ≡ row
fields_from row r =
    ext_get_or 0 (fields_of (notice_from row)) row (length_fields (notice_from row) ∙ sym r.places)
    (λ i lt.
    let h : i < rows = rw length_fields at lt in
    own_number_lem row i h (known_row row r.is_notice_holds) ∙ go i h (is_carried (kind_number row) i) refl)
  where
    go : (i : ℕ) → i < rows → (b : Bool) → is_carried (kind_number row) i ≡ b → pick b (field_in row i) 0 ≡ field_in row i
    go i h true c = refl
    go i h false c = sym (r.bare i h c)

-- what is written of such a row is read as that row, over whatever stood in its place
pub row_comes_back : (row : List ℕ) → NoticeRow row → (lent : List ℕ)
    → row_read_of (read_of (bytes_of (notice_from row))) lent ≡ row ++ drop rows lent
row_comes_back row r lent = rw (row_reads row r.is_notice_holds) (ap (λ (l : List ℕ). l ++ drop rows lent) (fields_from row r))

-- and the row of every notice is one
pub notice_row : (n : Notice) → FitsFields n → NoticeRow (fields_of n)
unfolding is_notice_row fits_field
notice_row n fits =
    record {
      places = length_fields n;
      is_notice_holds = rw (kind_known n.kind) (every_in (fits_field (kind_of n.kind) (fields_of n)) rows (λ i h. go i h (is_carried (kind_of n.kind) i) refl));
      bare = λ i h c. sym (ap (λ (m : Notice). field_in (fields_of m) i) (from_fields n)) ∙ (own_number_lem (fields_of n) i h (kind_known n.kind) ∙ rw c);
    }
  where
    go : (i : ℕ) → i < rows → (b : Bool) → is_carried (kind_of n.kind) i ≡ b → pick b (ltb (field_in (fields_of n) i) (256 ^ size_of i)) true ≡ true
    go i h true c = lt-ltb _ _ (fits i h c)
    go i h false c = refl

-- ---- a row's bytes

-- only the fields of the kind count
bytes_alike : (k : ℕ) (vs ws : List ℕ) (m : ℕ) → ((i : ℕ) → i < m → is_carried k i ≡ true → field_in vs i ≡ field_in ws i)
    → bytes_to k vs m ≡ bytes_to k ws m
unfolding bytes_to row_bytes
bytes_alike k vs ws zero same = refl
bytes_alike k vs ws (suc m) same =
    rw (bytes_alike k vs ws m (λ i h c. same i (omega arith) c)) (ap (λ (bs : List ℕ). bytes_to k ws m ++ bs) (go (is_carried k m) refl))
  where
    go : (b : Bool) → is_carried k m ≡ b → pick b (field_bytes m (field_in vs m)) [] ≡ pick b (field_bytes m (field_in ws m)) []
    go true c = ap (field_bytes m) (same m (omega arith) c)
    go false c = refl

-- the bytes of a row's notice are laid from the row itself
pub bytes_from : (row : List ℕ) → is_notice_row row ≡ true → bytes_of (notice_from row) ≡ bytes_to (kind_number row) row rows
unfolding bytes_of
bytes_from row is =
    ap (λ (k : ℕ). bytes_to k (fields_of (notice_from row)) rows) (kind_same row is)
    ∙ bytes_alike (kind_number row) (fields_of (notice_from row)) row rows (number_same row is)

-- a row of eight numbers is these
pub listed : (row : List ℕ) → length row ≡ rows
    → field_in row 0 ∷ field_in row 1 ∷ field_in row 2 ∷ field_in row 3 ∷ field_in row 4 ∷ field_in row 5 ∷ field_in row 6 ∷ field_in row 7 ∷ [] ≡ row
listed row is =
    let all =
    field_in row 0 ∷ field_in row 1 ∷ field_in row 2 ∷ field_in row 3 ∷ field_in row 4 ∷ field_in row 5 ∷ field_in row 6 ∷ field_in row 7 ∷ [] in
    ext_get_or 0 all row (sym is)
    (each (λ (i : ℕ). field_in all i ≡ field_in row i) rows ((((((((tt, refl), refl), refl), refl), refl), refl), refl), refl))

-- ---- a row filled in, place by place

module _ (l row : List ℕ) (is : length row ≡ rows) (long : rows ≤ length l) where
  pub length_filled : (i : ℕ) → i ≤ rows → length (paste l 0 row i) ≡ length l
  length_filled i h = length-paste l 0 row i (omega arith) (omega arith)

  pub one_filled : (i : ℕ) → i < rows → set (paste l 0 row i) i (field_in row i) ≡ paste l 0 row (i + 1)
  one_filled i h =
      ap (λ (j : ℕ). set (paste l 0 row i) j (field_in row i)) (sym (zero-add i))
      ∙ rw add-one (paste-suc l 0 row i 0 (omega arith) (omega arith))

  pub all_filled : paste l 0 row rows ≡ row ++ drop rows l
  all_filled = rw (take_all rows row (omega arith))
