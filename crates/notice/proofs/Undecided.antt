-- At a place that is not decided a notice is unfinished: none is read there, and with some bytes more one would be. So no place is
-- decided later than its bytes allow; `Windows` says that none is decided earlier.
-- Rests on a beginning becoming a notice (`notice_bytes` proofs/Beginnings), and on rows that are laid standing.
use mathlib.Core.Path.{◌≡◌, refl, sym, ap, ◌∙◌}
use mathlib.Core.Bool.{true, false}
use mathlib.Core.List.{List, [], ◌∷◌, ◌++◌}
use Prim.Native.Nat.{ℕ, ◌+◌, ◌-◌, ◌≤◌, ◌<◌, ◌^◌}
use native.Mathlib.Nat.{zero-add}
use native.Mathlib.Omega.{arith}
use lib.Dec.{ltb}
use lib.ListN.{length, drop}
use borrow.Author.Tests.{ltb-true, not-false}
use Rattle.rules.specs.Limits.{both}
use Rattle.rules.specs.Search.{every}
use Rattle.rules.proofs.Tests.{both_l, both_r}
use Rattle.notice_fields.specs.Fields.{table, is_known, span_of, start_of, length_of, rows, open_kind}
use Rattle.notice_fields.proofs.Each.{by_order, false_true}
use Rattle.notice_fields.proofs.Table.{no_bit}
use Rattle.notice_bytes.specs.Laying.{bytes_to}
use Rattle.notice_bytes.specs.Window.{row_begins, is_beginning, is_decided}
use Rattle.notice_bytes.proofs.Laid.{length_bytes}
use Rattle.notice_bytes.proofs.Whole.{stood, whole}
use Rattle.notice_bytes.proofs.Decided.{of_kind_lem, all_there}
use Rattle.notice_bytes.proofs.Beginnings.{becomes}
use Rattle.notice.specs.declared.Found.{Found}
use Rattle.notice.specs.declared.Found.TheVariants as found
use Rattle.notice.specs.Decode.{kind_at, is_whole, read_at}
use Rattle.notice.specs.Log.{is_notice}
use Rattle.notice.specs.Window.{Unfinished}
use Rattle.notice.proofs.Has.{Has}
use Rattle.notice.proofs.Made.{first_value}
use Rattle.notice.proofs.Cases.{at_whole}
use Rattle.notice.proofs.NoticePlaces.{there}
use Rattle.notice.proofs.RoundTrip.{rows_back, values_back}

-- ---- a whole notice of each kind

-- its kind, and zeros
sample : ℕ → List ℕ
sample k = bytes_to k (k ∷ []) rows

small_kind : (k : ℕ) → is_known k ≡ true → k < 256 ^ 1
small_kind k known =
    by_order k 8 (λ lt. omega arith) (λ far. false_true (sym (no_bit k 0 (omega arith) far) ∙ known))

module _ (k : ℕ) (known : is_known k ≡ true) where
  itself : Has (sample k) 0 (bytes_to k (k ∷ []) rows)
  unfolding sample
  itself j lt = rw zero-add

  sample_kind : kind_at (sample k) 0 ≡ k
  unfolding table
  sample_kind =
      sym (first_value (sample k) 0 k)
      ∙ values_back (sample k) 0 k (k ∷ []) itself 0 (omega arith) known (small_kind k known)

  sample_whole : is_whole (sample k) 0 ≡ true
  unfolding sample
  sample_whole =
      let long : 0 + length_of k ≤ length (sample k) = omega (arith, length_bytes k (k ∷ []) rows) in
      whole (sample k) 0 (rw sample_kind known) (rw sample_kind long)
      (rw sample_kind (rows_back (sample k) 0 k (k ∷ []) itself rows (omega arith)))

-- ---- a place that is not decided

-- where a notice is read, the bytes are no mere beginning
none_read : (bs : List ℕ) (p : ℕ) → is_beginning bs p ≡ true → is_notice (read_at bs p) ≡ false
none_read bs p begins = go (read_at bs p) refl
  where
    go : (f : Found) → read_at bs p ≡ f → is_notice f ≡ false
    go (found.At n e) is =
        let s = stood bs p (there bs p n e is).all in
        false_true (all_there bs p (omega (arith, s.fits, s.headed)) s.fits s.known ∙ begins)
    go found.End is = refl
    go found.Malformed is = refl

grows : (bs : List ℕ) (p k : ℕ) → p ≤ length bs → is_beginning bs p ≡ true → is_known k ≡ true
    → (p + 3 < length bs → kind_at bs p ≡ k) → length bs < p + length_of k → Unfinished bs p
grows bs p k low begins known same short =
    let ws = sample k in
    let kind = sample_kind k known in
    let later = drop (length bs - p) ws in
    let all : is_whole (bs ++ later) p ≡ true =
    becomes bs p ws low begins (sample_whole k known) (λ h. same h ∙ sym kind) (rw kind short) in
    let s = stood (bs ++ later) p all in
    record {
      no_notice = none_read bs p begins;
      later = later;
      notice = ap is_notice (sym (at_whole (bs ++ later) p (omega (arith, s.fits, s.headed)) all));
    }

pub unfinished : (bs : List ℕ) (p : ℕ) → p ≤ length bs → is_decided bs p false ≡ false → Unfinished bs p
unfolding is_decided table start_of span_of
unfinished bs p low e =
    let begins = not-false (is_beginning bs p) e in
    by_order (p + 3) (length bs)
    (λ here.
    let k = kind_at bs p in
    let tests = sym (of_kind_lem bs p here) ∙ begins in
    let rest = both_r (is_known k) (both (ltb (length bs) (p + length_of k)) (every (row_begins bs p k) rows)) tests in
    grows bs p k low begins (both_l _ _ tests) (λ _. refl) (ltb-true _ _ (both_l _ _ rest)))
    (λ few. grows bs p open_kind low begins refl (λ h. absurd (omega arith)) (omega arith))
