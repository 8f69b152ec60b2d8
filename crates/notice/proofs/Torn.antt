-- A log with a torn end: behind whole notices stand bytes of one more, but not all of them. Its notices are those before, and its
-- reading stops where they end. Rests on whole notices staying what they are whatever follows, and on which bytes matter at a place.
use mathlib.Core.Path.{◌≡◌, refl, sym, ap, ◌∙◌}
use mathlib.Core.Bool.{Bool, true, false}
use mathlib.Core.List.{List, ◌++◌}
use Prim.Native.Nat.{ℕ, zero, suc, ◌+◌, ◌<◌, ◌≤◌}
use native.Mathlib.Nat.{add-zero, zero-add}
use native.Mathlib.Omega.{arith}
use borrow.Author.Tests.{leb-true}
use lib.ListN.{length, length-append}
use Rattle.rules.specs.Refusals.{pick}
use Rattle.notice.specs.declared.Notice.{Notice}
use Rattle.notice.specs.declared.Found.{Found}
use Rattle.notice.specs.declared.Found.TheVariants as found
use Rattle.notice.specs.Encode.{bytes_of}
use Rattle.notice.specs.Decode.{read_at, place_after, further}
use Rattle.notice.specs.Log.{FitsFields, place_to, is_notice, with_found, notices_to, notices_of, stop_of, is_whole_log}
use Rattle.notice.proofs.Has.{Has}
use Rattle.notice.proofs.NoticePlaces.{inside, ended}
use Rattle.notice.proofs.Part.{at_last, whole_stays}
use Rattle.notice.proofs.ReadThrough.{no_notice, place_within, still, all_read, enough}
use Rattle.notice.proofs.RoundTrip.{written_reads_at}

-- ---- bytes of a notice, but not all of them, read as none

pub no_part : (n : Notice) → FitsFields n → (t rest : List ℕ) → bytes_of n ≡ t ++ rest → 0 < length rest →
    is_notice (read_at t 0) ≡ false
no_part n fits t rest is some = go (read_at t 0) refl
  where
    here : Has (bytes_of n) 0 (bytes_of n)
    here = λ j lt. rw zero-add

    whole : read_at (t ++ rest) 0 ≡ found.At n (0 + length (bytes_of n))
    whole = ap (λ (cs : List ℕ). read_at cs 0) (sym is) ∙ written_reads_at (bytes_of n) 0 n fits here (omega arith)

    go : (f : Found) → read_at t 0 ≡ f → is_notice f ≡ false
    go (found.At m e) found =
        let end : e ≡ 0 + length (bytes_of n) = cc (whole_stays t rest 0 m e found, whole) in
        let short = (inside t 0 m e found).within in
        let size : length (bytes_of n) ≡ length t + length rest = ap length is ∙ length-append t rest in
        absurd (omega (arith, end, short, size))
    go found.End found = refl
    go found.Malformed found = refl

-- ---- bytes that are no notice, behind a whole log

further_none : (d : ℕ) (f : Found) → is_notice f ≡ false → is_notice (further d f) ≡ false
further_none d (found.At n e) h = h
further_none d found.End h = refl
further_none d found.Malformed h = refl

module _ (bs t : List ℕ) (whole : is_whole_log bs ≡ true) (none : is_notice (read_at t 0) ≡ false) where
  behind : is_notice (read_at (bs ++ t) (length bs)) ≡ false
  behind = rw (← add-zero (length bs)) (rw (at_last bs t 0) (further_none (length bs) (read_at t 0) none))

  -- each read does what the same read of the log does
  abbrev Alike : ℕ → List Notice → Type 0
  Alike p ns =
      (place_after (read_at (bs ++ t) p) p ≡ place_after (read_at bs p) p)
      × (with_found (read_at (bs ++ t) p) ns ≡ with_found (read_at bs p) ns)

  at_stop_lem : (k : ℕ) → is_notice (read_at bs (place_to bs k)) ≡ false → place_to bs k ≡ length bs
  at_stop_lem k h =
      let stop = (all_read bs k h).0 in
      let far : length bs ≤ stop_of bs = leb-true (length bs) (stop_of bs) whole in
      omega (arith, stop, far, place_within bs k)

  one_read : (k : ℕ) (ns : List Notice) → Alike (place_to bs k) ns
  one_read k ns = go (read_at bs (place_to bs k)) refl
    where
      stopped : (f : Found) → read_at bs (place_to bs k) ≡ f → is_notice f ≡ false → Alike (place_to bs k) ns
      stopped f is ends =
          let at : place_to bs k ≡ length bs = at_stop_lem k (rw is ends) in
          let none_here : is_notice (read_at (bs ++ t) (place_to bs k)) ≡ false = rw at behind in
          let long = no_notice (read_at (bs ++ t) (place_to bs k)) (place_to bs k) ns none_here in
          let short = no_notice (read_at bs (place_to bs k)) (place_to bs k) ns (rw is ends) in
          (long.0 ∙ sym short.0, long.1 ∙ sym short.1)

      go : (f : Found) → read_at bs (place_to bs k) ≡ f → Alike (place_to bs k) ns
      go (found.At m e) is =
          let same : read_at (bs ++ t) (place_to bs k) ≡ read_at bs (place_to bs k) =
          whole_stays bs t (place_to bs k) m e is ∙ sym is in
          (ap (λ f. place_after f (place_to bs k)) same, ap (λ f. with_found f ns) same)
      go found.End is = stopped found.End is refl
      go found.Malformed is = stopped found.Malformed is refl

  reads_alike : (k : ℕ) → (place_to (bs ++ t) k ≡ place_to bs k) × (notices_to (bs ++ t) k ≡ notices_to bs k)
  unfolding place_to notices_to
  reads_alike zero = (refl, refl)
  reads_alike (suc k) =
      let before = reads_alike k in
      rw (before.0, before.1) (one_read k (notices_to bs k))

  -- so the log's notices are all, and reading stops at its end
  pub stays_behind : (notices_of (bs ++ t) ≡ notices_of bs) × (stop_of (bs ++ t) ≡ length bs)
  stays_behind =
      let long : length (bs ++ t) ≡ length bs + length t = length-append bs t in
      let same = reads_alike (length (bs ++ t)) in
      let far = still bs (length bs) (length t) (enough bs) in
      let at : stop_of bs ≡ length bs = at_stop_lem (length bs) (enough bs) in
      (same.1 ∙ ap (notices_to bs) long ∙ far.1, same.0 ∙ ap (place_to bs) long ∙ far.0 ∙ at)

-- a notice that lost its end, behind a whole log
pub torn : (bs : List ℕ) (n : Notice) (t rest : List ℕ) → is_whole_log bs ≡ true → FitsFields n → bytes_of n ≡ t ++ rest → 0 < length rest →
    (notices_of (bs ++ t) ≡ notices_of bs) × (stop_of (bs ++ t) ≡ length bs)
torn bs n t rest whole fits is some = stays_behind bs t whole (no_part n fits t rest is some)
