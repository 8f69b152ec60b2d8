-- A log that is cut behind a number of its notices is whole and has just those.
-- Rests on bytes that agree reading alike, and on a log being read through.
use mathlib.Core.Path.{◌≡◌, refl, sym, ap, ◌∙◌}
use mathlib.Core.Bool.{true, false}
use mathlib.Core.List.{List}
use Prim.Native.Nat.{ℕ, zero, suc, ◌+◌, ◌-◌, ◌≤◌, ◌<◌}
use native.Mathlib.Nat.{add-zero, add-suc, zero-add}
use native.Mathlib.Omega.{arith}
use borrow.Author.Tests.{le-leb, lt-leb}
use lib.ListN.{length, take, get_or}
use lib.Seq.{length-take-le, get_or-take}
use Rattle.notice_fields.specs.Fields.{length_of}
use Rattle.notice.specs.declared.Notice.{Notice}
use Rattle.notice.specs.declared.Found.{Found}
use Rattle.notice.specs.declared.Found.TheVariants as found
use Rattle.notice.specs.Decode.{kind_at, read_at, place_after, further}
use Rattle.notice.specs.Log.{place_to, is_notice, notices_to, notices_of, stop_of, is_whole_log}
use Rattle.notice.proofs.CaseSplits.{false_true}
use Rattle.notice.proofs.Cases.{at_end}
use Rattle.notice.proofs.NoticePlaces.{there, inside}
use Rattle.notice.proofs.Alike.{found_alike}
use Rattle.notice.proofs.ReadThrough.{place_within, all_read}

-- a notice that ends before the cut stays what it is
pub cut_stays : (bs : List ℕ) (c p : ℕ) (n : Notice) (e : ℕ) → read_at bs p ≡ found.At n e → e ≤ c → c ≤ length bs
    → read_at (take c bs) p ≡ found.At n e
cut_stays bs c p n e is before low =
    let t = there bs p n e is in
    let i = inside bs p n e is in
    let size : length (take c bs) ≡ c = length-take-le c bs low in
    let at : (k : ℕ) → p + k < c → get_or bs (p + k) 0 ≡ get_or (take c bs) (0 + p + k) 0 =
    λ k lt. rw zero-add (sym (get_or-take c bs (p + k) 0 lt)) in
    let same = found_alike bs (take c bs) p 0
    (record {
      kind = at 3 (omega (arith, i.ahead));
      room = λ known.
          le-leb (p + length_of (kind_at bs p)) (length bs) (omega (arith, t.end, i.within))
          ∙ sym (le-leb (0 + p + length_of (kind_at bs p)) (length (take c bs)) (omega (arith, t.end, size)));
      bytes = λ known k lt. at k (omega (arith, lt, t.end));
    })
    (lt-leb (length bs) p (omega (arith, i.ahead, i.within))
    ∙ sym (lt-leb (length (take c bs)) (0 + p) (omega (arith, i.ahead, size)))) in
    rw (zero-add p) at same ∙ (ap (further 0) is ∙ ap (found.At n) (zero-add e))

-- places lie behind one another
after_ahead : (bs : List ℕ) (p : ℕ) → p ≤ place_after (read_at bs p) p
after_ahead bs p = go (read_at bs p) refl
  where
    go : (f : Found) → read_at bs p ≡ f → p ≤ place_after f p
    go (found.At n e) is = omega (arith, (inside bs p n e is).ahead)
    go found.End is = omega arith
    go found.Malformed is = omega arith

pub places_grow : (bs : List ℕ) (i d : ℕ) → place_to bs i ≤ place_to bs (i + d)
unfolding place_to
places_grow bs i zero = rw add-zero (omega arith)
places_grow bs i (suc d) = rw add-suc (omega (arith, places_grow bs i d, after_ahead bs (place_to bs (i + d))))

module _ (bs : List ℕ) (n : ℕ) (whole : (i : ℕ) → i < n → is_notice (read_at bs (place_to bs i)) ≡ true) where
  abbrev cut : List ℕ
  cut = take (place_to bs n) bs

  -- one read more, of a notice before the cut
  same_read : (i : ℕ) → i < n → read_at cut (place_to bs i) ≡ read_at bs (place_to bs i)
  unfolding place_to
  same_read i lt = go (read_at bs (place_to bs i)) refl (whole i lt)
    where
      go : (f : Found) → read_at bs (place_to bs i) ≡ f → is_notice f ≡ true → read_at cut (place_to bs i) ≡ read_at bs (place_to bs i)
      go (found.At m e) is good =
          let at : place_to bs (suc i) ≡ e = ap (λ f. place_after f (place_to bs i)) is in
          let more : suc i + (n - suc i) ≡ n = omega arith in
          let far : place_to bs (suc i) ≤ place_to bs n = rw more at (places_grow bs (suc i) (n - suc i)) in
          cut_stays bs (place_to bs n) (place_to bs i) m e is (omega (arith, at, far)) (place_within bs n) ∙ sym is
      go found.End is good = false_true good
      go found.Malformed is good = false_true good

  cut_reads : (i : ℕ) → i ≤ n → (place_to cut i ≡ place_to bs i) × (notices_to cut i ≡ notices_to bs i)
  unfolding place_to notices_to
  cut_reads zero low = (refl, refl)
  cut_reads (suc i) low =
      let before = cut_reads i (omega arith) in
      let read : read_at cut (place_to cut i) ≡ read_at bs (place_to bs i) = rw before.0 (same_read i low) in
      (rw (read, before.0), rw (read, before.1))

  cut_end : is_notice (read_at cut (place_to cut n)) ≡ false
  cut_end =
      let size : length cut ≡ place_to bs n = length-take-le (place_to bs n) bs (place_within bs n) in
      ap is_notice (sym (at_end cut (place_to cut n) (omega (arith, size, (cut_reads n (omega arith)).0))))

  pub cut_notices : notices_of cut ≡ notices_to bs n
  cut_notices = sym (all_read cut n cut_end).1 ∙ (cut_reads n (omega arith)).1

  pub cut_whole : is_whole_log cut ≡ true
  cut_whole =
      let size : length cut ≡ place_to bs n = length-take-le (place_to bs n) bs (place_within bs n) in
      let stop : stop_of cut ≡ place_to bs n = sym (all_read cut n cut_end).0 ∙ (cut_reads n (omega arith)).0 in
      le-leb (length cut) (stop_of cut) (omega (arith, size, stop))
