-- What is kept is a log of its own: the taken notices, unchanged, back to back, in sequences that rise. So its reader reads it to
-- its end, and salvaging it once more changes nothing.
-- Rests on a notice reading alike by itself, and on a log whose sequences rise coming out whole.
use mathlib.Core.Path.{◌≡◌, refl, sym, ap, ◌∙◌}
use mathlib.Core.Bool.{true}
use mathlib.Core.List.{List, [], ◌∷◌, ◌++◌, append-nil, reverse, reverse-cons, reverse-reverse}
use Prim.Native.Nat.{ℕ, zero, suc, ◌+◌, ◌-◌, ◌≤◌, ◌<◌}
use native.Mathlib.Nat.{add-zero}
use native.Mathlib.Omega.{arith}
use borrow.Author.Tests.{ltb-true}
use lib.ListN.{length, take, drop, length-append}
use lib.Seq.{slice}
use Rattle.notice.specs.declared.Notice.{Notice}
use Rattle.notice.specs.declared.Found.TheVariants as found
use Rattle.notice.specs.Decode.{read_at, further}
use Rattle.notice.specs.Encode.{bytes_of}
use Rattle.notice.specs.Log.{Bytes, log_of, Gives, ends, next}
use Rattle.notice.proofs.Cases.{at_end}
use Rattle.notice.proofs.NoticePlaces.{inside, ended}
use Rattle.notice.proofs.Alike.{by_itself}
use Rattle.notice.proofs.Part.{at_last, whole_stays}
use Rattle.notice.proofs.RoundTrip.{log_append}
use Rattle.notice.proofs.ReadBack.{read_stands, read_writes_at, alone_at}
use Rattle.scanning.specs.declared.scan.Move.{Move}
use Rattle.scanning.specs.declared.scan.Move.TheVariants.{Take, Skip, Stop}
use Rattle.scanning.specs.Scan.{is_later, Scan, last_of, scan_after, move_in, scan_to, scan_of}
use Rattle.salvaging.specs.Claims.{Below, Rising}
use Rattle.salvaging.proofs.Parts.{part_is}
use Rattle.scanning.proofs.ScanThrough as through
use Rattle.salvaging.proofs.Tails.{whole}

-- ---- a part of a log by itself

module _ (bs : List ℕ) (p : ℕ) (n : Notice) (e : ℕ) (is : read_at bs p ≡ found.At n e) where
  -- a notice of a log reads alike from its own bytes
  part_reads : read_at (slice p e bs) 0 ≡ found.At n (length (slice p e bs))
  part_reads =
      let i = inside bs p n e is in
      let same = part_is p e bs (omega (arith, i.ahead)) i.within in
      rw same (alone_at (take (e - p) (drop p bs)) n (by_itself bs p n e is))

  -- and those are what writing it gives
  part_written : Bytes bs → slice p e bs ≡ bytes_of n
  part_written small =
      let i = inside bs p n e is in
      let s = read_stands bs small p n e is in
      let size : e - p ≡ length (bytes_of n) = omega (arith, s.after) in
      part_is p e bs (omega (arith, i.ahead)) i.within ∙ rw size (read_writes_at bs small p n e is)

-- ---- one notice more

-- a log with one notice more behind it gives that too
gives_more : (xs x : List ℕ) (n : Notice) → read_at x 0 ≡ found.At n (length x) → (p : ℕ) (ns : List Notice)
    → p ≤ length xs → Gives xs p ns → Gives (xs ++ x) p (ns ++ n ∷ [])
gives_more xs x n is p [] within (ends stop) =
    let past = ended xs p stop in
    let at : length xs ≡ p = omega arith in
    let here = rw (add-zero, at) at (at_last xs x 0 ∙ ap (further (length xs)) is) in
    let size : length (xs ++ x) ≡ p + length x = length-append xs x ∙ ap (λ k. k + length x) at in
    next here (ends (sym (at_end (xs ++ x) (p + length x) (omega arith))))
gives_more xs x n is p (m ∷ ns) within (next {e = e} here more) =
    next (whole_stays xs x p m e here) (gives_more xs x n is e ns (inside xs p m e here).within more)

-- each of these notices has a sequence smaller than s
abbrev Under : List Notice → ℕ → Type 0
Under [] s = Unit {0}
Under (n ∷ ns) s = (n.sequence < s) × Under ns s

under_more : (ns : List Notice) (n : Notice) (s : ℕ) → Under ns n.sequence → n.sequence < s → Under (ns ++ n ∷ []) s
under_more [] n s u h = (h, tt)
under_more (m ∷ ns) n s u h = (omega (arith, u.0), under_more ns n s u.1 h)

below_more : (ns : List Notice) (n : Notice) (s : ℕ) → Below s ns → s < n.sequence → Below s (ns ++ n ∷ [])
below_more [] n s b h = (h, tt)
below_more (m ∷ ns) n s b h = (b.0, below_more ns n s b.1 h)

rising_more : (ns : List Notice) (n : Notice) → Rising ns → Under ns n.sequence → Rising (ns ++ n ∷ [])
rising_more [] n r u = (tt, tt)
rising_more (m ∷ ns) n r u = (below_more ns n m.sequence r.0 u.0, rising_more ns n r.1 u.1)

-- ---- what a scan has kept

pub record Log (s : Scan) : Type 0 where
  pub gives : Gives s.kept 0 (reverse s.taken)
  pub rising : Rising (reverse s.taken)
  pub under : (q : ℕ) → is_later (last_of s.taken) q ≡ true → Under (reverse s.taken) q

log_on : (bs : List ℕ) (s : Scan) → Log s → Log (scan_after bs s (move_in bs s))
log_on bs s w = go (move_in bs s) refl
  where
    go : (m : Move) → move_in bs s ≡ m → Log (scan_after bs s m)
    go (Take n e) is =
        let t = through.takes bs (last_of s.taken) s.place n e is in
        let part = slice s.place e bs in
        let reads = part_reads bs s.place n e t.found in
        let order = reverse-cons n s.taken in
        let under = w.under n.sequence t.later in
        record {
          gives = rw order
              (gives_more s.kept part n reads 0 (reverse s.taken) (omega arith) w.gives);
          rising = rw order (rising_more (reverse s.taken) n w.rising under);
          under = λ q h. rw order (under_more (reverse s.taken) n q under (ltb-true _ _ h));
        }
    go Skip is = record { gives = w.gives; rising = w.rising; under = w.under }
    go Stop is = w

pub log_to : (bs : List ℕ) (n : ℕ) → Log (scan_to bs n)
unfolding scan_to
log_to bs zero = record { gives = ends (sym (at_end [] 0 (omega arith))); rising = tt; under = λ q h. tt }
log_to bs (suc n) = log_on bs (scan_to bs n) (log_to bs n)

-- ---- the theorems

module _ (bs : List ℕ) where
  -- what is kept reads as the taken notices in order, and then "end"
  pub kept_gives : Gives (scan_of bs).kept 0 (reverse (scan_of bs).taken)
  kept_gives = (log_to bs (length bs)).gives

  pub kept_rises : Rising (reverse (scan_of bs).taken)
  kept_rises = (log_to bs (length bs)).rising

  -- salvaging what was salvaged changes nothing
  pub again : scan_of (scan_of bs).kept
      ≡ record { place = length (scan_of bs).kept; taken = (scan_of bs).taken; kept = (scan_of bs).kept; skipped = [] }
  again =
      let w = whole (scan_of bs).kept (reverse (scan_of bs).taken) kept_gives kept_rises in
      let taken = w.taken_is ∙ reverse-reverse (scan_of bs).taken in
      λ i.
      record {
        place = through.at_last (scan_of bs).kept i;
        taken = taken i;
        kept = w.kept_is i;
        skipped = w.skipped_is i;
      }

-- each taken notice is unchanged: what is kept is their bytes
module _ (bs : List ℕ) (small : Bytes bs) where
  unchanged_on : (s : Scan) → s.kept ≡ log_of (reverse s.taken) → (m : Move) → move_in bs s ≡ m
      → (scan_after bs s m).kept ≡ log_of (reverse (scan_after bs s m).taken)
  unfolding log_of
  unchanged_on s w (Take n e) is =
      let t = through.takes bs (last_of s.taken) s.place n e is in
      let part = part_written bs s.place n e t.found small in
      let more = log_append (reverse s.taken) (n ∷ []) in
      rw (reverse-cons n s.taken, more, part, append-nil, w) refl
  unchanged_on s w Skip is = w
  unchanged_on s w Stop is = w

  unchanged_to : (n : ℕ) → (scan_to bs n).kept ≡ log_of (reverse (scan_to bs n).taken)
  unfolding scan_to log_of
  unchanged_to zero = refl
  unchanged_to (suc k) = unchanged_on (scan_to bs k) (unchanged_to k) (move_in bs (scan_to bs k)) refl

  pub unchanged : (scan_of bs).kept ≡ log_of (reverse (scan_of bs).taken)
  unchanged = unchanged_to (length bs)
