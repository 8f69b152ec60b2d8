-- What is told, step by step: each step adds its own lines, past the log's end nothing more is told, and the stretches that are told
-- are those of the scan that have ended, each once and in their order.
-- Rests on what a step of a scan does.
use mathlib.Core.Path.{◌≡◌, refl, sym, ap, ◌∙◌}
use mathlib.Core.Bool.{Bool, true, false}
use mathlib.Core.List.{List, [], ◌∷◌, ◌++◌, map, append-nil}
use Prim.Native.Nat.{ℕ, zero, suc, ◌+◌, ◌≤◌}
use native.Mathlib.Nat.{add-zero, add-suc}
use native.Mathlib.Omega.{arith}
use borrow.Author.Tests.{lt-ltb, le-ltb}
use lib.Dec.{eqb}
use lib.ListN.{length}
use Rattle.rules.specs.Refusals.{pick}
use Rattle.notice.proofs.NoticePlaces.{inside}
use Rattle.scanning.specs.declared.scan.Move.{Move}
use Rattle.scanning.specs.declared.scan.Move.TheVariants.{Take, Skip, Stop}
use Rattle.scanning.specs.declared.steps.Progress.{Progress}
use Rattle.scanning.specs.Scan.{Stretch, end_of, Scan, last_of, scan_after, move_in, scan_to}
use Rattle.scanning.specs.inner.Steps.{progress_of, is_open_at}
use Rattle.salvaging.specs.Pours.{closed}
use Rattle.scanning.proofs.ScanThrough as through
use Rattle.salvaging.proofs.Laying.{closed_joined, closed_past}
use Rattle.salvaging.proofs.Pieces.{split_to}
use Rattle.salvage_lines.specs.Report.{Seam, is_seam, seam_of, seams_to, seam_text, seams_text, told_to, said_in}

-- ---- one step more

pub tells_more : (bs : List ℕ) (n : ℕ)
    → told_to bs (suc n) ≡ told_to bs n ++ said_in (progress_of (scan_to bs n)) (progress_of (scan_to bs (suc n)))
unfolding seams_to seams_text said_in
tells_more bs n = go (is_seam p q)
  where
    p : Progress
    p = progress_of (scan_to bs n)

    q : Progress
    q = progress_of (scan_to bs (suc n))

    go : (b : Bool) → seams_text (pick b (seam_of p q ∷ seams_to bs n) (seams_to bs n))
        ≡ seams_text (seams_to bs n) ++ pick b (seam_text (seam_of p q)) []
    go true = refl
    go false = sym (append-nil (seams_text (seams_to bs n)))

-- ---- past the end

not_more : (p : Progress) → said_in p p ≡ []
unfolding said_in
not_more p = rw (le-ltb p.notices p.notices (omega arith)) refl

still : (bs : List ℕ) (n d : ℕ) → length bs ≤ (scan_to bs n).place → told_to bs (n + d) ≡ told_to bs n
unfolding scan_to
still bs n zero h = rw add-zero refl
still bs n (suc d) h =
    let here = scan_to bs (n + d) in
    let past : length bs ≤ here.place = rw (through.still bs n d h) h in
    let same : scan_to bs (suc (n + d)) ≡ here = through.stays bs here past in
    let none : said_in (progress_of here) (progress_of (scan_to bs (suc (n + d)))) ≡ [] =
    ap (λ (s : Scan). said_in (progress_of here) (progress_of s)) same ∙ not_more (progress_of here) in
    rw add-suc
    (tells_more bs (n + d) ∙ ap (λ x. told_to bs (n + d) ++ x) none ∙ append-nil (told_to bs (n + d)) ∙ still bs n d h)

pub all_told : (bs : List ℕ) (n : ℕ) → length bs ≤ (scan_to bs n).place → told_to bs n ≡ told_to bs (length bs)
all_told bs n h =
    let far = still bs n (length bs) h in
    let over = still bs (length bs) n (rw (through.at_last bs) (omega arith)) in
    let swap : length bs + n ≡ n + length bs = omega arith in
    sym far ∙ rw swap at over

-- ---- the stretches that are told

abbrev stretches : List Seam → List Stretch
stretches ss = map (λ (s : Seam). s.skipped) ss

-- what is told of a stretch that ends where a notice is taken, with those before it
with_open : (s : Scan) (q : Progress) (ss : List Seam) → stretches ss ≡ closed s.place s.skipped
    → stretches (pick (is_open_at (progress_of s)) (seam_of (progress_of s) q ∷ ss) ss) ≡ s.skipped
unfolding is_open_at
with_open s q ss is = go s.skipped is
  where
    scan : List Stretch → Scan
    scan ts = record { place = s.place; taken = s.taken; kept = s.kept; skipped = ts }

    go : (ts : List Stretch) → stretches ss ≡ closed s.place ts
        → stretches (pick (is_open_at (progress_of (scan ts))) (seam_of (progress_of (scan ts)) q ∷ ss) ss) ≡ ts
    go [] e = e
    go (t ∷ ts) e = rw (lt-ltb 0 (suc (length ts)) (omega arith)) (by (eqb (end_of t) s.place) e)
      where
        by : (b : Bool) → stretches ss ≡ pick b ts (t ∷ ts)
            → stretches (pick b (seam_of (progress_of (scan (t ∷ ts))) q ∷ ss) ss) ≡ t ∷ ts
        by true e = ap (λ x. t ∷ x) e
        by false e = e

pub stretches_told : (bs : List ℕ) (n : ℕ)
    → stretches (seams_to bs n) ≡ closed (scan_to bs n).place (scan_to bs n).skipped
unfolding seams_to scan_to
stretches_told bs zero = refl
stretches_told bs (suc n) = go (move_in bs s) refl (stretches_told bs n)
  where
    s : Scan
    s = scan_to bs n

    go : (m : Move) → move_in bs s ≡ m → stretches (seams_to bs n) ≡ closed s.place s.skipped
        → stretches
        (pick (is_seam (progress_of s) (progress_of (scan_after bs s m))) (seam_of (progress_of s) (progress_of (scan_after bs s m)) ∷ seams_to bs n)
        (seams_to bs n))
        ≡ closed (scan_after bs s m).place (scan_after bs s m).skipped
    go (Take m e) is before =
        let i = inside bs s.place m e (through.takes bs (last_of s.taken) s.place m e is).found in
        let all : closed e s.skipped ≡ s.skipped =
        closed_past s.place e s.skipped (split_to bs n).apart (omega (arith, i.ahead)) in
        rw (lt-ltb (length s.taken) (suc (length s.taken)) (omega arith), all)
        (with_open s (progress_of (scan_after bs s (Take m e))) (seams_to bs n) before)
    go Skip is before =
        rw (le-ltb (length s.taken) (length s.taken) (omega arith), closed_joined s.place s.skipped) before
    go Stop is before = rw (le-ltb (length s.taken) (length s.taken) (omega arith)) before
