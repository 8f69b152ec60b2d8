-- Laws of one step over a window: no count passes the place, a step comes ahead within the window, and over all of a log it is
-- the scan's own step.
-- Rest on what a move tells and on the definitions of what is counted.
use mathlib.Core.Path.{◌≡◌, refl, sym, ap, ◌∙◌}
use mathlib.Core.Bool.{Bool, true, false}
use mathlib.Core.List.{List, [], ◌∷◌, ◌++◌}
use Prim.Native.Nat.{ℕ, suc, ◌+◌, ◌-◌, ◌≤◌, ◌<◌}
use native.Mathlib.Nat.{zero-add}
use native.Mathlib.Numerals.{add-one}
use native.Mathlib.Omega.{arith}
use borrow.Author.Tests.{lt-ltb, le-ltb}
use lib.Dec.{eqb}
use lib.ListN.{length, length-append}
use lib.Seq.{slice, length-slice}
use Rattle.rules.specs.Refusals.{pick}
use Rattle.notice.specs.declared.Notice.{Notice}
use Rattle.notice.specs.Decode.{read_at}
use Rattle.notice.proofs.NoticePlaces.{inside}
use Rattle.scanning.specs.declared.scan.Move.{Move}
use Rattle.scanning.specs.declared.scan.Move.TheVariants.{Take, Skip, Stop}
use Rattle.scanning.specs.declared.steps.Progress.{Progress}
use Rattle.scanning.specs.Scan.{move_of, Stretch, stretch, end_of, Scan, last_of, scan_after, move_in}
use Rattle.scanning.specs.inner.Steps.{progress_of, fresh_progress, is_open_at, taking_notice, joining, starting}
use Rattle.scanning.specs.inner.Steps.{skipping, progress_moved, Counts, Within, Advances}
use Rattle.scanning.proofs.ScanThrough as through

-- ---- is a stretch open

pub none_open : (p : Progress) → p.stretches ≡ 0 → false ≡ is_open_at p
unfolding is_open_at
none_open p h = rw (le-ltb 0 p.stretches (omega arith))

pub some_open : (p : Progress) → (p.stretches ≡ 0 → ⊥) → eqb (p.start + p.size) p.place ≡ is_open_at p
unfolding is_open_at
some_open p h = rw (lt-ltb 0 p.stretches (omega arith))

-- a byte that is skipped, by that
pub joins : (p : Progress) → is_open_at p ≡ true → joining p ≡ skipping p
unfolding skipping
joins p h = rw h

pub starts : (p : Progress) → is_open_at p ≡ false → starting p ≡ skipping p
unfolding skipping
starts p h = rw h

-- ---- counts

pub fresh_counts : (p : Progress) → p ≡ fresh_progress → Counts p
fresh_counts p is =
    let made : Counts fresh_progress =
    record {
      notices_low = omega arith;
      bytes_low = omega arith;
      stretches_low = omega arith;
      latest_low = omega arith;
    } in
    rw is made

pub fresh_place : (p : Progress) → p ≡ fresh_progress → p.place ≡ 0
fresh_place p is = ap (λ (q : Progress). q.place) is

taking_counts : (p : Progress) (s e : ℕ) → Counts p → p.place < e → Counts (taking_notice p s e)
taking_counts p s e c h =
    record {
      notices_low = omega (arith, c.notices_low);
      bytes_low = omega (arith, c.bytes_low);
      stretches_low = omega (arith, c.stretches_low);
      latest_low = omega (arith, c.latest_low);
    }

skipping_counts : (p : Progress) → Counts p → Counts (skipping p)
unfolding skipping
skipping_counts p c = go (is_open_at p)
  where
    go : (b : Bool) → Counts (pick b (joining p) (starting p))
    go true =
        record {
          notices_low = omega (arith, c.notices_low);
          bytes_low = omega (arith, c.bytes_low);
          stretches_low = omega (arith, c.stretches_low);
          latest_low = omega (arith, c.latest_low);
        }
    go false =
        record {
          notices_low = omega (arith, c.notices_low);
          bytes_low = omega (arith, c.bytes_low);
          stretches_low = omega (arith, c.stretches_low);
          latest_low = omega arith;
        }

skipping_place : (p : Progress) → (skipping p).place ≡ p.place + 1
unfolding skipping
skipping_place p = go (is_open_at p)
  where
    go : (b : Bool) → (pick b (joining p) (starting p)).place ≡ p.place + 1
    go true = refl
    go false = refl

-- ---- one step over a window

module _ (window : List ℕ) (d : ℕ) (p : Progress) (c : Counts p) (w : Within (length window) d p) where
  -- the move at the place
  abbrev move : Move
  move = move_of p.last (read_at window (p.place - d))

  -- a notice that is taken ends ahead, within the window
  pub take_ends : (n : Notice) (e : ℕ) → move ≡ Take n e → (p.place < d + e) × (e ≤ length window)
  take_ends n e is =
      let i = inside window (p.place - d) n e (through.takes window p.last (p.place - d) n e is).found in
      (omega (arith, w.from, i.ahead), i.within)

  pub skip_room : move ≡ Skip → p.place < d + length window
  skip_room is = omega (arith, w.from, through.skips window p.last (p.place - d) is)

  pub advances_take : (n : Notice) (e : ℕ) → move ≡ Take n e → (r : Progress) → r ≡ taking_notice p n.sequence (d + e)
      → Advances window d p r
  advances_take n e is r made =
      let ends = take_ends n e is in
      let place : r.place ≡ d + e = ap (λ (q : Progress). q.place) made in
      record {
        is = made ∙ ap (progress_moved d p) (sym is);
        counts = rw made (taking_counts p n.sequence (d + e) c ends.0);
        ahead = λ _. rw place ends.0;
        within = rw place (omega (arith, ends.1));
      }

  pub advances_skip : move ≡ Skip → (r : Progress) → r ≡ skipping p → Advances window d p r
  advances_skip is r made =
      let place : r.place ≡ p.place + 1 = ap (λ (q : Progress). q.place) made ∙ skipping_place p in
      record {
        is = made ∙ ap (progress_moved d p) (sym is);
        counts = rw made (skipping_counts p c);
        ahead = λ _. omega arith;
        within = omega (arith, skip_room is);
      }

  pub advances_stop : move ≡ Stop → Advances window d p p
  advances_stop is =
      record {
        is = ap (progress_moved d p) (sym is);
        counts = c;
        ahead = λ h. absurd (omega (arith, w.from, through.stops window p.last (p.place - d) is));
        within = w.to;
      }

-- ---- over all of a log

abbrev scan : ℕ → List Notice → List ℕ → List Stretch → Scan
scan place taken kept skipped = record { place = place; taken = taken; kept = kept; skipped = skipped }

-- a skipped byte, counted, is what is counted of the stretches with that byte
skip_same : (place : ℕ) (taken : List Notice) (kept : List ℕ) (ss : List Stretch) (bs : List ℕ)
    → skipping (progress_of (scan place taken kept ss)) ≡ progress_of (scan_after bs (scan place taken kept ss) Skip)
unfolding skipping is_open_at
skip_same place taken kept [] bs = rw add-one refl
skip_same place taken kept (t ∷ ss) bs =
    rw (lt-ltb 0 (suc (length ss)) (omega arith)) (by (eqb (end_of t) place))
  where
    p : Progress
    p = progress_of (scan place taken kept (t ∷ ss))

    by : (b : Bool) → pick b (joining p) (starting p)
        ≡ progress_of (scan (suc place) taken kept
        (pick b (stretch t.start (suc t.size) ∷ ss) (stretch place 1 ∷ t ∷ ss)))
    by true = rw (add-one, add-one) refl
    by false = rw (add-one, add-one) refl

pub same_step : (bs : List ℕ) (s : Scan) (m : Move) → move_in bs s ≡ m
    → progress_moved 0 (progress_of s) m ≡ progress_of (scan_after bs s m)
same_step bs s (Take n e) is =
    let i = inside bs s.place n e (through.takes bs (last_of s.taken) s.place n e is).found in
    let size : length (s.kept ++ slice s.place e bs) ≡ length s.kept + (e - s.place) =
    length-append s.kept (slice s.place e bs)
    ∙ ap (λ k. length s.kept + k) (length-slice s.place e bs i.within) in
    rw (zero-add e, add-one, size) refl
same_step bs s Skip is = skip_same s.place s.taken s.kept s.skipped bs
same_step bs s Stop is = refl
