-- Laws of the area and the row as they are filled: each step adds the notice that was taken and the stretch that ended before
-- it, and at the end both hold the scan's, from their start on.
-- Rest on what a step adds to a scan, and on the laws of pages.
use mathlib.Core.Path.{◌≡◌, refl, sym, ap, ◌∙◌}
use mathlib.Core.Bool.{Bool, true, false}
use mathlib.Core.List.{List, [], ◌∷◌, ◌++◌, append-nil, append_assoc}
use Prim.Native.Nat.{ℕ, suc, ◌+◌, ◌-◌, ◌≤◌, ◌<◌, ◌^◌}
use native.Mathlib.Nat.{zero-add}
use native.Mathlib.Omega.{arith}
use borrow.Author.Tests.{lt-ltb, le-ltb, ne_eqb, eqb-true, eq-eqb}
use lib.Dec.{eqb, ltb}
use lib.ListN.{length, take, drop, length-append}
use lib.Seq.{slice, length-slice, take-append-add, drop-append-add, take-append-le}
use Rattle.rules.specs.Refusals.{pick}
use Rattle.text.specs.Output.{Page, page, put, puts}
use Rattle.text.proofs.Pages.{puts_then, puts_length, puts_low}
use Rattle.notice.specs.declared.Found.{Found}
use Rattle.notice.specs.declared.Found.TheVariants as found
use Rattle.notice.specs.Fields.{table, start_of, span_of, longest_notice}
use Rattle.notice.specs.Decode.{read_at, further}
use Rattle.notice.specs.Window.{is_decided, Seen}
use Rattle.notice.proofs.CaseSplits.{false_true}
use Rattle.notice.proofs.NoticePlaces.{inside}
use Rattle.notice.proofs.Windows.{seen_reads, few_left, at_end_decided}
use Rattle.scanning.specs.declared.scan.Move.{Move}
use Rattle.scanning.specs.declared.scan.Move.TheVariants.{Take, Skip, Stop}
use Rattle.scanning.specs.declared.steps.Progress.{Progress}
use Rattle.salvaging.specs.declared.rows.Laid.{Laid}
use Rattle.salvaging.specs.declared.rows.Poured.{Poured}
use Rattle.scanning.specs.Scan.{is_later, move_of, Stretch, stretch, end_of, stretch_joined, Scan, last_of, scan_after, move_in}
use Rattle.scanning.specs.Scan.{scan_to, scan_of}
use Rattle.salvaging.specs.Claims.{Apart}
use Rattle.scanning.specs.inner.Steps.{progress_of, is_open_at, ending_stretch, fresh_progress, progress_moved, Counts, Within, Between, Advances}
use Rattle.salvaging.specs.Rows.{flat}
use Rattle.salvaging.specs.Pours.{took_one, taken_in, Lays, closed, stretches_ended, Stands, PoursOn, Pours, Fills}
use Rattle.salvaging.proofs.Parts.{part_is}
use Rattle.scanning.proofs.ScanThrough as through
use Rattle.salvaging.proofs.Pieces.{split_to}
use Rattle.scanning.proofs.Stepping.{fresh_place, same_step}

-- ---- stretches that have ended

pub closed_joined : (p : ℕ) (ts : List Stretch) → closed (suc p) (stretch_joined p ts) ≡ closed p ts
closed_joined p [] = rw (eq-eqb (p + 1) (suc p) (omega arith)) refl
closed_joined p (t ∷ ts) = go (eqb (end_of t) p) refl
  where
    go : (b : Bool) → eqb (end_of t) p ≡ b
        → closed (suc p) (pick b (stretch t.start (suc t.size) ∷ ts) (stretch p 1 ∷ t ∷ ts)) ≡ pick b ts (t ∷ ts)
    go true e =
        let at = eqb-true (end_of t) p e in
        rw (eq-eqb (t.start + suc t.size) (suc p) (omega arith)) refl
    go false e = rw (eq-eqb (p + 1) (suc p) (omega arith)) refl

pub closed_past : (p e : ℕ) (ts : List Stretch) → Apart (suc p) ts → p < e → closed e ts ≡ ts
closed_past p e [] a h = refl
closed_past p e (t ∷ ts) a h =
    let before : end_of t < e = omega (arith, a.0) in
    rw (ne_eqb (end_of t) e (λ q. omega arith)) refl

-- with the one that is open, they are all
pub with_open : (s : Scan) → flat (closed s.place s.skipped) ++ ending_stretch (progress_of s) ≡ flat s.skipped
unfolding flat is_open_at
with_open s = go s.skipped
  where
    scan : List Stretch → Scan
    scan ts = record { place = s.place; taken = s.taken; kept = s.kept; skipped = ts }

    go : (ts : List Stretch) → flat (closed s.place ts) ++ ending_stretch (progress_of (scan ts)) ≡ flat ts
    go [] = refl
    go (t ∷ ts) = rw (lt-ltb 0 (suc (length ts)) (omega arith)) (by (eqb (end_of t) s.place))
      where
        by : (b : Bool) → flat (pick b ts (t ∷ ts)) ++ pick b (t.start ∷ t.size ∷ []) []
            ≡ flat ts ++ t.start ∷ t.size ∷ []
        by true = refl
        by false = append-nil (flat ts ++ t.start ∷ t.size ∷ [])

-- ---- what one step adds

-- the part that is taken, and the stretch that ended before it
abbrev pub part : List ℕ → Progress → Progress → List ℕ
part bs p q = pick (took_one p q) (slice p.place q.place bs) []

abbrev ended : Progress → Progress → List ℕ
ended p q = pick (took_one p q) (ending_stretch p) []

not_more : (n : ℕ) → ltb n n ≡ false
not_more n = le-ltb n n (omega arith)

pub adds_part : (bs : List ℕ) (s : Scan) (m : Move)
    → (scan_after bs s m).kept ≡ s.kept ++ part bs (progress_of s) (progress_of (scan_after bs s m))
adds_part bs s (Take n e) = rw (lt-ltb (length s.taken) (suc (length s.taken)) (omega arith)) refl
adds_part bs s Skip = rw (not_more (length s.taken), append-nil) refl
adds_part bs s Stop = rw (not_more (length s.taken), append-nil) refl

adds_ended : (bs : List ℕ) (s : Scan) → Apart (suc s.place) s.skipped → (m : Move) → move_in bs s ≡ m
    → flat (closed (scan_after bs s m).place (scan_after bs s m).skipped)
    ≡ flat (closed s.place s.skipped) ++ ended (progress_of s) (progress_of (scan_after bs s m))
adds_ended bs s a (Take n e) is =
    let i = inside bs s.place n e (through.takes bs (last_of s.taken) s.place n e is).found in
    let all : closed e s.skipped ≡ s.skipped = closed_past s.place e s.skipped a (omega (arith, i.ahead)) in
    rw (lt-ltb (length s.taken) (suc (length s.taken)) (omega arith), all) (sym (with_open s))
adds_ended bs s a Skip is = rw (not_more (length s.taken), append-nil, closed_joined s.place s.skipped) refl
adds_ended bs s a Stop is = rw (not_more (length s.taken), append-nil) refl

-- neither has more numbers than the step passes bytes
pub part_few : (bs : List ℕ) (s : Scan) (m : Move) → move_in bs s ≡ m
    → length (part bs (progress_of s) (progress_of (scan_after bs s m))) ≤ (scan_after bs s m).place - s.place
part_few bs s (Take n e) is =
    let i = inside bs s.place n e (through.takes bs (last_of s.taken) s.place n e is).found in
    rw (lt-ltb (length s.taken) (suc (length s.taken)) (omega arith), length-slice s.place e bs i.within)
    (omega arith)
part_few bs s Skip is = rw (not_more (length s.taken)) (omega arith)
part_few bs s Stop is = rw (not_more (length s.taken)) (omega arith)

ending_few : (p : Progress) → length (ending_stretch p) ≤ 2
ending_few p = go (is_open_at p)
  where
    go : (b : Bool) → length (pick b (p.start ∷ p.size ∷ []) []) ≤ 2
    go true = omega arith
    go false = omega arith

ended_few : (bs : List ℕ) (s : Scan) (m : Move) → move_in bs s ≡ m
    → length (ended (progress_of s) (progress_of (scan_after bs s m))) ≤ (scan_after bs s m).place - s.place
ended_few bs s (Take n e) is =
    let i = inside bs s.place n e (through.takes bs (last_of s.taken) s.place n e is).found in
    rw (lt-ltb (length s.taken) (suc (length s.taken)) (omega arith))
    (omega (arith, i.ahead, ending_few (progress_of s)))
ended_few bs s Skip is = rw (not_more (length s.taken)) (omega arith)
ended_few bs s Stop is = rw (not_more (length s.taken)) (omega arith)

-- ---- the code's writes

-- the stretch that is open, written as two numbers
pub open_put : (p : Progress) (g h k : Page) → is_open_at p ≡ true → h ≡ put g p.start → k ≡ put h p.size
    → k ≡ puts g (ending_stretch p)
unfolding puts
open_put p g h k is first second = rw is (second ∙ ap (λ (x : Page). put x p.size) first)

pub none_put : (p : Progress) (g : Page) → is_open_at p ≡ false → g ≡ puts g (ending_stretch p)
unfolding puts
none_put p g none = rw none refl

-- the bytes of a notice, where one was taken
pub puts_taken : (window : List ℕ) (d : ℕ) (p q : Progress) (g h : Page) (x : List ℕ) → p.notices < q.notices
    → x ≡ slice (p.place - d) (q.place - d) window → h ≡ puts g x → h ≡ puts g (taken_in window d p q)
puts_taken window d p q g h x more is e = e ∙ ap (puts g) (is ∙ rw (lt-ltb p.notices q.notices more) refl)

pub puts_none : (window : List ℕ) (d : ℕ) (p q : Progress) (g : Page) → q.notices ≤ p.notices → g ≡ puts g (taken_in window d p q)
unfolding puts
puts_none window d p q g same = rw (le-ltb p.notices q.notices same) refl

module _ (window : List ℕ) (d : ℕ) (p q : Progress) (to r : Laid) (area row area-after : List ℕ)
    (taken : page area-after r.at ≡ puts (page area to.at) (taken_in window d p q)) where
  pub lays_taken : (row_after_lem : List ℕ) → p.notices < q.notices
      → page row_after_lem r.cells ≡ puts (page row to.cells) (ending_stretch p)
      → Lays window d p q to r area row area-after row_after_lem
  lays_taken row_after_lem more w = record { area_is = taken; row_is = w ∙ rw (lt-ltb p.notices q.notices more) refl }

  pub lays_none : q.notices ≤ p.notices → r.cells ≡ to.cells → Lays window d p q to r area row area-after row
  unfolding puts
  lays_none same e =
      record { area_is = taken; row_is = rw (le-ltb p.notices q.notices same) (ap (page row) e) }

-- the part between two places of a window, as the code cuts it
pub part_between : (window : List ℕ) (d : ℕ) (p q : Progress) → Between (length window) d p q
    → take (q.place - d - (p.place - d)) (drop (p.place - d) window) ≡ slice (p.place - d) (q.place - d) window
part_between window d p q b =
    sym (part_is (p.place - d) (q.place - d) window (omega (arith, b.ahead)) (omega (arith, b.to)))

-- ---- a window in a log

-- a part of a window is that part of the log
part_amid : (before window later : List ℕ) (a b : ℕ) → b ≤ length window
    → slice a b window ≡ slice (length before + a) (length before + b) (before ++ (window ++ later))
part_amid before window later a b h =
    sym
    (ap (drop (length before + a)) (take-append-add before (window ++ later) b)
    ∙ drop-append-add before (take b (window ++ later)) a
    ∙ ap (drop a) (take-append-le b window later h))

-- a move counted from where the window begins is the log's
moved_further : (d : ℕ) (p : Progress) (f : Found)
    → progress_moved d p (move_of p.last f) ≡ progress_moved 0 p (move_of p.last (further d f))
moved_further d p (found.At n e) = go (is_later p.last n.sequence)
  where
    go : (b : Bool) → progress_moved d p (pick b (Take n e) Skip) ≡ progress_moved 0 p (pick b (Take n (d + e)) Skip)
    go true = rw (zero-add (d + e)) refl
    go false = refl
moved_further d p found.End = refl
moved_further d p found.Malformed = refl

module _ (log window : List ℕ) (over : Bool) (d : ℕ) (st : Stands log d window over) where
  -- at a place that the window decides, one step over it is the step of the log's scan
  pub step_in_lem : (p q : Progress) (n : ℕ) → d ≤ p.place → is_decided window (p.place - d) over ≡ true
      → p ≡ progress_of (scan_to log n) → Advances window d p q → q ≡ progress_of (scan_to log (suc n))
  unfolding scan_to
  step_in_lem p q n low decided is a =
      let s = scan_to log n in
      let size = st.there in
      let seen : Seen log p.place window (p.place - d) =
      record {
        before = st.before;
        later = st.later;
        over = over;
        is = st.is;
        there = omega arith;
        ended = st.last;
        decided = decided;
      } in
      let found : further d (read_at window (p.place - d)) ≡ read_at log p.place =
      ap (λ k. further k (read_at window (p.place - d))) size
      ∙ sym (seen_reads log window p.place (p.place - d) seen) in
      let same : progress_moved 0 p (move_of p.last (read_at log p.place)) ≡ progress_moved 0 (progress_of s) (move_in log s) =
      rw is refl in
      a.is
      ∙ moved_further d p (read_at window (p.place - d))
      ∙ ap (λ f. progress_moved 0 p (move_of p.last f)) found
      ∙ same
      ∙ same_step log s (move_in log s) refl

  -- and its part the log's part
  pub part_in : (p q : Progress) → Between (length window) d p q
      → slice (p.place - d) (q.place - d) window ≡ slice p.place q.place log
  part_in p q b =
      let size = st.there in
      let first : length st.before + (p.place - d) ≡ p.place = omega (arith, b.from) in
      let last : length st.before + (q.place - d) ≡ q.place = omega (arith, b.from, b.ahead) in
      part_amid st.before window st.later (p.place - d) (q.place - d) (omega (arith, b.to))
      ∙ rw (first, last, st.is) refl

-- ---- turn by turn

-- what is left of the window falls
pub falls : (window : List ℕ) (d : ℕ) (p q : Progress) → d ≤ p.place → Advances window d p q
    → p.place - d < length window → d + length window - q.place < d + length window - p.place
falls window d p q low a h = omega (arith, a.ahead (omega arith), a.within)

module _ (window : List ℕ) (over : Bool) (start : Progress) (area row : List ℕ) where
  -- so far what a log's scan took and ended stands in the area and the row
  pub record Pouring (p : Progress) (to : Laid) (area-now row_now : List ℕ) : Type 0 where
    pub counts : Counts p
    pub ahead : start.place ≤ p.place
    pub within : p.place ≤ start.place + length window
    pub area_size : length area-now ≡ length area
    pub row_size : length row_now ≡ length row
    pub at_low : to.at ≤ length area-now
    pub cells_low : to.cells ≤ length row_now
    pub follows : (log : List ℕ) (k : ℕ) → Stands log start.place window over → start ≡ progress_of (scan_to log k)
        → PoursOn log k p to area row area-now row_now

  pub empty : Counts start → Pouring start (record { at = 0; cells = 0 }) area row
  unfolding puts
  empty counts =
      record {
        counts = counts;
        ahead = omega arith;
        within = omega arith;
        area_size = refl;
        row_size = refl;
        at_low = omega arith;
        cells_low = omega arith;
        follows = λ log k st is.
            record {
              steps = k;
              is = is;
              bytes = [];
              bytes_few = omega arith;
              kept_is = sym (append-nil (scan_to log k).kept);
              area_is = refl;
              cells = [];
              cells_few = omega arith;
              ended_is = sym (append-nil (stretches_ended (scan_to log k)));
              row_is = refl;
            };
      }

  pub between : (p q : Progress) (to : Laid) (area-now row_now : List ℕ) → Pouring p to area-now row_now
      → Advances window start.place p q → p.place - start.place < length window
      → Between (length window) start.place p q
  between p q to area-now row_now f a h =
      let on = a.ahead (omega (arith, f.ahead)) in
      record { from = f.ahead; ahead = omega arith; to = a.within }

  pub in_window : (p : Progress) (to : Laid) (area-now row_now : List ℕ) → Pouring p to area-now row_now
      → start.place + length window < 2 ^ 64 → Within (length window) start.place p
  in_window p to area-now row_now f h = record { from = f.ahead; to = f.within; fits = h }

  module _ (p q : Progress) (to r : Laid) (area-now row_now area-next row_next : List ℕ)
      (f : Pouring p to area-now row_now) (a : Advances window start.place p q)
      (l : Lays window start.place p q to r area-now row_now area-next row_next)
      (h : p.place - start.place < length window)
      (decided : is_decided window (p.place - start.place) over ≡ true) where
    followed : (log : List ℕ) (k : ℕ) → Stands log start.place window over → start ≡ progress_of (scan_to log k)
        → PoursOn log k q r area row area-next row_next
    unfolding scan_to
    followed log k st is =
        let g = f.follows log k st is in
        let n = g.steps in
        let s = scan_to log n in
        let next = step_in_lem log window over start.place st p q n f.ahead decided g.is a in
        let same = part_in log window over start.place st p q (between p q to area-now row_now f a h) in
        let more = part log p q in
        let bytes : (scan_to log (suc n)).kept ≡ s.kept ++ more =
        adds_part log s (move_in log s) ∙ rw (g.is, next) refl in
        let cells : stretches_ended (scan_to log (suc n)) ≡ stretches_ended s ++ ended p q =
        adds_ended log s (split_to log n).apart (move_in log s) refl ∙ rw (g.is, next) refl in
        let first : start.place ≡ (scan_to log k).place = ap (λ (x : Progress). x.place) is in
        let here : p.place ≡ s.place = ap (λ (x : Progress). x.place) g.is in
        let there : q.place ≡ (scan_to log (suc n)).place = ap (λ (x : Progress). x.place) next in
        let on : s.place ≤ (scan_to log (suc n)).place = omega (arith, a.ahead (omega (arith, f.ahead))) in
        let low : (scan_to log k).place ≤ s.place = omega (arith, f.ahead) in
        let bytes_low : length more ≤ (scan_to log (suc n)).place - s.place =
        rw (g.is, next) (part_few log s (move_in log s) refl) in
        let cells_low : length (ended p q) ≤ (scan_to log (suc n)).place - s.place =
        rw (g.is, next) (ended_few log s (move_in log s) refl) in
        record {
          steps = suc n;
          is = next;
          bytes = g.bytes ++ more;
          bytes_few = omega (arith, length-append g.bytes more, g.bytes_few, bytes_low, on, low);
          kept_is = bytes ∙ ap (λ x. x ++ more) g.kept_is ∙ append_assoc (scan_to log k).kept g.bytes more;
          area_is = puts_then (page area 0) g.bytes more g.area_is (rw same at l.area_is);
          cells = g.cells ++ ended p q;
          cells_few = omega (arith, length-append g.cells (ended p q), g.cells_few, cells_low, on, low);
          ended_is = cells ∙ ap (λ x. x ++ ended p q) g.ended_is
              ∙ append_assoc (stretches_ended (scan_to log k)) g.cells (ended p q);
          row_is = puts_then (page row 0) g.cells (ended p q) g.row_is l.row_is;
        }

    area_long : length area-next ≡ length area-now
    area_long = ap (λ (g : Page). length g.row) l.area_is ∙ puts_length _ (page area-now to.at)

    row_long : length row_next ≡ length row_now
    row_long = ap (λ (g : Page). length g.row) l.row_is ∙ puts_length _ (page row_now to.cells)

    pub laid_on : Pouring q r area-next row_next
    laid_on =
        let at = ap (λ (g : Page). g.at) l.area_is in
        let cells = ap (λ (g : Page). g.at) l.row_is in
        record {
          counts = a.counts;
          ahead = omega (arith, f.ahead, a.ahead (omega (arith, f.ahead)));
          within = a.within;
          area_size = area_long ∙ f.area_size;
          row_size = row_long ∙ f.row_size;
          at_low = rw (area_long, at) (puts_low _ (page area-now to.at) f.at_low);
          cells_low = rw (row_long, cells) (puts_low _ (page row_now to.cells) f.cells_low);
          follows = followed;
        }

  -- where the loop ends, the window decides no more
  pub poured : (p : Progress) (to : Laid) (area-now row_now : List ℕ) → Pouring p to area-now row_now
      → start.place + length window < p.place + longest_notice
      → (over ≡ true → p.place ≡ start.place + length window)
      → Pours window over start (record { progress = p; to = to }) area row area-now row_now
  poured p to area-now row_now f few all =
      record {
        counts = f.counts;
        ahead = f.ahead;
        within = f.within;
        few = few;
        at_low = f.at_low;
        cells_low = f.cells_low;
        all = all;
        follows = f.follows;
      }

  pub at_end : (p : Progress) (to : Laid) (area-now row_now : List ℕ) → Pouring p to area-now row_now
      → length window ≤ p.place - start.place
      → Pours window over start (record { progress = p; to = to }) area row area-now row_now
  unfolding table start_of span_of
  at_end p to area-now row_now f h =
      poured p to area-now row_now f (omega (arith, f.ahead)) (λ _. omega (arith, f.ahead, f.within))

  pub undecided : (p : Progress) (to : Laid) (area-now row_now : List ℕ) → Pouring p to area-now row_now
      → is_decided window (p.place - start.place) over ≡ false
      → Pours window over start (record { progress = p; to = to }) area row area-now row_now
  undecided p to area-now row_now f none =
      let few = few_left over window (p.place - start.place) none in
      poured p to area-now row_now f (omega (arith, f.ahead, few))
      (λ q. false_true (sym none ∙ rw q (at_end_decided window (p.place - start.place))))

-- ---- all of a log

whole_log : (log : List ℕ) → Stands log 0 log true
whole_log log =
    record { before = []; later = []; is = sym (append-nil log); there = refl; last = λ _. refl }

-- a scan that came to the end of its log is the log's
at_log_end : (log : List ℕ) (k : ℕ) (q : Progress) → q ≡ progress_of (scan_to log k) → length log ≤ q.place
    → scan_to log k ≡ scan_of log
at_log_end log k q is h =
    let place : q.place ≡ (scan_to log k).place = ap (λ (q : Progress). q.place) is in
    through.all_scanned log k (omega arith)

-- what was counted meanwhile is what is counted of it
pub all_measured : (log area row : List ℕ) (p : Progress) (r : Poured) (area-now row_now : List ℕ)
    → p ≡ fresh_progress → Pours log true p r area row area-now row_now
    → r.progress ≡ progress_of (scan_of log)
unfolding scan_to
all_measured log area row p r area-now row_now new f =
    let begins = fresh_place p new in
    let g = f.follows log 0 (rw begins (whole_log log)) new in
    g.is ∙ ap progress_of (at_log_end log g.steps r.progress g.is (omega (arith, f.all refl)))

-- both hold the scan's, with the stretch that ends at the log's end
pub all_laid : (log area row : List ℕ) (p : Progress) (r : Poured) (area-now row_now row_next : List ℕ) (behind : ℕ)
    → p ≡ fresh_progress → Pours log true p r area row area-now row_now
    → page row_next behind ≡ puts (page row_now r.to.cells) (ending_stretch r.progress)
    → Fills (scan_of log) area row area-now row_next
unfolding scan_to flat
all_laid log area row p r area-now row_now row_next behind new f last =
    let begins = fresh_place p new in
    let g = f.follows log 0 (rw begins (whole_log log)) new in
    let s = scan_to log g.steps in
    let all : s ≡ scan_of log = at_log_end log g.steps r.progress g.is (omega (arith, f.all refl)) in
    let cells = puts_then (page row 0) g.cells (ending_stretch r.progress) g.row_is last in
    let ends : g.cells ++ ending_stretch r.progress ≡ flat s.skipped =
    ap (λ x. x ++ ending_stretch r.progress) (sym g.ended_is) ∙ rw g.is (with_open s) in
    record {
      area_is = ap (λ (g : Page). g.row) g.area_is
          ∙ ap (λ x. (puts (page area 0) x).row) (sym g.kept_is ∙ rw all refl);
      row_is = ap (λ (g : Page). g.row) cells ∙ ap (λ x. (puts (page row 0) x).row) (ends ∙ rw all refl);
    }
