-- A journal and its sums that come in windows are played as the whole files are: each step over a window that decides it is the step over the
-- files, so windows played until the start has ended leave what the definition says of the files.
-- Rests on places that are decided being read alike, and on steps going on.
use mathlib.Core.Path.{◌≡◌, refl, sym, ap, ◌∙◌}
use mathlib.Core.Bool.{Bool, true, false}
use mathlib.Core.Logic.{⊎_elim}
use mathlib.Core.List.{List, ◌++◌, append-nil}
use Prim.Native.Nat.{ℕ, zero, suc, ◌+◌, ◌*◌, ◌-◌, ◌/◌, ◌≤◌, ◌<◌}
use native.Mathlib.Nat.{add_assoc}
use native.Mathlib.Omega.{arith}
use lib.Dec.{eqb, leb, ltb}
use lib.ListN.{length, drop, length-append, length-drop, get_or-append}
use lib.Seq.{drop-append-add, drop-append-le, take-append-le, get_or-append-add}
use borrow.Author.Tests.{lt-ltb, le-ltb, lt-leb, le-leb, leb-true, ltb-true}
use Rattle.rules.specs.Limits.{both, either}
use Rattle.rules.specs.Refusals.{pick}
use Rattle.rules.proofs.Tests.{both_l, both_r, decide}
use Rattle.sums.specs.Crc.{sum_of}
use Rattle.notice_fields.specs.Fields.{table, span_of, start_of, length_of}
use Rattle.notice_fields.specs.Numbers.{number_at}
use Rattle.notice_fields.proofs.Each.{by_order}
use Rattle.notice.specs.declared.Reading.{Reading}
use Rattle.notice.specs.declared.Reading.TheVariants as reading
use Rattle.notice.specs.declared.Found.{Found}
use Rattle.notice.specs.declared.Found.TheVariants as found
use Rattle.notice.specs.Decode.{read_at, further}
use Rattle.notice.specs.Window.{is_decided, Seen}
use Rattle.notice.proofs.NoticePlaces.{inside}
use Rattle.notice.proofs.Windows.{seen_reads, few_left, at_end_decided}
use Rattle.journals.specs.declared.Start.{Start}
use Rattle.journals.specs.declared.Verdict.TheVariants.{NoNotice}
use Rattle.journals.specs.Torn.{kind_begun, is_torn}
use Rattle.journals.specs.Start.{sum_bytes, is_going, ended_with, has_sum, at_stop}
use Rattle.journals.specs.Start.{Hearer, Stage, stage, View, view, sum_at, is_far, is_ready_at, is_ready, part_of, notice_done, done_at, step_in, steps_in, hears_in}
use Rattle.journals.specs.Windows.{Part, Lent, InWindows, no_window, next_window}
use Rattle.journals.proofs.Endings.{longest}
use Rattle.journals.proofs.StartSteps.{Counted, Along, set_out, ready_goes, one_on, steps_along, all_heard}

-- ---- what a part of a file has

-- the bytes from a place of a part on, up to another
pub part_bytes : (before bs later : List ℕ) (p e : ℕ) → e ≤ length bs
    → part_of (before ++ (bs ++ later)) (length before + p) (length before + e) ≡ part_of bs p e
part_bytes before bs later p e low =
    let size : length before + e - (length before + p) ≡ e - p = omega arith in
    rw (size, drop-append-add before (bs ++ later) p)
    (by_order e p
    (λ lt. let none : e - p ≡ 0 = omega arith in rw none)
    (λ le.
    rw (drop-append-le p bs later (omega arith))
    (take-append-le (e - p) (drop p bs) later (rw (length-drop p bs) (omega arith)))))

number_part : (before bs later : List ℕ) (at n : ℕ) → at + n ≤ length bs
    → number_at (before ++ (bs ++ later)) (length before + at) n ≡ number_at bs at n
unfolding number_at
number_part before bs later at zero low = refl
number_part before bs later at (suc n) low =
    rw (
      number_part before bs later at n (omega arith),
      add_assoc (length before) at n,
      get_or-append-add before (bs ++ later) (at + n) 0,
      get_or-append bs later 0 (at + n) (omega arith),
    )

-- so many whole sums
four : (n k : ℕ) → k < n / 4 → k * 4 + 4 ≤ n
four n k lt = omega arith

four_on : (b n m k : ℕ) → k < n / 4 → b + k < (b * 4 + (n + m)) / 4
four_on b n m k lt = omega arith

pub sum_part : (file bs : List ℕ) (b k : ℕ) → Part file bs (b * sum_bytes) → k < length bs / sum_bytes → sum_at file (b + k) ≡ sum_at bs k
sum_part file bs b k part lt =
    let fits = four (length bs) k lt in
    let long : length file ≡ b * 4 + (length bs + length part.later) =
    ap length part.is
    ∙ (length-append part.before (bs ++ part.later) ∙ omega (arith, length-append bs part.later, part.there)) in
    let more : b + k < length file / 4 = rw long (four_on b (length bs) (length part.later) k lt) in
    let place : (b + k) * 4 ≡ length part.before + k * 4 = omega (arith, part.there) in
    rw (lt-ltb (b + k) (length file / 4) more, lt-ltb k (length bs / 4) lt, place, part.is)
    (number_part part.before bs part.later (k * 4) 4 fits)

-- ---- one step

-- the whole files decide every step of a start that goes on
order_either : (m n : ℕ) → either (leb m n) (ltb n m) ≡ true
order_either m n = by_order n m (λ lt. rw (lt-ltb n m lt, lt-leb m n lt)) (λ le. rw (le-leb m n le))

pub whole_ready : (j s : List ℕ) (t : Start) → t.sums ≡ length s / sum_bytes → is_going t.verdict ≡ true → is_ready (view j s 0 0 true) t ≡ true
unfolding is_ready_at is_far
whole_ready j s t sums going =
    let at : t.heard - 0 ≡ t.heard = omega arith in
    rw (going, at, ← sums) (order_either t.sums t.heard)

pub none_ready : (v : View) (t : Start) → is_going t.verdict ≡ false → is_ready v t ≡ false
unfolding is_ready_at
none_ready v t over = rw over refl

-- as many bytes as the longest notice has are not torn
long_whole : (rest : List ℕ) → 45 ≤ length rest → is_torn rest ≡ false
unfolding is_torn
long_whole rest long = rw (le-ltb (length rest) (length_of (kind_begun rest)) (omega (arith, long, longest (kind_begun rest))))

long_stop : (t : Start) (rest : List ℕ) (sum : ℕ) → 45 ≤ length rest → at_stop t rest sum ≡ NoNotice
unfolding at_stop
long_stop t rest sum long = rw (long_whole rest long)

-- a sum is looked at only where there is one
same_stop : (t : Start) (rest : List ℕ) (m n : ℕ) → (has_sum t ≡ true → m ≡ n) → at_stop t rest m ≡ at_stop t rest n
unfolding at_stop
same_stop t rest m n same = ⊎_elim (λ has. rw (same has)) (λ none. rw none) (decide (has_sum t))

same_notice : {A : Type 0} (h : Hearer A) (x : Stage A) (n total k m : ℕ) (q : Reading) → (has_sum x.start ≡ true → k ≡ m)
    → notice_done h n (eqb total k) x q ≡ notice_done h n (eqb total m) x q
unfolding notice_done
same_notice h x n total k m q same = ⊎_elim (λ has. rw (same has)) (λ none. rw none) (decide (has_sum x.start))

far_left : (over : Bool) (p size : ℕ) → over ≡ false → is_far size p over ≡ true → p + 45 ≤ size
unfolding is_far table start_of span_of
far_left over p size is d = leb-true (p + 45) size (rw is at d)

-- what is far from the end is decided: what is not decided is shorter than the longest notice
far_decided : (over : Bool) (w : List ℕ) (p : ℕ) → is_far (length w) p over ≡ true → is_decided w p over ≡ true
unfolding table start_of span_of
far_decided true w p d = at_end_decided w p
far_decided false w p d =
    ⊎_elim (λ yes. yes) (λ no. absurd (omega (arith, few_left false w p no, far_left false p (length w) refl d))) (decide (is_decided w p false))

module _ {A : Type 0} (h : Hearer A) (j s : List ℕ) (t₀ : Start) (w beside : List ℕ) (over : Bool) (l : Lent j s t₀ w beside over) where
  abbrev seen : View
  seen = view w beside t₀.place t₀.heard over

  module _ (x : Stage A) (from : t₀.place ≤ x.start.place) (known : t₀.heard ≤ x.start.heard) (ready : is_ready seen x.start ≡ true) where
    abbrev p : ℕ
    p = x.start.place - t₀.place

    abbrev sum_seen : ℕ
    sum_seen = sum_at beside (x.start.heard - t₀.heard)

    abbrev sum_whole : ℕ
    sum_whole = sum_at s (x.start.heard - 0)

    far_off : is_far (length w) p over ≡ true
    unfolding is_ready_at
    far_off = both_r (is_going x.start.verdict) _ (both_l _ _ ready)

    place_is : x.start.place - 0 ≡ length l.bytes.before + p
    place_is = omega (arith, from, l.bytes.there)

    same_sum : has_sum x.start ≡ true → sum_seen ≡ sum_whole
    unfolding is_ready_at
    same_sum has =
        let test = both_r (both (is_going x.start.verdict) (is_far (length w) p over)) _ ready in
        let less : x.start.heard < x.start.sums = ltb-true _ _ has in
        let here : ltb (x.start.heard - t₀.heard) (length beside / sum_bytes) ≡ true = rw (lt-leb _ _ less) at test in
        let sums = sum_part s beside t₀.heard (x.start.heard - t₀.heard) l.summed (ltb-true _ _ here) in
        let at : t₀.heard + (x.start.heard - t₀.heard) ≡ x.start.heard - 0 = omega (arith, known) in
        sym (rw at at sums)

    same_rest : over ≡ true → drop (x.start.place - 0) j ≡ drop p w
    same_rest is =
        rw (place_is, l.bytes.is, drop-append-add l.bytes.before (w ++ l.bytes.later) p, l.ended is, append-nil w)

    -- with more to come the place has a longest notice's bytes behind it
    more_left : over ≡ false → (45 ≤ length (drop p w)) × (45 ≤ length (drop (x.start.place - 0) j))
    more_left is =
        let far : p + 45 ≤ length w = far_left over p (length w) is far_off in
        let size : length j ≡ length l.bytes.before + (length w + length l.bytes.later) =
        ap length l.bytes.is
        ∙ (length-append l.bytes.before (w ++ l.bytes.later) ∙ ap (λ (n : ℕ). length l.bytes.before + n) (length-append w l.bytes.later)) in
        (rw (length-drop p w) (omega arith), rw (length-drop (x.start.place - 0) j) (omega (arith, size, place_is)))

    same_end : stage (ended_with x.start (at_stop x.start (drop p w) sum_seen)) x.hearer
        ≡ stage (ended_with x.start (at_stop x.start (drop (x.start.place - 0) j) sum_whole)) x.hearer
    same_end =
        ⊎_elim (λ is. rw (same_rest is, same_stop x.start (drop p w) sum_seen sum_whole same_sum))
        (λ is. rw (long_stop x.start (drop p w) sum_seen (more_left is).0, long_stop x.start (drop (x.start.place - 0) j) sum_whole (more_left is).1))
        (decide over)

    pub same_step : step_in h seen x ≡ step_in h (view j s 0 0 true) x
    unfolding done_at
    same_step = rw (seen_reads j w (x.start.place - 0) p place_seen) (go (read_at w p) refl)
      where
        place_seen : Seen j (x.start.place - 0) w p
        place_seen =
            record {
              before = l.bytes.before;
              later = l.bytes.later;
              over = over;
              is = l.bytes.is;
              there = place_is;
              ended = l.ended;
              decided = far_decided over w p far_off;
            }

        go : (f : Found) → read_at w p ≡ f
            → done_at h w sum_seen x p f ≡ done_at h j sum_whole x (x.start.place - 0) (further (length l.bytes.before) f)
        go (found.At n e) is =
            let i = inside w p n e is in
            let size : length l.bytes.before + e - (x.start.place - 0) ≡ e - p = omega (arith, place_is) in
            let bytes : part_of j (x.start.place - 0) (length l.bytes.before + e) ≡ part_of w p e =
            rw (place_is, l.bytes.is) (part_bytes l.bytes.before w l.bytes.later p e i.within) in
            rw (bytes, size) (same_notice h x (e - p) (sum_of (part_of w p e)) sum_seen sum_whole (reading.Whole n) same_sum)
        go found.End is = refl
        go found.Malformed is = same_end

-- ---- windows one after the other

abbrev lent_to : {A : Type 0} → Stage A → List ℕ → List ℕ → Bool → View
lent_to x w beside over = view w beside x.start.place x.start.heard over

module _ {A : Type 0} (h : Hearer A) (j s : List ℕ) (x₀ : Stage A) (sums : x₀.start.sums ≡ length s / sum_bytes) where
  window_along : (x : Stage A) (w beside : List ℕ) (over : Bool) → Along h (view j s 0 0 true) x₀ x → Lent j s x.start w beside over
      → (n : ℕ) → Along h (view j s 0 0 true) x₀ (steps_in h (lent_to x w beside over) x n)
  unfolding steps_in
  window_along x w beside over a l zero = a
  window_along x w beside over a l (suc n) =
      go (steps_in h (lent_to x w beside over) x n) (steps_along h (lent_to x w beside over) x (set_out h (lent_to x w beside over) x refl refl a.counted) n)
      (window_along x w beside over a l n) (is_ready (lent_to x w beside over) (steps_in h (lent_to x w beside over) x n).start) refl
    where
      go : (y : Stage A) → Along h (lent_to x w beside over) x y → Along h (view j s 0 0 true) x₀ y
          → (b : Bool) → is_ready (lent_to x w beside over) y.start ≡ b
          → Along h (view j s 0 0 true) x₀ (pick b (step_in h (lent_to x w beside over) y) y)
      go y on before true ready =
          one_on h (view j s 0 0 true) x₀ y (step_in h (lent_to x w beside over) y) before
          (whole_ready j s y.start (before.sums_stay ∙ sums) (ready_goes h (lent_to x w beside over) x y.start ready))
          (same_step h j s x.start w beside over l y on.from on.known ready)
      go y on before false none = before

  pub run_along : x₀.start.place ≡ 0 → x₀.start.heard ≡ 0 → Counted x₀.start → (x : Stage A) → InWindows h j s x₀ x
      → Along h (view j s 0 0 true) x₀ x
  run_along place heard c x no_window = set_out h (view j s 0 0 true) x₀ (sym place) (sym heard) c
  run_along place heard c x (next_window {x = y} {window = w} {beside = beside} {over = over} run l) =
      window_along y w beside over (run_along place heard c y run) l (suc (length w))

  -- a start that has ended over windows is the start over the files
  pub run_whole : x₀.start.place ≡ 0 → x₀.start.heard ≡ 0 → Counted x₀.start → (x : Stage A) → InWindows h j s x₀ x
      → is_going x.start.verdict ≡ false → x ≡ hears_in h (view j s 0 0 true) x₀
  run_whole place heard c x run over =
      all_heard h (view j s 0 0 true) x₀ x (run_along place heard c x run) (none_ready (view j s 0 0 true) x.start over)
