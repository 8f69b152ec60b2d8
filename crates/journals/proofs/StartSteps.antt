-- A start goes on through what it sees: each step passes a byte at least or ends it, and its counts stay below its place. So after a step for
-- each byte, and one more, all that is decided is done.
-- Rests on a notice lying before its end, within what is seen.
use mathlib.Core.Path.{◌≡◌, refl, sym, ap, ◌∙◌}
use mathlib.Core.Bool.{Bool, true, false}
use mathlib.Core.Logic.{◌⊎◌, inl, inr, ⊎_elim}
use mathlib.Core.List.{List}
use Prim.Native.Nat.{ℕ, zero, suc, ◌+◌, ◌-◌, ◌≤◌, ◌<◌, ◌^◌}
use native.Mathlib.Nat.{add-zero, zero-add, add-suc}
use native.Mathlib.Omega.{arith}
use lib.Dec.{eqb, leb, ltb}
use lib.ListN.{length}
use Rattle.rules.specs.Limits.{both}
use Rattle.rules.specs.Refusals.{pick}
use Rattle.rules.proofs.Tests.{both_l, both_r}
use Rattle.notice_fields.proofs.Each.{same_order}
use borrow.Author.Tests.{leb-true}
use Rattle.notice.specs.declared.Reading.{Reading}
use Rattle.notice.specs.declared.Found.{Found}
use Rattle.notice.specs.declared.Found.TheVariants as found
use Rattle.notice.specs.Decode.{read_at}
use Rattle.notice.proofs.CaseSplits.{false_true}
use Rattle.notice.proofs.NoticePlaces.{inside}
use Rattle.journals.specs.declared.Start.{Start}
use Rattle.journals.specs.declared.Verdict.{Verdict}
use Rattle.journals.specs.declared.Verdict.TheVariants.{Heard, Torn, NoNotice, SumDiffers, Refused, SumsShort}
use Rattle.journals.specs.Torn.{is_torn, had_kind}
use Rattle.journals.specs.Start.{block_events, is_going, ended_with, heard_one, passed_one, has_sum, after_summed, after_unsummed, at_stop}
use Rattle.journals.specs.Rows.{is_counted}
use Rattle.journals.specs.Start.{Hearer, Stage, stage, View, sum_at, is_ready_at, is_ready, notice_done, done_at, step_at, step_in, steps_in, hears_in}

-- ---- one step

-- no count is larger than the place
pub record Counted (s : Start) : Type 0 where
  pub heard_low : s.heard ≤ s.place
  pub behind_low : s.behind ≤ s.place

-- a step of at most so many bytes: it moves ahead, or ends the start
pub record Ahead (s t : Start) (room : ℕ) : Type 0 where
  pub from : s.place ≤ t.place
  pub to : t.place ≤ s.place + room
  pub heard_on : s.heard ≤ t.heard
  pub sums_stay : t.sums ≡ s.sums
  pub counted : Counted t
  pub onward : (is_going t.verdict ≡ false) ⊎ (s.place < t.place)

module _ (s : Start) (room : ℕ) (c : Counted s) where
  ended_ahead : (v : Verdict) → is_going v ≡ false → Ahead s (ended_with s v) room
  ended_ahead v over =
      record {
        from = omega arith;
        to = omega arith;
        heard_on = omega arith;
        sums_stay = refl;
        counted = record { heard_low = c.heard_low; behind_low = c.behind_low };
        onward = inl over;
      }

  heard_ahead : (n : ℕ) → 0 < n → n ≤ room → Ahead s (heard_one s n) room
  heard_ahead n some low =
      record {
        from = omega arith;
        to = omega arith;
        heard_on = omega arith;
        sums_stay = refl;
        counted = record { heard_low = omega (arith, c.heard_low); behind_low = omega (arith, c.behind_low) };
        onward = inr (omega arith);
      }

  passed_ahead : (n : ℕ) → 0 < n → n ≤ room → Ahead s (passed_one s n) room
  passed_ahead n some low =
      record {
        from = omega arith;
        to = omega arith;
        heard_on = omega arith;
        sums_stay = refl;
        counted = record { heard_low = omega (arith, c.heard_low); behind_low = omega (arith, c.behind_low) };
        onward = inr (omega arith);
      }

  picked : (b : Bool) (x y : Start) → Ahead s x room → Ahead s y room → Ahead s (pick b x y) room
  picked true x y p q = p
  picked false x y p q = q

  summed_ahead : (n a : ℕ) (same : Bool) → 0 < n → n ≤ room → Ahead s (after_summed s n same a) room
  unfolding after_summed
  summed_ahead n a same some low =
      picked same (pick (eqb a 0) (heard_one s n) (ended_with s (Refused a))) (ended_with s SumDiffers)
      (picked (eqb a 0) (heard_one s n) (ended_with s (Refused a)) (heard_ahead n some low) (ended_ahead (Refused a) refl))
      (ended_ahead SumDiffers refl)

  unsummed_ahead : (n : ℕ) → 0 < n → n ≤ room → Ahead s (after_unsummed s n) room
  unfolding after_unsummed
  unsummed_ahead n some low =
      picked (ltb s.behind block_events) (passed_one s n) (ended_with s SumsShort) (passed_ahead n some low) (ended_ahead SumsShort refl)

-- bytes that are no whole notice end it
pub stop_ends : (s : Start) (rest : List ℕ) (sum : ℕ) → is_going (at_stop s rest sum) ≡ false
unfolding at_stop
stop_ends s rest sum = go (is_torn rest) (both (has_sum s) (had_kind rest sum))
  where
    go : (t k : Bool) → is_going (pick t (pick k SumDiffers Torn) NoNotice) ≡ false
    go true true = refl
    go true false = refl
    go false k = refl

module _ {A : Type 0} (h : Hearer A) where
  notice_ahead : (x : Stage A) (room n : ℕ) (same : Bool) (q : Reading) → Counted x.start → 0 < n → n ≤ room
      → Ahead x.start (notice_done h n same x q).start room
  unfolding notice_done
  notice_ahead x room n same q c some low = go (has_sum x.start)
    where
      go : (b : Bool) → Ahead x.start
          (pick b
          (stage (after_summed x.start n same (h.answer x.hearer q)) (pick same (h.after x.hearer q) x.hearer))
          (stage (after_unsummed x.start n) x.hearer)).start room
      go true = summed_ahead x.start room c n (h.answer x.hearer q) same some low
      go false = unsummed_ahead x.start room c n some low

  pub step_ahead : (bs : List ℕ) (sum : ℕ) (x : Stage A) (p : ℕ) → Counted x.start
      → Ahead x.start (step_at h bs sum x p).start (length bs - p)
  unfolding done_at
  step_ahead bs sum x p c = go (read_at bs p) refl
    where
      go : (f : Found) → read_at bs p ≡ f → Ahead x.start (done_at h bs sum x p f).start (length bs - p)
      go (found.At n e) is =
          let i = inside bs p n e is in
          notice_ahead x (length bs - p) (e - p) _ _ c (omega (arith, i.ahead)) (omega (arith, i.within))
      go found.End is = ended_ahead x.start (length bs - p) c Heard refl
      go found.Malformed is = ended_ahead x.start (length bs - p) c _ (stop_ends x.start _ sum)

-- ---- many steps

-- what is left to do at most
abbrev pub left : ℕ → ℕ → Start → ℕ
left first size s = pick (is_going s.verdict) (suc (first + size - s.place)) 0

pub falls : (first size room : ℕ) (s t : Start) → is_going s.verdict ≡ true → s.place + room ≤ first + size → Ahead s t room
    → left first size t < left first size s
falls first size room s t going fits a =
    rw going (⊎_elim (λ over. rw over (omega arith)) (λ far. go (is_going t.verdict) far) a.onward)
  where
    go : (b : Bool) → s.place < t.place → pick b (suc (first + size - t.place)) 0 < suc (first + size - s.place)
    go true far = omega (arith, a.to)
    go false far = omega arith

module _ {A : Type 0} (h : Hearer A) (v : View) (x₀ : Stage A) where
  -- how far the steps over what is seen have come
  pub record Along (x : Stage A) : Type 0 where
    pub steps : ℕ
    pub is : x ≡ steps_in h v x₀ steps
    pub from : v.first ≤ x.start.place
    pub to : x.start.place ≤ v.first + length v.journal
    pub known : v.known ≤ x.start.heard
    pub sums_stay : x.start.sums ≡ x₀.start.sums
    pub counted : Counted x.start
    pub few : steps + left v.first (length v.journal) x.start ≤ suc (length v.journal)

  picked_low : (b : Bool) (n m : ℕ) → n ≤ m → pick b n 0 ≤ m
  picked_low true n m l = l
  picked_low false n m l = omega arith

  pub set_out : v.first ≡ x₀.start.place → v.known ≡ x₀.start.heard → Counted x₀.start → Along x₀
  unfolding steps_in
  set_out first known c =
      record {
        steps = 0;
        is = refl;
        from = omega (arith, first);
        to = omega (arith, first);
        known = omega (arith, known);
        sums_stay = refl;
        counted = c;
        few = rw zero-add (picked_low (is_going x₀.start.verdict) _ _ (omega (arith, first)));
      }

  -- what is decided is going on
  pub ready_goes : (s : Start) → is_ready v s ≡ true → is_going s.verdict ≡ true
  unfolding is_ready_at
  ready_goes s r = both_l _ _ (both_l _ _ r)

  pub one_on : (x y : Stage A) → Along x → is_ready v x.start ≡ true → y ≡ step_in h v x → Along y
  unfolding steps_in
  one_on x y a ready e =
      let went = step_ahead h v.journal _ x (x.start.place - v.first) a.counted in
      let on : Ahead x.start y.start (length v.journal - (x.start.place - v.first)) = rw e went in
      let less = falls v.first (length v.journal) (length v.journal - (x.start.place - v.first)) x.start y.start
      (ready_goes x.start ready) (omega (arith, a.from, a.to)) on in
      record {
        steps = suc a.steps;
        is = e ∙ (ap (step_in h v) a.is ∙ sym (rw (← a.is, ready) refl));
        from = omega (arith, a.from, on.from);
        to = omega (arith, a.from, a.to, on.to);
        known = omega (arith, a.known, on.heard_on);
        sums_stay = on.sums_stay ∙ a.sums_stay;
        counted = on.counted;
        few = omega (arith, a.few, less);
      }

  -- the same of a step of the code, with the sum that it found
  pub turn_on : (x y : Stage A) (sum : ℕ) → Along x → is_ready v x.start ≡ true → sum ≡ sum_at v.sums (x.start.heard - v.known)
      → y ≡ step_at h v.journal sum x (x.start.place - v.first) → Along y
  turn_on x y sum a ready found e =
      one_on x y a ready (e ∙ ap (λ (m : ℕ). step_at h v.journal m x (x.start.place - v.first)) found)

  pub turn_less : (x y : Stage A) (sum : ℕ) → Along x → is_ready v x.start ≡ true
      → y ≡ step_at h v.journal sum x (x.start.place - v.first)
      → left v.first (length v.journal) y.start < left v.first (length v.journal) x.start
  turn_less x y sum a ready e =
      falls v.first (length v.journal) (length v.journal - (x.start.place - v.first)) x.start y.start
      (ready_goes x.start ready) (omega (arith, a.from, a.to))
      (rw e (step_ahead h v.journal sum x (x.start.place - v.first) a.counted))

  -- any number of steps
  pub steps_along : Along x₀ → (n : ℕ) → Along (steps_in h v x₀ n)
  unfolding steps_in
  steps_along a zero = a
  steps_along a (suc n) = go (steps_along a n) (is_ready v (steps_in h v x₀ n).start) refl
    where
      go : Along (steps_in h v x₀ n) → (b : Bool) → is_ready v (steps_in h v x₀ n).start ≡ b
          → Along (pick b (step_in h v (steps_in h v x₀ n)) (steps_in h v x₀ n))
      go before true ready = one_on (steps_in h v x₀ n) (step_in h v (steps_in h v x₀ n)) before ready refl
      go before false none = before

  -- after n steps nothing more is decided, or they have used up n of what there was to do
  none_left : (b : Bool) (n m k : ℕ) → suc m + pick b (suc n) 0 ≤ suc k → m ≡ k → b ≡ false
  none_left true n m k low e = absurd (omega (arith, low, e))
  none_left false n m k low e = refl

  used_up : Along x₀ → (n : ℕ) → (is_ready v (steps_in h v x₀ n).start ≡ false)
      ⊎ (n + left v.first (length v.journal) (steps_in h v x₀ n).start ≤ suc (length v.journal))
  unfolding steps_in
  used_up a zero = inr (omega (arith, a.few))
  used_up a (suc n) = go (steps_along a n) (used_up a n) (is_ready v (steps_in h v x₀ n).start) refl
    where
      go : Along (steps_in h v x₀ n)
          → (is_ready v (steps_in h v x₀ n).start ≡ false)
          ⊎ (n + left v.first (length v.journal) (steps_in h v x₀ n).start ≤ suc (length v.journal))
          → (b : Bool) → is_ready v (steps_in h v x₀ n).start ≡ b
          → (is_ready v (pick b (step_in h v (steps_in h v x₀ n)) (steps_in h v x₀ n)).start ≡ false)
          ⊎ (suc n + left v.first (length v.journal) (pick b (step_in h v (steps_in h v x₀ n)) (steps_in h v x₀ n)).start ≤ suc (length v.journal))
      go on before false none = inl none
      go on before true ready =
          let less = turn_less (steps_in h v x₀ n) (step_in h v (steps_in h v x₀ n)) _ on ready refl in
          ⊎_elim (λ none. false_true (sym none ∙ ready)) (λ few. inr (omega (arith, few, less))) before

  -- so in the end nothing more is decided
  pub ends : Along x₀ → is_ready v (hears_in h v x₀).start ≡ false
  ends a =
      ⊎_elim (λ none. none)
      (λ few. go (is_ready v (hears_in h v x₀).start) refl
      (none_left (is_going (hears_in h v x₀).start.verdict) _ (length v.journal) (length v.journal) few refl))
      (used_up a (suc (length v.journal)))
    where
      go : (b : Bool) → is_ready v (hears_in h v x₀).start ≡ b → is_going (hears_in h v x₀).start.verdict ≡ false → b ≡ false
      go true ready over = false_true (sym over ∙ ready_goes (hears_in h v x₀).start ready)
      go false none over = refl

  -- once nothing more is decided more steps change nothing
  still : (n d : ℕ) → is_ready v (steps_in h v x₀ n).start ≡ false → steps_in h v x₀ (n + d) ≡ steps_in h v x₀ n
  unfolding steps_in
  still n zero none = rw add-zero
  still n (suc d) none =
      let before = still n d none in
      rw (add-suc, before, none)

  pub all_heard : (x : Stage A) → Along x → is_ready v x.start ≡ false → x ≡ hears_in h v x₀
  all_heard x a none =
      let more : a.steps + (suc (length v.journal) - a.steps) ≡ suc (length v.journal) = omega (arith, a.few) in
      let same = still a.steps (suc (length v.journal) - a.steps) (rw a.is at none) in
      a.is ∙ sym (rw more at same)

-- ---- the numbers of a start

pub counted_is : (s : Start) (n : ℕ) → is_counted s n ≡ true → Counted s
unfolding is_counted
counted_is s n ok =
    let low = both_l (both (leb s.heard s.place) (leb s.behind s.place)) _ ok in
    record { heard_low = leb-true _ _ (both_l _ _ low); behind_low = leb-true _ _ (both_r (leb s.heard s.place) _ low) }

pub counted_fits : (s : Start) (n : ℕ) → is_counted s n ≡ true → s.place + n < 2 ^ 64
unfolding is_counted
counted_fits s n ok =
    let low = leb-true (s.place + n) (2 ^ 64 - 1) (both_r (both (leb s.heard s.place) (leb s.behind s.place)) _ ok) in
    omega (arith, low)

-- what is left of 64 bits holds the place where both are below
pub room_test : (p n : ℕ) → n < 2 ^ 64 → leb p (2 ^ 64 - 1 - n) ≡ leb (p + n) (2 ^ 64 - 1)
room_test p n fits = same_order p (2 ^ 64 - 1 - n) (p + n) (2 ^ 64 - 1) (λ le. omega arith) (λ lt. omega arith)
