-- A change, a close, a hold and a lift keep the stored numbers true: after it they tell the turned course. A close is a turn
-- to no lanes, a hold and a lift are turns to the same lanes, so one law serves all. Rests on `kept_owed_lem` and on the laws of rows,
-- clock and drops.
use mathlib.Core.Path.{◌≡◌, refl, sym, ap, ◌∙◌}
use mathlib.Core.Bool.{Bool, true, false}
use mathlib.Core.Logic.{◌⊎◌, inl, inr, ⊎_elim}
use mathlib.Core.List.{List}
use Prim.Native.Nat.{ℕ, suc, ◌+◌, ◌-◌, ◌%◌, ◌^◌, ◌≤◌, ◌<◌, min, max}
use native.Mathlib.Omega.{arith}
use native.Mathlib.Nat.{le_antisymm, div-le_self}
use lib.Dec.{ltb, leb, eqb}
use lib.ListN.{get_or, set, length, length-set}
use lib.Seq.{get_or-set_same, get_or-set_other}
use lib.Pow.{pow_mono}
use borrow.Author.Tests.{ltb-true, ltb-false, lt-ltb, le-ltb, le-leb, lt-leb, eqb-true, eqb-false, eq-eqb, ne_eqb}
use Rattle.rules.specs.Limits.{asked_max, event_time_max}
use Rattle.rules.specs.Refusals.{pick}
use Rattle.rules.specs.Search.{after}
use Rattle.rules.proofs.Tests.{decide, both_in, pick_true, pick_false}
use Rattle.rules.proofs.Search
use Rattle.scheme.specs.Scheme.{starts}
use Rattle.story.specs.declared.Title.{Title}
use Rattle.story.specs.Life.{Life, Course, is_active, dropped_at, is_owed, reach, owed_within, owes}
use Rattle.story.specs.Ruled.{Ruled}
use Rattle.story.proofs.Admissions.{Legal, admits, is_admitting, last_end, SameAt}
use Rattle.story.specs.Kept.{open_mode, closing_mode, held_mark, is_shut, tick_at, ruling, kept_owed}
use Rattle.story.specs.Kept.{kept_within, scheme_in, title_tick}
use Rattle.story.specs.Next.{ended, with_rows, turned, turned_title}
use Rattle.story.specs.Story.{turn}
use Rattle.story.proofs.Clock.{later_tick}
use Rattle.story.proofs.Held.{dropped_le, owes_local}
use Rattle.story.proofs.Stored.{life_in, kept_owed_lem, EndsAt}
use Rattle.story.proofs.Kept.{last_tick, drop_tick, Sized, Present, tick_some}
use Rattle.story.proofs.Rows.{filled, set_high, filled_length, filled_high, filled_in, filled_out}
use Rattle.story.proofs.Rows.{is_dropped, drop_rows}

-- ---- a turn, and the rows that it leaves

-- an open title on course r turns to q lanes at τ, and r' is its course then; what is stored of mode, count,
-- mark and latest opening or change becomes m, c, d and v
pub record Turning (t : Title) (r r' : Course) (τ q m c d v : ℕ) : Type 0 where
  pub here : Present t r
  pub is_open : t.mode ≡ open_mode
  pub later : t.last < τ
  pub limit : τ ≤ event_time_max
  pub on_tick : (τ - t.opened) % title_tick t ≡ 0
  pub low : 0 < q → t.film.floor ≤ q
  pub high : q ≤ t.film.cap
  pub at_slot : starts (scheme_in t) (max t.film.floor (min t.count q)) (tick_at t τ) ≡ true
  pub mode : (m ≡ open_mode) ⊎ (m ≡ closing_mode)
  pub count_low : t.film.floor ≤ c
  pub count_high : c ≤ t.film.cap
  pub mark_high : d ≤ held_mark
  pub tuned_high : v ≤ event_time_max
  pub rules : pick (eqb m open_mode) c 0 ≡ q
  pub before : (u : ℕ) → u < tick_at t τ → SameAt (life_in t r) r' u
  pub from : (u : ℕ) → tick_at t τ ≤ u → r'.rule u ≡ q
  pub doors : m ≡ open_mode → (u : ℕ) → tick_at t τ ≤ u → r'.shut u ≡ eqb d held_mark

-- the two rows of lanes after it
abbrev pub dropped_row : Title → ℕ → ℕ → List ℕ
dropped_row t n q = filled (is_dropped t q) (λ l. n) t.dropped t.count

abbrev pub owed_row : Title → ℕ → ℕ → List ℕ
owed_row t n q = filled (is_dropped t q) (λ l. kept_within (ended t n) l n (reach t.film.cap)) t.owed t.count

-- the same title, its rows laid open
abbrev pub laid : Title → ℕ → ℕ → ℕ → ℕ → ℕ → ℕ → Title
laid t τ q m c d v = turned (with_rows (ended t (tick_at t τ)) (dropped_row t (tick_at t τ) q) (owed_row t (tick_at t τ) q)) m c d τ v

pub turned_laid : (t : Title) (τ q m c d v : ℕ) → turned_title t τ q m c d v ≡ laid t τ q m c d v
turned_laid t τ q m c d v = ap (λ x. turned x m c d τ v) (drop_rows (ended t (tick_at t τ)) (tick_at t τ) q t.count)

-- a lane owes at most half as many cells as the film has, and so few enough to be stored
within_high : (t : Title) (l n : ℕ) → t.film.cap ≤ 42 → kept_within t l n (reach t.film.cap) ≤ asked_max
unfolding kept_within reach
within_high t l n small =
    let p : 2 ^ (t.film.cap - 1) ≤ 2 ^ 41 = pow_mono {i = t.film.cap - 1} {j = 41} (omega arith) in
    omega (arith, Search.how_many_le (λ o. kept_owed t l (n + o)) (2 ^ (t.film.cap - 1)))

-- an open title's count rules
pub open_ruling : (t : Title) → t.mode ≡ 1 → ruling t ≡ t.count
unfolding ruling
open_ruling t e = rw e refl

-- ---- before and after an event's tick

-- below its tick a turn changes nothing, from it on it is what the event brings
pub turn_before : {A : Type 0} (r : ℕ → A) (n : ℕ) (k : A) (u : ℕ) → u < n → turn r n k u ≡ r u
turn_before r n k u l = pick_false (leb n u) k (r u) (lt-leb n u l)

pub turn_from : {A : Type 0} (r : ℕ → A) (n : ℕ) (k : A) (u : ℕ) → n ≤ u → turn r n k u ≡ k
turn_from r n k u l = pick_true (leb n u) k (r u) (le-leb n u l)

-- ---- what a turned title keeps

module _ (t : Title) (r r' : Course) (τ q m c d v : ℕ) (h : Turning t r r' τ q m c d v) where
  -- the turn comes in a later tick than the latest event
  pub after_now : last_tick t < tick_at t τ
  unfolding tick_at
  after_now = later_tick t.opened (title_tick t) (tick_some t r h.here) t.last τ h.here.since h.later h.on_tick

  -- up to the turn the old count has ruled since the latest event, and the doors have stood as the mark says
  pub old_rules : (u : ℕ) → last_tick t ≤ u → r.rule u ≡ t.count
  old_rules u le = h.here.steady u le ∙ open_ruling t h.is_open

  old_admits : (u : ℕ) → last_tick t ≤ u → admits (life_in t r) u ≡ pick (is_shut t) 0 t.count
  old_admits u le = rw (h.here.doors h.is_open u le, old_rules u le) refl

  -- below the turn the same count admits boxes
  same_admits : (u : ℕ) → u < tick_at t τ → admits (life_in t r') u ≡ admits (life_in t r) u
  same_admits u b = rw ((h.before u b).rule, (h.before u b).shut) refl

  -- from the turn on the new one does, or none
  new_admits : (u : ℕ) → tick_at t τ ≤ u → 0 < admits (life_in t r') u → admits (life_in t r') u ≡ q
  new_admits u le =
      rw (h.from u le)
      (elim (r'.shut u) as (λ b. 0 < pick b 0 q → pick b 0 q ≡ q) [ true ↦ λ p. absurd (omega arith) | false ↦ λ p. refl ])

  -- and steadily so
  settled : (u v : ℕ) → tick_at t τ ≤ u → tick_at t τ ≤ v → admits (life_in t r') u ≡ admits (life_in t r') v
  settled u v lu lv =
      rw (h.from u lu, h.from v lv)
      (⊎_elim (λ e. ap (λ b. pick b 0 q) (h.doors e u lu ∙ sym (h.doors e v lv)))
      (λ e.
      let none : 0 ≡ q = sym (ap (λ x. pick (eqb x open_mode) c 0) e) ∙ h.rules in
      rw (← none) (nobody (r'.shut u) ∙ sym (nobody (r'.shut v))))
      h.mode)
    where
      nobody : (b : Bool) → ◌≡◌ {A = ℕ} (pick b 0 0) 0
      nobody true = refl
      nobody false = refl

  turn_ruled : Ruled (life_in t r')
  turn_ruled =
      record {
        laws = h.here.ruled.laws;
        flat = h.here.ruled.flat;
        low = λ u p. ⊎_elim
            (λ x. let e = (h.before u (ltb-true u (tick_at t τ) x)).rule in rw e (h.here.ruled.low u (rw e at p)))
            (λ x. let e = h.from u (ltb-false u (tick_at t τ) x) in rw e (h.low (rw e at p)))
            (decide (ltb u (tick_at t τ)));
        high = λ u. ⊎_elim
            (λ x. rw (h.before u (ltb-true u (tick_at t τ) x)).rule (h.here.ruled.high u))
            (λ x. rw (h.from u (ltb-false u (tick_at t τ) x)) h.high)
            (decide (ltb u (tick_at t τ)));
      }

  -- the turn's own tick is a slot start of the old count and of the new one
  old_slot : starts (scheme_in t) t.count (tick_at t τ) ≡ true
  old_slot =
      h.here.ruled.laws.slots_nest (max t.film.floor (min t.count q)) t.count (tick_at t τ)
      (omega (arith, h.here.sized.count_low)) h.at_slot

  new_slot : 0 < q → starts (scheme_in t) q (tick_at t τ) ≡ true
  new_slot p =
      h.here.ruled.laws.slots_nest (max t.film.floor (min t.count q)) q (tick_at t τ) (omega (arith, h.low p)) h.at_slot

  turn_legal : Legal (life_in t r')
  turn_legal =
      record {
        ends = λ s p f.
            ⊎_elim (λ x. ends_below s p f (ltb-true (suc s) n x)) (λ x. ends_from s p f (ltb-false (suc s) n x))
            (decide (ltb (suc s) n));
        begins = λ s p f.
            ⊎_elim (λ x. begins_below s p f (ltb-true (suc s) n x)) (λ x. begins_from s p f (ltb-false (suc s) n x))
            (decide (ltb (suc s) n));
      }
    where
      n : ℕ
      n = tick_at t τ

      adm : ℕ → ℕ
      adm = admits (life_in t r')

      ends_below : (s : ℕ) → 0 < adm s → (adm s ≡ adm (suc s) → ⊥) → suc s < n →
          starts (scheme_in t) (adm s) (suc s) ≡ true
      ends_below s p f b =
          let e : adm s ≡ admits (life_in t r) s = same_admits s (omega arith) in
          let e' : adm (suc s) ≡ admits (life_in t r) (suc s) = same_admits (suc s) b in
          rw e (h.here.legal.ends s (rw e at p) (λ g. f (e ∙ g ∙ sym e')))

      begins_below : (s : ℕ) → 0 < adm (suc s) → (adm s ≡ adm (suc s) → ⊥) → suc s < n →
          starts (scheme_in t) (adm (suc s)) (suc s) ≡ true
      begins_below s p f b =
          let e : adm s ≡ admits (life_in t r) s = same_admits s (omega arith) in
          let e' : adm (suc s) ≡ admits (life_in t r) (suc s) = same_admits (suc s) b in
          rw e' (h.here.legal.begins s (rw e' at p) (λ g. f (e ∙ g ∙ sym e')))

      -- what is no count of zero lanes is the count itself
      chosen : (b : Bool) (k : ℕ) → 0 < pick b 0 k → pick b 0 k ≡ k
      chosen true k p = absurd (omega arith)
      chosen false k p = refl

      ends_from : (s : ℕ) → 0 < adm s → (adm s ≡ adm (suc s) → ⊥) → n ≤ suc s →
          starts (scheme_in t) (adm s) (suc s) ≡ true
      ends_from s p f le =
          ⊎_elim
          (λ x.
          let b : s < n = ltb-true s n x in
          let g : suc s ≡ n = omega arith in
          let old : adm s ≡ pick (is_shut t) 0 t.count = same_admits s b ∙ old_admits s (omega (arith, after_now)) in
          let e : adm s ≡ t.count = old ∙ chosen (is_shut t) t.count (rw old at p) in
          rw (e, g) old_slot)
          (λ x. absurd (f (settled s (suc s) (ltb-false s n x) (omega (arith, ltb-false s n x)))))
          (decide (ltb s n))

      begins_from : (s : ℕ) → 0 < adm (suc s) → (adm s ≡ adm (suc s) → ⊥) → n ≤ suc s →
          starts (scheme_in t) (adm (suc s)) (suc s) ≡ true
      begins_from s p f le =
          ⊎_elim
          (λ x.
          let b : s < n = ltb-true s n x in
          let g : suc s ≡ n = omega arith in
          let e : adm (suc s) ≡ q = new_admits (suc s) le p in
          rw (e, g) (new_slot (rw e at p)))
          (λ x. absurd (f (settled s (suc s) (ltb-false s n x) (omega (arith, ltb-false s n x)))))
          (decide (ltb s n))

  -- of every count the stored end is where it last stopped to admit boxes
  turn_ends : (k : ℕ) → t.film.floor ≤ k → k ≤ t.film.cap →
      get_or (ended t (tick_at t τ)).ends k 0 ≡ last_end (life_in t r') k (tick_at t τ)
  unfolding last_end
  turn_ends k lo hi = ⊎_elim held (λ x. ⊎_elim (old x) (another x) (decide (eqb k t.count))) (decide (is_shut t))
    where
      n : ℕ
      n = tick_at t τ

      p : ℕ → Bool
      p = is_admitting (life_in t r') k

      -- a count that does not admit boxes since the latest event has its end stored
      kept : ((i : ℕ) → last_tick t ≤ i → admits (life_in t r) i ≡ k → ⊥) → get_or t.ends k 0 ≡ after p n
      kept f =
          h.here.ends k lo hi
          ∙ sym (Search.after_flat (is_admitting (life_in t r) k) (last_tick t) n (omega (arith, after_now))
          (λ i low b. ne_eqb (admits (life_in t r) i) k (f i low)))
          ∙ Search.after_ext (is_admitting (life_in t r) k) p n (λ i b. ap (λ x. eqb x k) (sym (same_admits i b)))

      held : is_shut t ≡ true → get_or (pick (is_shut t) t.ends (set t.ends t.count n)) k 0 ≡ after p n
      held x =
          rw x
          (kept (λ i low e.
          let none : admits (life_in t r) i ≡ 0 = old_admits i low ∙ pick_true (is_shut t) 0 t.count x in
          omega (arith, h.here.sized.floor_low)))

      old : is_shut t ≡ false → eqb k t.count ≡ true →
          get_or (pick (is_shut t) t.ends (set t.ends t.count n)) k 0 ≡ after p n
      old y x =
          let e : k ≡ t.count = eqb-true k t.count x in
          let z = h.here.sized in
          let fits : t.count < length t.ends = omega (arith, z.ends_long, z.count_high, z.cap_high) in
          let b : n - 1 < n = omega (arith, after_now) in
          let now : admits (life_in t r') (n - 1) ≡ t.count =
          same_admits (n - 1) b ∙ old_admits (n - 1) (omega (arith, after_now)) ∙ pick_false (is_shut t) 0 t.count y in
          let last : p (n - 1) ≡ true = eq-eqb (admits (life_in t r') (n - 1)) k (now ∙ sym e) in
          let top : n ≤ after p n = omega (arith, after_now, Search.after_above p n (n - 1) b last) in
          rw y (rw e (get_or-set_same t.ends t.count n 0 fits) ∙ le_antisymm top (Search.after_le p n))

      another : is_shut t ≡ false → eqb k t.count ≡ false →
          get_or (pick (is_shut t) t.ends (set t.ends t.count n)) k 0 ≡ after p n
      another y x =
          let ne : k ≡ t.count → ⊥ = eqb-false k t.count x in
          rw y
          (get_or-set_other t.ends t.count k n 0 ne
          ∙ kept (λ i low e. ne (sym e ∙ old_admits i low ∙ pick_false (is_shut t) 0 t.count y)))

  -- a lane that is off after the turn was dropped by it, or was off before
  lane_cases : (l : ℕ) → q ≤ l →
      ((l < t.count) × (is_dropped t q l ≡ true)) ⊎ ((t.count ≤ l) × (is_dropped t q l ≡ false))
  lane_cases l off =
      ⊎_elim (λ x. inl (ltb-true l t.count x, both_in (leb q l) (ltb l t.count) (le-leb q l off) x))
      (λ x. inr (ltb-false l t.count x, rw (x, le-leb q l off) refl))
      (decide (ltb l t.count))

  turn_drops : (l : ℕ) → l < t.film.cap → q ≤ l →
      get_or (dropped_row t (tick_at t τ) q) l 0 ≡ dropped_at (life_in t r') l (tick_at t τ)
  unfolding dropped_at is_active
  turn_drops l lane off = ⊎_elim now before (lane_cases l off)
    where
      n : ℕ
      n = tick_at t τ

      p : ℕ → Bool
      p = is_active (life_in t r') l

      long : l < length t.dropped
      long = omega (arith, h.here.sized.dropped_long, h.here.sized.cap_high)

      now : (l < t.count) × (is_dropped t q l ≡ true) → get_or (dropped_row t n q) l 0 ≡ after p n
      now w =
          let last : p (n - 1) ≡ true = lt-ltb l (r'.rule (n - 1))
          (rw ((h.before (n - 1) (omega (arith, after_now))).rule, old_rules (n - 1) (omega (arith, after_now))) w.0) in
          let top : n ≤ after p n = omega (arith, after_now, Search.after_above p n (n - 1) (omega (arith, after_now)) last) in
          filled_in (is_dropped t q) (λ l. n) t.dropped t.count l w.0 long w.1 ∙ le_antisymm top (Search.after_le p n)

      before : (t.count ≤ l) × (is_dropped t q l ≡ false) → get_or (dropped_row t n q) l 0 ≡ after p n
      before w =
          filled_out (is_dropped t q) (λ l. n) t.dropped t.count l w.1
          ∙ h.here.drops l lane (rw (open_ruling t h.is_open) w.0)
          ∙ sym (Search.after_flat (is_active (life_in t r) l) (last_tick t) n (omega (arith, after_now))
          (λ i low b. rw (old_rules i low) (le-ltb l t.count w.0)))
          ∙ Search.after_ext (is_active (life_in t r) l) p n (λ i b. ap (λ x. ltb l x) (sym (h.before i b).rule))

  -- the number owed is counted at the drop, from the ends stored then
  turn_owing : (l : ℕ) → l < t.film.cap → q ≤ l →
      get_or (owed_row t (tick_at t τ) q) l 0
      ≡ owes (life_in t r') l (get_or (dropped_row t (tick_at t τ) q) l 0)
  unfolding owes owed_within kept_within
  turn_owing l lane off = ⊎_elim now before (lane_cases l off)
    where
      n : ℕ
      n = tick_at t τ

      L' : Life
      L' = life_in t r'

      count : ℕ → ℕ
      count l = kept_within (ended t n) l n (reach t.film.cap)

      long : l < length t.dropped
      long = omega (arith, h.here.sized.dropped_long, h.here.sized.cap_high)

      long' : l < length t.owed
      long' = omega (arith, h.here.sized.owed_long, h.here.sized.cap_high)

      ends : EndsAt (ended t n) r' l n
      ends k had lo hi = turn_ends k lo hi

      now : (l < t.count) × (is_dropped t q l ≡ true) →
          get_or (owed_row t n q) l 0 ≡ owes L' l (get_or (dropped_row t n q) l 0)
      now w =
          filled_in (is_dropped t q) count t.owed t.count l w.0 long' w.1
          ∙ rw (filled_in (is_dropped t q) (λ l. n) t.dropped t.count l w.0 long w.1)
          (Search.how_many_ext (λ o. kept_owed (ended t n) l (n + o)) (λ o. is_owed L' l n (n + o)) (reach t.film.cap)
          (λ o b.
          let idle : r'.rule n ≤ l = rw (h.from n (omega arith)) off in
          sym (kept_owed_lem (ended t n) r' l n (n + o) turn_ruled turn_legal lane idle (omega arith) ends)))

      before : (t.count ≤ l) × (is_dropped t q l ≡ false) →
          get_or (owed_row t n q) l 0 ≡ owes L' l (get_or (dropped_row t n q) l 0)
      before w =
          let quiet : ruling t ≤ l = rw (open_ruling t h.is_open) w.0 in
          let d : drop_tick t l ≡ dropped_at (life_in t r) l (last_tick t) = h.here.drops l lane quiet in
          let early : drop_tick t l < n =
          omega (arith, after_now, d, dropped_le (life_in t r) l (last_tick t)) in
          filled_out (is_dropped t q) count t.owed t.count l w.1
          ∙ rw (filled_out (is_dropped t q) (λ l. n) t.dropped t.count l w.1)
          (h.here.owing l lane quiet
          ∙ sym (owes_local (life_in t r) r' l (drop_tick t l) (λ a b. h.before a (omega arith))))

  turn_sized : Sized (laid t τ q m c d v)
  unfolding tick_at
  turn_sized =
      let z = h.here.sized in
      let n : ℕ = tick_at t τ in
      let count : ℕ → ℕ = λ l. kept_within (ended t n) l n (reach t.film.cap) in
      let early : n ≤ event_time_max = omega (arith, div-le_self (τ - t.opened) (title_tick t), h.limit) in
      let small : n ≤ asked_max = omega arith in
      record {
        kind_high = z.kind_high;
        opened_high = z.opened_high;
        length_low = z.length_low;
        length_high = z.length_high;
        floor_low = z.floor_low;
        floor_high = z.floor_high;
        flat = z.flat;
        cap_high = z.cap_high;
        count_low = h.count_low;
        count_high = h.count_high;
        mark_high = h.mark_high;
        last_high = h.limit;
        tuned_high = h.tuned_high;
        ends_long =
            ⊎_elim (λ x. rw x z.ends_long) (λ x. rw x (length-set t.ends t.count n ∙ z.ends_long)) (decide (is_shut t));
        dropped_long = filled_length (is_dropped t q) (λ l. n) t.dropped t.count ∙ z.dropped_long;
        owed_long = filled_length (is_dropped t q) count t.owed t.count ∙ z.owed_long;
        ends_high = λ j.
            ⊎_elim (λ x. rw x (z.ends_high j)) (λ x. rw x (set_high t.ends t.count n asked_max small z.ends_high j))
            (decide (is_shut t));
        dropped_high = filled_high (is_dropped t q) (λ l. n) t.dropped asked_max (λ l. small) z.dropped_high t.count;
        owed_high =
            filled_high (is_dropped t q) count t.owed asked_max (λ l. within_high (ended t n) l n (omega (arith, z.cap_high)))
            z.owed_high t.count;
      }

  -- after the turn the stored numbers tell the turned course
  pub turn_present : Present (turned_title t τ q m c d v) r'
  unfolding tick_at ruling
  turn_present = rw (turned_laid t τ q m c d v) laid_present
    where
      n : ℕ
      n = tick_at t τ

      laid_present : Present (laid t τ q m c d v) r'
      laid_present =
          record {
            mode = h.mode;
            sized = turn_sized;
            since = omega (arith, h.later, h.here.since);
            on_tick = h.on_tick;
            steady = λ u le. h.from u le ∙ sym h.rules;
            doors = λ e u le. h.doors e u le;
            ruled = turn_ruled;
            legal = turn_legal;
            ends = turn_ends;
            drops = λ l lane off. turn_drops l lane (rw h.rules at off);
            owing = λ l lane off. turn_owing l lane (rw h.rules at off);
          }
