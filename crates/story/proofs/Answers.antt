-- After any accepted sequence the state answers every event as the sequence says, and an accepted one leaves a state that
-- tells the longer sequence. Rests on `Tells`, `turn_present` and the laws of listed refusals.
use mathlib.Core.Path.{◌≡◌, refl, sym, ap, ◌∙◌}
use mathlib.Core.Bool.{Bool, true, false, not, false≢true}
use mathlib.Core.Logic.{inl, inr, ⊎_elim}
use mathlib.Core.List.{List, ◌∷◌}
use Prim.Native.Nat.{ℕ, ◌+◌, ◌-◌, ◌%◌, ◌≤◌, ◌<◌, min, max}
use native.Mathlib.Omega.{arith}
use native.Mathlib.Nat.{le_antisymm}
use lib.Dec.{ltb, leb, eqb}
use borrow.Author.Tests.{ltb-true, ltb-false, leb-true, eqb-true, eqb-false, not-false}
use Rattle.rules.specs.Limits.{both, within, id_max, event_time_max}
use Rattle.rules.specs.Limits.{count_min, count_max}
use Rattle.rules.specs.Refusals.{Rule, refuse, first_hit, outside_limits, too_early, not_there, id_taken, is_closing}
use Rattle.rules.specs.Refusals.{floor_above_cap, below_floor, above_cap, is_steady, unchanged, doors_unchanged, second_event, not_at_slot}
use Rattle.rules.specs.Refusals.{pick, too_soon, no_lanes}
use Rattle.rules.proofs.Tests.{decide, both_l, both_r}
use Rattle.rules.proofs.Refusals.{hits_of, numbered, cleared, hit_same}
use Rattle.scheme.specs.Scheme.{starts}
use Rattle.story.specs.declared.Film.{Film}
use Rattle.story.specs.declared.Title.{Title}
use Rattle.story.specs.declared.State.{State}
use Rattle.story.specs.Kept.{open_mode, closing_mode, clear_mark, held_mark, is_shut, title_at, state_ok}
use Rattle.story.specs.Kept.{scheme_in, title_tick, tick_at, at_tick_start, settled_at, lanes_held, is_there}
use Rattle.story.specs.Next.{opened_title, with_title, changed_title, closed_title}
use Rattle.story.specs.Next.{ended, turned, turned_title, doors_title, call_next}
use Rattle.story.specs.Calls.{event_ok, too_many, at_slot_start, tests_in, call_answer}
use Rattle.story.specs.Life.{Life, Course}
use Rattle.story.specs.declared.Act.{Act}
use Rattle.story.specs.declared.Act.TheVariants.{Opens, Changes, Closes, Doors}
use Rattle.story.specs.declared.Event.{Event}
use Rattle.story.specs.Story.{event, life_after, life_of, latest_of}
use Rattle.story.specs.Story.{last_time}
use Rattle.story.specs.Story.{tick_in, count_in, is_slot_in, is_there_in, within_limits, film_limits, overfull, order_of}
use Rattle.story.specs.Story.{settling, sets_count, tuned_of, is_shut_in, answer_to, turn}
use Rattle.story.proofs.Stored.{life_in}
use Rattle.story.proofs.Kept.{Present, later}
use Rattle.story.proofs.Turn.{Turning, turned_laid, turn_present, turn_before, turn_from, open_ruling}
use Rattle.story.proofs.Rows.{drop_none}
use Rattle.story.proofs.Passed.{offered}
use Rattle.story.proofs.Tells.{TellsTitle, absent, present, Tells, opened_present, count_told, there_told}
use Rattle.story.proofs.Tells.{from_start_lem, closing_told, doors_told, lanes_told_lem, told_with, blank_away}

-- ---- an open title, told from its life

-- a title that is open: the course of its life, its count, its doors and its latest event
record Open (L : Life) (m : ℕ) (t : Title) (τ : ℕ) : Type 0 where
  course : Course
  life : L ≡ life_in t course
  latest : m ≡ t.last
  here : Present t course
  mode : t.mode ≡ open_mode
  count : count_in L τ ≡ t.count
  doors : is_shut_in L τ ≡ is_shut t

open_title : (L : Life) (m : ℕ) (t : Title) (τ : ℕ) → TellsTitle L m t → m ≤ τ → is_there t τ ≡ true →
    eqb t.mode closing_mode ≡ false → Open L m t τ
open_title L m t τ (absent e f g) le there off =
    absurd (false≢true (sym (blank_away τ) ∙ ap (λ x. is_there x τ) (sym g) ∙ there))
open_title L m t τ (present r e f p) le there off =
    let o : t.mode ≡ open_mode = ⊎_elim (λ x. x) (λ x. absurd (eqb-false t.mode closing_mode off x)) p.mode in
    record {
      course = r;
      life = e;
      latest = f;
      here = p;
      mode = o;
      count = count_told L m t τ (present r e f p) le ∙ open_ruling t o;
      doors = doors_told L m t τ (present r e f p) le there off;
    }

-- a slot start of an open title, told from its life
slot_told : (L : Life) (m : ℕ) (t : Title) (τ k : ℕ) → Open L m t τ → at_slot_start t k τ ≡ is_slot_in L k τ
unfolding at_tick_start tick_at tick_in
slot_told L m t τ k o = rw o.life refl

-- the slot of the smaller count, and of the floor for a close, is one expression
change_slot : (A c k : ℕ) → A ≤ c → A ≤ k → max A (min c k) ≡ min c k
change_slot A c k p q = omega arith

close_slot : (A c : ℕ) → max A (min c 0) ≡ A
close_slot A c = omega arith

doors_slot : (A c : ℕ) → A ≤ c → max A (min c c) ≡ c
doors_slot A c p = omega arith

-- the mark says how the doors stand
marked : (b : Bool) → b ≡ eqb (pick b held_mark clear_mark) held_mark
marked true = refl
marked false = refl

mark_limit : (b : Bool) → pick b held_mark clear_mark ≤ held_mark
mark_limit true = omega arith
mark_limit false = omega arith

-- the life that a turned title tells has the title's own numbers
life_turned : (t : Title) (τ q m c d v : ℕ) (r : Course) → life_in (turned_title t τ q m c d v) r ≡ life_in t r
life_turned t τ q m c d v r = ap (λ x. life_in x r) (turned_laid t τ q m c d v)

-- a hold and a lift are turns to as many lanes
doors_turned : (t : Title) (τ : ℕ) (b : Bool) →
    turned_title t τ t.count open_mode t.count (pick b held_mark clear_mark) t.tuned ≡ doors_title t τ b
unfolding doors_title
doors_turned t τ b =
    ap (λ x. turned x open_mode t.count (pick b held_mark clear_mark) τ t.tuned)
    (drop_none (ended t (tick_at t τ)) (tick_at t τ) t.count t.count (omega arith))

-- ---- the answers, and the states after them

module _ (lanes : ℕ) (es : List Event) (s : State) (w : Tells lanes es s) where
  -- the pool is too small for the state after an event just where it is for the sequence after it
  full_told : (e : Event) (s' : State) → Tells lanes (e ∷ es) s' →
      too_many s' e.time ≡ overfull lanes (e ∷ es) e.time
  full_told e s' w' =
      ap (λ n. ltb n (lanes_held s' e.time)) w'.pool
      ∙ ap (λ n. ltb lanes n) (sym (lanes_told_lem lanes (e ∷ es) s' e.time w' (omega arith)))

  module _ (ok : state_ok s ≡ true) (i τ : ℕ) where
    -- a good state leaves only the event's own numbers to be tested
    limits_told : (b : Bool) → not (both (event_ok s i τ) b) ≡ not (both (both (leb i id_max) (leb τ event_time_max)) b)
    limits_told b = rw ok refl

    event_out_lem : event_ok s i τ ≡ true → (i ≤ id_max) × (τ ≤ event_time_max)
    event_out_lem h =
        let nums : both (leb i id_max) (leb τ event_time_max) ≡ true = both_r (state_ok s) (both (leb i id_max) (leb τ event_time_max)) h in (
          leb-true i id_max (both_l (leb i id_max) (leb τ event_time_max) nums),
          leb-true τ event_time_max (both_r (leb i id_max) (leb τ event_time_max) nums),
        )

    limits_out : (b : Bool) → not (both (event_ok s i τ) b) ≡ false → (i ≤ id_max) × (τ ≤ event_time_max) × (b ≡ true)
    limits_out b h =
        let all : both (event_ok s i τ) b ≡ true = not-false (both (event_ok s i τ) b) h in
        let nums = event_out_lem (both_l (event_ok s i τ) b all) in
        (nums.0, nums.1, both_r (event_ok s i τ) b all)

    -- not before the last event
    late_out : ltb τ s.last ≡ false → last_time es ≤ τ
    late_out h = omega (arith, ltb-false τ s.last h, w.last)

    seen : last_time es ≤ τ → latest_of es i ≤ τ
    seen le = omega (arith, w.newest i)

    -- an opening within its limits, not too early, with a count from floor to cap
    open_next : (f : Film) (k : ℕ) → i ≤ id_max → τ ≤ event_time_max → film_limits f k ≡ true → last_time es ≤ τ →
        ltb k f.floor ≡ false → ltb f.cap k ≡ false → Tells lanes (event i τ (Opens f k) ∷ es) (call_next s i τ (Opens f k))
    open_next f k id limit nums late low high =
        told_with lanes es s (event i τ (Opens f k)) (opened_title f τ k) w (omega arith) late limit
        (present (from_start_lem k) refl refl
        (opened_present f τ k limit (offered f k nums) (ltb-false k f.floor low) (ltb-false f.cap k high)))
        refl

    open_told : (f : Film) (k : ℕ) →
        call_answer s i τ (Opens f k) ≡ answer_to lanes es (event i τ (Opens f k)) (life_of es i) (Opens f k)
    unfolding call_answer answer_to
    open_told f k =
        hit_same outside_limits _ _ _ _ (limits_told (film_limits f k))
        (λ t1.
        let n = limits_out (film_limits f k) t1 in
        hit_same too_early _ _ _ _ (ap (λ x. ltb τ x) w.last)
        (λ t2.
        hit_same id_taken _ _ _ _
        (sym (there_told (life_of es i) (latest_of es i) (title_at s i) τ (w.title i (omega (arith, n.0))) (seen (late_out t2))))
        (λ t4.
        hit_same floor_above_cap _ _ _ _ refl
        (λ t15.
        hit_same below_floor _ _ _ _ refl
        (λ t13.
        hit_same above_cap _ _ _ _ refl
        (λ t14.
        hit_same no_lanes _ _ _ _
        (full_told (event i τ (Opens f k)) (call_next s i τ (Opens f k)) (open_next f k n.0 n.1 n.2 (late_out t2) t13 t14))
        (λ t9. refl)))))))

    -- a turn of an open title
    turn_next : (t : Title) (r : Course) (q m c d v : ℕ) (a : Act) → (o : Open (life_of es i) (latest_of es i) t τ) →
        i ≤ id_max → τ ≤ event_time_max → last_time es ≤ τ → Turning t o.course r τ q m c d v →
        life_after (life_in t o.course) τ a ≡ life_in t r → v ≡ pick (sets_count a) τ (tuned_of es i) →
        Tells lanes (event i τ a ∷ es) (with_title s i (turned_title t τ q m c d v) τ)
    turn_next t r q m c d v a o id limit late turning same tuned =
        told_with lanes es s (event i τ a) (turned_title t τ q m c d v) w (omega arith) late limit
        (present r (ap (λ L. life_after L τ a) o.life ∙ same ∙ sym (life_turned t τ q m c d v r)) refl
        (turn_present t o.course r τ q m c d v turning))
        tuned

    -- how the doors stand from the latest event on
    doors_since : (t : Title) (o : Open (life_of es i) (latest_of es i) t τ) → t.last < τ → (u : ℕ) → tick_at t τ ≤ u →
        o.course.shut u ≡ is_shut t
    doors_since t o lt u le = o.here.doors o.mode u (omega (arith, later t o.course o.here τ (omega arith)))

    -- the tests of a slot start, a later moment and a new count, as facts
    later_out : (t : Title) → Open (life_of es i) (latest_of es i) t τ → last_time es ≤ τ → eqb τ t.last ≡ false →
        t.last < τ
    later_out t o late h =
        ⊎_elim (λ x. ltb-true t.last τ x)
        (λ x. absurd (eqb-false τ t.last h (le_antisymm (ltb-false t.last τ x) (omega (arith, o.latest, w.newest i)))))
        (decide (ltb t.last τ))

    tick_out_lem : (t : Title) (k : ℕ) → not (at_slot_start t k τ) ≡ false →
        ((τ - t.opened) % title_tick t ≡ 0) × (starts (scheme_in t) k (tick_at t τ) ≡ true)
    unfolding at_tick_start
    tick_out_lem t k h =
        let all : at_slot_start t k τ ≡ true = not-false (at_slot_start t k τ) h in (
          eqb-true ((τ - t.opened) % title_tick t) 0 (both_l (at_tick_start t τ) (starts (scheme_in t) k (tick_at t τ)) all),
          both_r (at_tick_start t τ) (starts (scheme_in t) k (tick_at t τ)) all,
        )

    change_next_lem : (k : ℕ) (o : Open (life_of es i) (latest_of es i) (title_at s i) τ) → i ≤ id_max → τ ≤ event_time_max →
        last_time es ≤ τ → ltb k (title_at s i).film.floor ≡ false → ltb (title_at s i).film.cap k ≡ false →
        eqb τ (title_at s i).last ≡ false →
        not (at_slot_start (title_at s i) (min (title_at s i).count k) τ) ≡ false →
        Tells lanes (event i τ (Changes k) ∷ es) (call_next s i τ (Changes k))
    unfolding changed_title tick_in tick_at
    change_next_lem k o id limit late t13 t14 t7 t8 =
        let t : Title = title_at s i in
        let low : t.film.floor ≤ k = ltb-false k t.film.floor t13 in
        let high : k ≤ t.film.cap = ltb-false t.film.cap k t14 in
        let z = o.here.sized in
        let lt : t.last < τ = later_out t o late t7 in
        let n : ℕ = tick_at t τ in
        let r : Course = o.course in
        turn_next t (record { rule = turn r.rule n k; shut = r.shut }) k open_mode k t.mark τ (Changes k) o id limit late
        (record {
          here = o.here;
          is_open = o.mode;
          later = lt;
          limit = limit;
          on_tick = (tick_out_lem t (min t.count k) t8).0;
          low = λ p. low;
          high = high;
          at_slot = rw (change_slot t.film.floor t.count k z.count_low low) (tick_out_lem t (min t.count k) t8).1;
          mode = inl refl;
          count_low = low;
          count_high = high;
          mark_high = z.mark_high;
          tuned_high = limit;
          rules = refl;
          before = λ u b. record { rule = turn_before r.rule n k u b; shut = refl };
          from = λ u le. turn_from r.rule n k u le;
          doors = λ e u le. doors_since t o lt u le;
        })
        refl refl

    close_next : (o : Open (life_of es i) (latest_of es i) (title_at s i) τ) → i ≤ id_max → τ ≤ event_time_max →
        last_time es ≤ τ → eqb τ (title_at s i).last ≡ false →
        not (at_slot_start (title_at s i) (title_at s i).film.floor τ) ≡ false →
        Tells lanes (event i τ Closes ∷ es) (call_next s i τ Closes)
    unfolding closed_title tick_in tick_at
    close_next o id limit late t7 t8 =
        let t : Title = title_at s i in
        let z = o.here.sized in
        let n : ℕ = tick_at t τ in
        let r : Course = o.course in
        turn_next t (record { rule = turn r.rule n 0; shut = r.shut }) 0 closing_mode t.count clear_mark t.tuned Closes
        o id limit late
        (record {
          here = o.here;
          is_open = o.mode;
          later = later_out t o late t7;
          limit = limit;
          on_tick = (tick_out_lem t t.film.floor t8).0;
          low = λ p. absurd (omega arith);
          high = omega arith;
          at_slot = rw (close_slot t.film.floor t.count) (tick_out_lem t t.film.floor t8).1;
          mode = inr refl;
          count_low = z.count_low;
          count_high = z.count_high;
          mark_high = omega arith;
          tuned_high = z.tuned_high;
          rules = refl;
          before = λ u b. record { rule = turn_before r.rule n 0 u b; shut = refl };
          from = λ u le. turn_from r.rule n 0 u le;
          doors = λ e u le. absurd (omega (arith, e));
        })
        refl (w.tuned i (omega arith))

    doors_next : (b : Bool) (o : Open (life_of es i) (latest_of es i) (title_at s i) τ) → i ≤ id_max → τ ≤ event_time_max →
        last_time es ≤ τ → eqb τ (title_at s i).last ≡ false →
        not (at_slot_start (title_at s i) (title_at s i).count τ) ≡ false →
        Tells lanes (event i τ (Doors b) ∷ es) (call_next s i τ (Doors b))
    unfolding tick_in tick_at
    doors_next b o id limit late t7 t8 =
        let t : Title = title_at s i in
        let z = o.here.sized in
        let lt : t.last < τ = later_out t o late t7 in
        let n : ℕ = tick_at t τ in
        let r : Course = o.course in
        rw (← doors_turned t τ b)
        (turn_next t (record { rule = r.rule; shut = turn r.shut n b }) t.count open_mode t.count
        (pick b held_mark clear_mark) t.tuned (Doors b) o id limit late
        (record {
          here = o.here;
          is_open = o.mode;
          later = lt;
          limit = limit;
          on_tick = (tick_out_lem t t.count t8).0;
          low = λ p. z.count_low;
          high = z.count_high;
          at_slot = rw (doors_slot t.film.floor t.count z.count_low) (tick_out_lem t t.count t8).1;
          mode = inl refl;
          count_low = z.count_low;
          count_high = z.count_high;
          mark_high = mark_limit b;
          tuned_high = z.tuned_high;
          rules = refl;
          before = λ u l. record { rule = refl; shut = turn_before r.shut n b u l };
          from = λ u le. o.here.steady u (omega (arith, later t r o.here τ (omega arith))) ∙ open_ruling t o.mode;
          doors = λ e u le. turn_from r.shut n b u le ∙ marked b;
        })
        refl (w.tuned i (omega arith)))

    -- the tests that all but openings share: there, and not closing
    opened_told : i ≤ id_max → last_time es ≤ τ → not (is_there (title_at s i) τ) ≡ false →
        eqb (title_at s i).mode closing_mode ≡ false → Open (life_of es i) (latest_of es i) (title_at s i) τ
    opened_told id late t3 t5 =
        open_title (life_of es i) (latest_of es i) (title_at s i) τ (w.title i (omega arith)) (seen late)
        (not-false (is_there (title_at s i) τ) t3) t5

    -- the rungs that all but openings climb alike: in order, there, and not closing; behind them the title is open
    standing_told : (x y : Bool) (rs qs : List Rule) → x ≡ y → (x ≡ true → (i ≤ id_max) × (τ ≤ event_time_max)) →
        (i ≤ id_max → τ ≤ event_time_max → last_time es ≤ τ → Open (life_of es i) (latest_of es i) (title_at s i) τ → first_hit rs ≡ first_hit qs) →
        first_hit
        (refuse outside_limits (not x)
        ∷ refuse too_early (ltb τ s.last)
        ∷ refuse not_there (not (is_there (title_at s i) τ))
        ∷ refuse is_closing (eqb (title_at s i).mode closing_mode)
        ∷ rs)
        ≡ first_hit
        (refuse outside_limits (not y)
        ∷ refuse too_early (ltb τ (last_time es))
        ∷ refuse not_there (not (is_there_in (life_of es i) τ))
        ∷ refuse is_closing (eqb (count_in (life_of es i) τ) 0)
        ∷ qs)
    standing_told x y rs qs same nums rest =
        hit_same outside_limits _ _ _ _ (ap not same)
        (λ t1.
        let n = nums (not-false x t1) in
        hit_same too_early _ _ _ _ (ap (λ x. ltb τ x) w.last)
        (λ t2.
        let late : last_time es ≤ τ = late_out t2 in
        let told = w.title i (omega (arith, n.0)) in
        hit_same not_there _ _ _ _ (ap not (sym (there_told (life_of es i) (latest_of es i) (title_at s i) τ told (seen late))))
        (λ t3.
        hit_same is_closing _ _ _ _
        (closing_told (life_of es i) (latest_of es i) (title_at s i) τ told (seen late) (not-false (is_there (title_at s i) τ) t3))
        (λ t5. rest n.0 n.1 late (opened_told n.0 late t3 t5)))))

    -- the moment from which on 16 no longer stands
    settled_told : (t : Title) → i ≤ id_max → title_at s i ≡ t → Open (life_of es i) (latest_of es i) t τ →
        settled_at t ≡ tuned_of es i + settling (life_of es i)
    unfolding settled_at
    settled_told t id e o = rw (o.life, ← e, w.tuned i (omega arith)) refl

    change_told : (k : ℕ) →
        call_answer s i τ (Changes k) ≡ answer_to lanes es (event i τ (Changes k)) (life_of es i) (Changes k)
    unfolding call_answer answer_to
    change_told k =
        standing_told (both (event_ok s i τ) (within count_min count_max k))
        (both (within_limits (event i τ (Changes k))) (within count_min count_max k)) _ _ (rw ok refl)
        (λ x. event_out_lem (both_l (event_ok s i τ) (within count_min count_max k) x))
        (λ id limit late o.
        hit_same is_steady _ _ _ _ (rw (ap (λ (L : Life). L.film.kind) o.life) refl)
        (λ t19.
        hit_same below_floor _ _ _ _ (rw (ap (λ (L : Life). L.film.floor) o.life) refl)
        (λ t13.
        hit_same above_cap _ _ _ _ (rw (ap (λ (L : Life). L.film.cap) o.life) refl)
        (λ t14.
        hit_same unchanged _ _ _ _ (rw o.count refl)
        (λ t6.
        hit_same second_event _ _ _ _ (ap (λ x. eqb τ x) (sym o.latest))
        (λ t7.
        hit_same too_soon _ _ _ _ (ap (λ x. ltb τ x) (settled_told (title_at s i) id refl o))
        (λ t16.
        hit_same not_at_slot _ _ _ _
        (rw o.count (ap not (slot_told (life_of es i) (latest_of es i) (title_at s i) τ (min (title_at s i).count k) o)))
        (λ t8.
        hit_same no_lanes _ _ _ _
        (full_told (event i τ (Changes k)) (call_next s i τ (Changes k)) (change_next_lem k o id limit late t13 t14 t7 t8))
        (λ t9. refl)))))))))

    close_told : call_answer s i τ Closes ≡ answer_to lanes es (event i τ Closes) (life_of es i) Closes
    unfolding call_answer answer_to
    close_told =
        standing_told (event_ok s i τ) (within_limits (event i τ Closes)) _ _ (rw ok refl) event_out_lem
        (λ id limit late o.
        hit_same second_event _ _ _ _ (ap (λ x. eqb τ x) (sym o.latest))
        (λ t7.
        hit_same not_at_slot _ _ _ _
        (ap not (slot_told (life_of es i) (latest_of es i) (title_at s i) τ (title_at s i).film.floor o)
        ∙ rw (ap (λ (L : Life). L.film.floor) o.life) refl)
        (λ t8. refl)))

    doors_answered : (b : Bool) →
        call_answer s i τ (Doors b) ≡ answer_to lanes es (event i τ (Doors b)) (life_of es i) (Doors b)
    unfolding call_answer answer_to
    doors_answered b =
        standing_told (event_ok s i τ) (within_limits (event i τ (Doors b))) _ _ (rw ok refl) event_out_lem
        (λ id limit late o.
        hit_same is_steady _ _ _ _ (rw (ap (λ (L : Life). L.film.kind) o.life) refl)
        (λ t19.
        hit_same doors_unchanged _ _ _ _ (ap (λ x. pick b x (not x)) (sym o.doors))
        (λ t17.
        hit_same second_event _ _ _ _ (ap (λ x. eqb τ x) (sym o.latest))
        (λ t7.
        hit_same not_at_slot _ _ _ _
        (rw o.count (ap not (slot_told (life_of es i) (latest_of es i) (title_at s i) τ (title_at s i).count o)))
        (λ t8. refl)))))

  module _ (ok : state_ok s ≡ true) where
    -- every event is answered as the sequence says
    pub answer_told : (i τ : ℕ) (a : Act) → call_answer s i τ a ≡ answer_to lanes es (event i τ a) (life_of es i) a
    answer_told i τ (Opens f k) = open_told ok i τ f k
    answer_told i τ (Changes k) = change_told ok i τ k
    answer_told i τ Closes = close_told ok i τ
    answer_told i τ (Doors b) = doors_answered ok i τ b

    -- and an accepted one, which clears every refusal, leaves a state that tells the longer sequence
    clears : (i τ : ℕ) (a : Act) → call_answer s i τ a ≡ 0 → (n : ℕ) → hits_of n (order_of a (tests_in s i τ a)) ≡ false
    unfolding call_answer numbered
    clears i τ (Opens f k) h = cleared (order_of (Opens f k) (tests_in s i τ (Opens f k))) refl h
    clears i τ (Changes k) h = cleared (order_of (Changes k) (tests_in s i τ (Changes k))) refl h
    clears i τ Closes h = cleared (order_of Closes (tests_in s i τ Closes)) refl h
    clears i τ (Doors b) h = cleared (order_of (Doors b) (tests_in s i τ (Doors b))) refl h

    pub next_told : (i τ : ℕ) (a : Act) → call_answer s i τ a ≡ 0 → Tells lanes (event i τ a ∷ es) (call_next s i τ a)
    unfolding hits_of
    next_told i τ (Opens f k) h =
        let clear = clears i τ (Opens f k) h in
        let n = limits_out ok i τ (film_limits f k) (clear outside_limits) in
        open_next ok i τ f k n.0 n.1 n.2 (late_out ok i τ (clear too_early)) (clear below_floor) (clear above_cap)
    next_told i τ (Changes k) h =
        let clear = clears i τ (Changes k) h in
        let n = limits_out ok i τ (within count_min count_max k) (clear outside_limits) in
        let late = late_out ok i τ (clear too_early) in
        change_next_lem ok i τ k (opened_told ok i τ n.0 late (clear not_there) (clear is_closing)) n.0 n.1 late
        (clear below_floor) (clear above_cap) (clear second_event) (clear not_at_slot)
    next_told i τ Closes h =
        let clear = clears i τ Closes h in
        let n = event_out_lem ok i τ (not-false (event_ok s i τ) (clear outside_limits)) in
        let late = late_out ok i τ (clear too_early) in
        close_next ok i τ (opened_told ok i τ n.0 late (clear not_there) (clear is_closing)) n.0 n.1 late
        (clear second_event) (clear not_at_slot)
    next_told i τ (Doors b) h =
        let clear = clears i τ (Doors b) h in
        let n = event_out_lem ok i τ (not-false (event_ok s i τ) (clear outside_limits)) in
        let late = late_out ok i τ (clear too_early) in
        doors_next ok i τ b (opened_told ok i τ n.0 late (clear not_there) (clear is_closing)) n.0 n.1 late
        (clear second_event) (clear not_at_slot)
