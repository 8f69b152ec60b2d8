-- What an accepted event has passed, as facts about the sequence before it. Rests on the laws of listed refusals.
use mathlib.Core.Path.{◌≡◌, refl}
use mathlib.Core.Bool.{Bool, true, false, not}
use mathlib.Core.List.{List, ◌∷◌}
use mathlib.Core.Logic.{⊎_elim}
use Prim.Native.Nat.{ℕ, ◌-◌, ◌%◌, ◌≤◌, ◌<◌, min}
use native.Mathlib.Omega.{arith}
use lib.Dec.{ltb, leb, eqb}
use borrow.Author.Tests.{ltb-false, leb-true, eqb-true, eqb-false, not-false}
use Rattle.rules.specs.Limits.{both, within, id_max, event_time_max, length_min, length_max, floor_min, floor_max, count_min}
use Rattle.rules.specs.Limits.{count_max, steady_max}
use Rattle.rules.specs.Refusals.{pick, outside_limits, too_early, not_there, id_taken, is_closing, below_floor, above_cap}
use Rattle.rules.specs.Refusals.{second_event, not_at_slot, no_lanes}
use Rattle.rules.proofs.Tests.{decide, both_l, both_r}
use Rattle.rules.proofs.Refusals.{hits_of, numbered, cleared}
use Rattle.grid.proofs.Numbers.{ne_zero_pos}
use Rattle.scheme.specs.Scheme.{steady_kind, starts}
use Rattle.story.specs.declared.Film.{Film}
use Rattle.story.specs.Life.{Life, scheme}
use Rattle.story.specs.declared.Act.{Act}
use Rattle.story.specs.declared.Act.TheVariants.{Opens, Changes, Closes, Doors}
use Rattle.story.specs.declared.Event.{Event}
use Rattle.story.specs.Story.{event, tick_length, tick_in, life_of}
use Rattle.story.specs.Story.{latest_of}
use Rattle.story.specs.Story.{last_time, count_in, held_over, is_there_in, is_slot_in, within_limits, padded_limits, steady_limits, film_limits}
use Rattle.story.specs.Story.{act_limits, tests_to, order_of, answer_to}

-- a number within two limits
pub within_low : (lo hi x : ℕ) → within lo hi x ≡ true → lo ≤ x
within_low lo hi x h = leb-true lo x (both_l (leb lo x) (leb x hi) h)

pub within_high : (lo hi x : ℕ) → within lo hi x ≡ true → x ≤ hi
within_high lo hi x h = leb-true x hi (both_r (leb lo x) (leb x hi) h)

-- the numbers of an opening within their limits, of either kind
pub record Offered (f : Film) (k : ℕ) : Type 0 where
  pub kind : f.kind ≤ steady_kind
  pub length_low : length_min ≤ f.length
  pub length_high : f.length ≤ length_max
  pub floor_low : floor_min ≤ f.floor
  pub floor_high : f.floor ≤ pick (eqb f.kind steady_kind) steady_max floor_max
  pub cap_high : f.cap ≤ count_max
  pub some : 0 < k
  pub flat : f.kind ≡ steady_kind → f.floor ≡ f.cap

-- of a title on the padded grid,
padded_offer : (f : Film) (k : ℕ) → f.kind ≤ steady_kind → eqb f.kind steady_kind ≡ false → padded_limits f k ≡ true → Offered f k
padded_offer f k kind x nums =
    let k-ok : Bool = within count_min count_max k in
    let K-ok : Bool = within count_min count_max f.cap in
    let A-ok : Bool = within floor_min floor_max f.floor in
    let D-ok : Bool = within length_min length_max f.length in
    let d : D-ok ≡ true = both_l D-ok (both A-ok (both K-ok k-ok)) nums in
    let rest : both A-ok (both K-ok k-ok) ≡ true = both_r D-ok (both A-ok (both K-ok k-ok)) nums in
    let a : A-ok ≡ true = both_l A-ok (both K-ok k-ok) rest in
    let counts : both K-ok k-ok ≡ true = both_r A-ok (both K-ok k-ok) rest in
    record {
      kind = kind;
      length_low = within_low length_min length_max f.length d;
      length_high = within_high length_min length_max f.length d;
      floor_low = within_low floor_min floor_max f.floor a;
      floor_high = rw x (within_high floor_min floor_max f.floor a);
      cap_high = within_high count_min count_max f.cap (both_l K-ok k-ok counts);
      some = omega (arith, within_low count_min count_max k (both_r K-ok k-ok counts));
      flat = λ e. absurd (eqb-false f.kind steady_kind x e);
    }

-- and of a skip-forward title
skip_offer : (f : Film) (k : ℕ) → f.kind ≤ steady_kind → eqb f.kind steady_kind ≡ true → steady_limits f k ≡ true → Offered f k
skip_offer f k kind x nums =
    let k-ok : Bool = within count_min steady_max k in
    let D-ok : Bool = within length_min length_max f.length in
    let d : D-ok ≡ true = both_l D-ok (both k-ok (both (eqb f.floor k) (eqb f.cap k))) nums in
    let rest : both k-ok (both (eqb f.floor k) (eqb f.cap k)) ≡ true =
    both_r D-ok (both k-ok (both (eqb f.floor k) (eqb f.cap k))) nums in
    let count : k-ok ≡ true = both_l k-ok (both (eqb f.floor k) (eqb f.cap k)) rest in
    let ones : both (eqb f.floor k) (eqb f.cap k) ≡ true = both_r k-ok (both (eqb f.floor k) (eqb f.cap k)) rest in
    let floor : f.floor ≡ k = eqb-true f.floor k (both_l (eqb f.floor k) (eqb f.cap k) ones) in
    let cap : f.cap ≡ k = eqb-true f.cap k (both_r (eqb f.floor k) (eqb f.cap k) ones) in
    let low = within_low count_min steady_max k count in
    let high = within_high count_min steady_max k count in
    record {
      kind = kind;
      length_low = within_low length_min length_max f.length d;
      length_high = within_high length_min length_max f.length d;
      floor_low = omega arith;
      floor_high = rw x (omega arith);
      cap_high = omega arith;
      some = omega arith;
      flat = λ e. omega arith;
    }

pub offered : (f : Film) (k : ℕ) → film_limits f k ≡ true → Offered f k
offered f k h =
    let kind : f.kind ≤ steady_kind = leb-true f.kind steady_kind
    (both_l (leb f.kind steady_kind) (pick (eqb f.kind steady_kind) (steady_limits f k) (padded_limits f k)) h) in
    let nums = both_r (leb f.kind steady_kind) (pick (eqb f.kind steady_kind) (steady_limits f k) (padded_limits f k)) h in
    ⊎_elim (λ x. skip_offer f k kind x (rw x at nums)) (λ x. padded_offer f k kind x (rw x at nums))
    (decide (eqb f.kind steady_kind))

-- what every accepted event has passed
pub record Timely (es : List Event) (i τ : ℕ) : Type 0 where
  pub id : i ≤ id_max
  pub limit : τ ≤ event_time_max
  pub late : last_time es ≤ τ

-- an accepted opening
pub record Opening (lanes : ℕ) (es : List Event) (i τ : ℕ) (f : Film) (k : ℕ) : Type 0 where
  pub timely : Timely es i τ
  pub away : is_there_in (life_of es i) τ ≡ false
  pub some : 0 < k
  pub low : f.floor ≤ k
  pub high : k ≤ f.cap
  pub room : held_over (event i τ (Opens f k) ∷ es) τ ≤ lanes

-- an accepted change, close, hold or lift: of a title that is open, at a later moment than its latest event
pub record Turned (es : List Event) (i τ : ℕ) : Type 0 where
  pub timely : Timely es i τ
  pub there : is_there_in (life_of es i) τ ≡ true
  pub some : 0 < count_in (life_of es i) τ
  pub fresh : τ ≡ latest_of es i → ⊥
  pub on_tick : (τ - (life_of es i).opened) % tick_length (life_of es i) ≡ 0

timely : (es : List Event) (i τ : ℕ) (a : Act) → within_limits (event i τ a) ≡ true → ltb τ (last_time es) ≡ false →
    Timely es i τ
timely es i τ a h t =
    record {
      id = leb-true i id_max (both_l (leb i id_max) (leb τ event_time_max) h);
      limit = leb-true τ event_time_max (both_r (leb i id_max) (leb τ event_time_max) h);
      late = ltb-false τ (last_time es) t;
    }

-- a slot start is the start of a tick
on_its_tick : (L : Life) (k τ : ℕ) → not (is_slot_in L k τ) ≡ false → (τ - L.opened) % tick_length L ≡ 0
on_its_tick L k τ h =
    eqb-true ((τ - L.opened) % tick_length L) 0
    (both_l (eqb ((τ - L.opened) % tick_length L) 0) (starts (scheme L) k (tick_in L τ)) (not-false (is_slot_in L k τ) h))

module _ (lanes : ℕ) (es : List Event) (i τ : ℕ) where
  -- an accepted event clears every refusal of its order
  clears : (a : Act) → answer_to lanes es (event i τ a) (life_of es i) a ≡ 0 → (n : ℕ) →
      hits_of n (order_of a (tests_to lanes es (event i τ a) (life_of es i) a)) ≡ false
  unfolding answer_to numbered
  clears (Opens f k) h = cleared (order_of (Opens f k) (tests_to lanes es (event i τ (Opens f k)) (life_of es i) (Opens f k))) refl h
  clears (Changes k) h = cleared (order_of (Changes k) (tests_to lanes es (event i τ (Changes k)) (life_of es i) (Changes k))) refl h
  clears Closes h = cleared (order_of Closes (tests_to lanes es (event i τ Closes) (life_of es i) Closes)) refl h
  clears (Doors b) h = cleared (order_of (Doors b) (tests_to lanes es (event i τ (Doors b)) (life_of es i) (Doors b))) refl h

  -- so all its numbers are within their limits
  pub in_limits_lem : (a : Act) → answer_to lanes es (event i τ a) (life_of es i) a ≡ 0 →
      act_limits a (within_limits (event i τ a)) ≡ true
  unfolding hits_of
  in_limits_lem (Opens f k) h = not-false _ (clears (Opens f k) h outside_limits)
  in_limits_lem (Changes k) h = not-false _ (clears (Changes k) h outside_limits)
  in_limits_lem Closes h = not-false _ (clears Closes h outside_limits)
  in_limits_lem (Doors b) h = not-false _ (clears (Doors b) h outside_limits)

  pub opening : (f : Film) (k : ℕ) → answer_to lanes es (event i τ (Opens f k)) (life_of es i) (Opens f k) ≡ 0 →
      Opening lanes es i τ f k
  unfolding hits_of
  opening f k h =
      let e : Event = event i τ (Opens f k) in
      let clear = clears (Opens f k) h in
      let all : both (within_limits e) (film_limits f k) ≡ true = in_limits_lem (Opens f k) h in
      let o = offered f k (both_r (within_limits e) (film_limits f k) all) in
      record {
        timely = timely es i τ (Opens f k) (both_l (within_limits e) (film_limits f k) all) (clear too_early);
        away = clear id_taken;
        some = o.some;
        low = ltb-false k f.floor (clear below_floor);
        high = ltb-false f.cap k (clear above_cap);
        room = ltb-false lanes (held_over (e ∷ es) τ) (clear no_lanes);
      }

  -- what they all have passed alike: there, open, later than the latest event, at a slot start
  turned : (a : Act) (k : ℕ) → within_limits (event i τ a) ≡ true → ltb τ (last_time es) ≡ false →
      not (is_there_in (life_of es i) τ) ≡ false → eqb (count_in (life_of es i) τ) 0 ≡ false →
      eqb τ (latest_of es i) ≡ false → not (is_slot_in (life_of es i) k τ) ≡ false → Turned es i τ
  turned a k limits late there some second off =
      record {
        timely = timely es i τ a limits late;
        there = not-false (is_there_in (life_of es i) τ) there;
        some = ne_zero_pos (count_in (life_of es i) τ) (eqb-false (count_in (life_of es i) τ) 0 some);
        fresh = eqb-false τ (latest_of es i) second;
        on_tick = on_its_tick (life_of es i) k τ off;
      }

  pub changing : (k : ℕ) → answer_to lanes es (event i τ (Changes k)) (life_of es i) (Changes k) ≡ 0 →
      Turned es i τ × (held_over (event i τ (Changes k) ∷ es) τ ≤ lanes)
  unfolding hits_of
  changing k h =
      let e : Event = event i τ (Changes k) in
      let clear = clears (Changes k) h in
      let all : both (within_limits e) (within count_min count_max k) ≡ true = in_limits_lem (Changes k) h in (
        turned (Changes k) (min (count_in (life_of es i) τ) k) (both_l (within_limits e) (within count_min count_max k) all)
            (clear too_early) (clear not_there) (clear is_closing) (clear second_event) (clear not_at_slot),
        ltb-false lanes (held_over (e ∷ es) τ) (clear no_lanes),
      )

  pub closing : answer_to lanes es (event i τ Closes) (life_of es i) Closes ≡ 0 → Turned es i τ
  unfolding hits_of
  closing h =
      let clear = clears Closes h in
      turned Closes (life_of es i).film.floor (in_limits_lem Closes h)
      (clear too_early) (clear not_there) (clear is_closing) (clear second_event) (clear not_at_slot)

  pub doored : (b : Bool) → answer_to lanes es (event i τ (Doors b)) (life_of es i) (Doors b) ≡ 0 → Turned es i τ
  unfolding hits_of
  doored b h =
      let clear = clears (Doors b) h in
      turned (Doors b) (count_in (life_of es i) τ) (in_limits_lem (Doors b) h)
      (clear too_early) (clear not_there) (clear is_closing) (clear second_event) (clear not_at_slot)

  -- whatever it does
  pub in_order : (a : Act) → answer_to lanes es (event i τ a) (life_of es i) a ≡ 0 → Timely es i τ
  in_order (Opens f k) h = (opening f k h).timely
  in_order (Changes k) h = (changing k h).0.timely
  in_order Closes h = (closing h).timely
  in_order (Doors b) h = (doored b h).timely
