-- No box runs dry, over any accepted sequence: later changes, holds, closings and re-openings included. What a life says of a
-- tick is what was on air then, since later events turn later ticks; and an id opens again only when no lane of the
-- earlier opening is held, so every cell that its boxes still awaited has gone out by then.
-- Rests on `film-in-time` for one life, and on what accepted sequences keep true of lives.
use mathlib.Core.Path.{◌≡◌, refl, sym, ap, ◌∙◌}
use mathlib.Core.Bool.{Bool, true, false, not, false≢true}
use mathlib.Core.Logic.{⊎_elim}
use mathlib.Core.List.{List, [], ◌∷◌}
use Prim.Native.Nat.{ℕ, suc, ◌+◌, ◌-◌, ◌*◌, ◌/◌, ◌%◌, ◌≤◌, ◌<◌}
use native.Mathlib.Omega.{arith}
use native.Mathlib.Nat.{mul-le-mul_right}
use lib.Dec.{ltb, leb, eqb}
use borrow.Author.Tests.{ltb-true, ltb-false, le-ltb, leb-false, lt-leb, eqb-true, eq-eqb}
use Rattle.rules.specs.Limits.{both, pool_max, titles_max}
use Rattle.rules.proofs.Tests.{decide, both_l, either_false_l, either_false_r}
use Rattle.rules.proofs.Search
use Rattle.scheme.specs.Scheme.{starts}
use Rattle.story.specs.Life.{Life, Course, on_course, scheme, is_film, is_planned, is_admission, is_active, cell, on_air, is_held}
use Rattle.story.specs.declared.Act.{Act}
use Rattle.story.specs.declared.Act.TheVariants.{Opens, Changes, Closes, Doors}
use Rattle.story.specs.declared.Event.{Event}
use Rattle.story.specs.Story.{event, tick_length, tick_in}
use Rattle.story.specs.Story.{moment_of, turn}
use Rattle.story.specs.Story.{life_after, life_of, latest_of, last_time, up_to, count_in, is_held_in, held_in, is_there_in}
use Rattle.story.specs.Story.{answer_to, answer, Accepted, none, more, life_at, air_at, InTick, ReceivedBy, Received, Begins}
use Rattle.story.proofs.Admissions.{SameAt, admitted}
use Rattle.story.proofs.Clock.{tick_mono, in_tick, begun, on_its_tick}
use Rattle.story.proofs.InTime.{planned_in_time}
use Rattle.story.proofs.Reached.{up_to_accepted}
use Rattle.story.proofs.Held.{air_local, held_falls}
use Rattle.story.proofs.Turn.{turn_before}
use Rattle.story.proofs.Passed.{Turned, opening, changing, closing, doored, in_order}
use Rattle.story.proofs.Lives.{Lively, lively, newest}

-- ---- what stood at a moment

-- the life as it stood at an earlier moment is the same opening, and its course the same up to that moment
pub record Stood (L M : Life) (τ : ℕ) : Type 0 where
  pub course : Course
  pub life : M ≡ on_course L course
  pub agree : (u : ℕ) → moment_of L u ≤ τ → SameAt L course u

-- an event of a title turns no tick that began before it
earlier_tick : (L : Life) (τ υ u : ℕ) → 0 < tick_length L → L.opened ≤ υ → (υ - L.opened) % tick_length L ≡ 0 → τ < υ →
    moment_of L u ≤ τ → u < tick_in L υ
unfolding tick_in
earlier_tick L τ υ u pos since on lt le =
    let p : ℕ = tick_length L in
    let e : υ ≡ L.opened + (υ - L.opened) / p * p = on_its_tick L.opened p pos υ since on in
    ⊎_elim (λ x. ltb-true u ((υ - L.opened) / p) x)
    (λ x. let m : (υ - L.opened) / p * p ≤ u * p = mul-le-mul_right p (ltb-false u ((υ - L.opened) / p) x) in absurd (omega arith))
    (decide (ltb u ((υ - L.opened) / p)))

-- a title that an accepted event other than an opening names is lively
pub turned_lively : (lanes : ℕ) (es : List Event) → lanes ≤ pool_max → Accepted lanes es → (i τ : ℕ) → Turned es i τ →
    Lively (life_of es i) (latest_of es i)
turned_lively lanes es high acc i τ w =
    ⊎_elim
    (λ e. let z : count_in (life_of es i) τ ≡ 0 = ap (λ L. count_in L τ) e in absurd (omega (arith, w.some)))
    (λ l. l)
    (lively lanes es high acc i (omega (arith, w.timely.id)))

-- a turn after a moment leaves what stood at it
turn_stood : (L M : Life) (r : Course) (τ υ : ℕ) → 0 < tick_length L → L.opened ≤ υ →
    (υ - L.opened) % tick_length L ≡ 0 → τ < υ → ((u : ℕ) → u < tick_in L υ → SameAt L r u) → Stood L M τ →
    Stood (on_course L r) M τ
turn_stood L M r τ υ pos since on lt before w =
    record {
      course = w.course;
      life = w.life;
      agree = λ u le.
          let b = before u (earlier_tick L τ υ u pos since on lt le) in
          record { rule = (w.agree u le).rule ∙ sym b.rule; shut = (w.agree u le).shut ∙ sym b.shut };
    }

-- the course that a title takes by an event other than an opening, and that it turns no earlier tick
abbrev pub course_after : Life → ℕ → Act → Course
course_after L n (Opens f k) = record { rule = L.rule; shut = L.shut }
course_after L n (Changes k) = record { rule = turn L.rule n k; shut = L.shut }
course_after L n Closes = record { rule = turn L.rule n 0; shut = L.shut }
course_after L n (Doors b) = record { rule = L.rule; shut = turn L.shut n b }

pub same_before : (L : Life) (n : ℕ) (a : Act) (u : ℕ) → u < n → SameAt L (course_after L n a) u
same_before L n (Opens f k) u b = record { rule = refl; shut = refl }
same_before L n (Changes k) u b = record { rule = turn_before L.rule n k u b; shut = refl }
same_before L n Closes u b = record { rule = turn_before L.rule n 0 u b; shut = refl }
same_before L n (Doors d) u b = record { rule = refl; shut = turn_before L.shut n d u b }

turned_stood : (lanes : ℕ) (es : List Event) → lanes ≤ pool_max → Accepted lanes es → (i υ : ℕ) → Turned es i υ →
    (a : Act) (M : Life) (τ : ℕ) → τ < υ → (life_of es i).opened ≤ τ → Stood (life_of es i) M τ →
    Stood (on_course (life_of es i) (course_after (life_of es i) (tick_in (life_of es i) υ) a)) M τ
turned_stood lanes es high acc i υ t a M τ lt since w =
    let L : Life = life_of es i in
    let l = turned_lively lanes es high acc i υ t in
    turn_stood L M (course_after L (tick_in L υ) a) τ υ l.tick_some (omega arith) t.on_tick lt
    (same_before L (tick_in L υ) a) w

-- one event of the title itself
event_stood : (lanes : ℕ) (es : List Event) → lanes ≤ pool_max → Accepted lanes es → (i υ : ℕ) (a : Act) →
    answer_to lanes es (event i υ a) (life_of es i) a ≡ 0 → (M : Life) (τ : ℕ) → τ < υ →
    (life_after (life_of es i) υ a).opened ≤ τ → ((life_of es i).opened ≤ τ → Stood (life_of es i) M τ) →
    Stood (life_after (life_of es i) υ a) M τ
event_stood lanes es high acc i υ (Opens f k) h M τ lt since w = absurd (omega arith)
event_stood lanes es high acc i υ (Changes k) h M τ lt since w =
    turned_stood lanes es high acc i υ (changing lanes es i υ k h).0 (Changes k) M τ lt since (w since)
event_stood lanes es high acc i υ Closes h M τ lt since w =
    turned_stood lanes es high acc i υ (closing lanes es i υ h) Closes M τ lt since (w since)
event_stood lanes es high acc i υ (Doors b) h M τ lt since w =
    turned_stood lanes es high acc i υ (doored lanes es i υ b h) (Doors b) M τ lt since (w since)

-- a life stands as it does
itself : (L : Life) (τ : ℕ) → Stood L L τ
itself L τ =
    record {
      course = record { rule = L.rule; shut = L.shut };
      life = refl;
      agree = λ u le. record { rule = refl; shut = refl };
    }

-- one more event of any title
stood_more : (lanes : ℕ) (e : Event) (es : List Event) → lanes ≤ pool_max → Accepted lanes es → answer lanes es e ≡ 0 →
    (i τ : ℕ) → (life_of (e ∷ es) i).opened ≤ τ →
    ((j : ℕ) → (life_of es j).opened ≤ τ → Stood (life_of es j) (life_at es j τ) τ) →
    Stood (life_of (e ∷ es) i) (life_at (e ∷ es) i τ) τ
unfolding up_to life_of
stood_more lanes e es high acc h i τ since was =
    ⊎_elim
    (λ x. rw x (itself (life_of (e ∷ es) i) τ))
    (λ x.
    let lt : τ < e.time = leb-false e.time τ x in
    rw x
    (⊎_elim
    (λ y.
    let q : e.title ≡ i = eqb-true e.title i y in
    let own : (life_after (life_of es e.title) e.time e.act).opened ≤ τ = rw q (rw y at since) in
    rw (y, ← q)
    (event_stood lanes es high acc e.title e.time e.act h (life_at es e.title τ) τ lt own (was e.title)))
    (λ y. rw y (was i (rw y at since)))
    (decide (eqb e.title i))))
    (decide (leb e.time τ))

-- what a life says of the ticks up to a moment is what stood then
pub stood : (lanes : ℕ) (es : List Event) → lanes ≤ pool_max → Accepted lanes es → (i τ : ℕ) → (life_of es i).opened ≤ τ →
    Stood (life_of es i) (life_at es i τ) τ
unfolding up_to life_of
stood lanes es high none i τ since = itself (life_of [] i) τ
stood lanes es high (more {e = e} {es = es'} acc h) i τ since =
    stood_more lanes e es' high acc h i τ since (λ j was. stood lanes es' high acc j τ was)

-- what a life says of a tick is what was on air at every moment of the tick
pub air_stood : (lanes : ℕ) (es : List Event) → lanes ≤ pool_max → Accepted lanes es → (i l t τ : ℕ) →
    0 < tick_length (life_of es i) → InTick (life_of es i) t τ → air_at es i l τ ≡ on_air (life_of es i) l t
unfolding tick_in
air_stood lanes es high acc i l t τ pos h =
    let L : Life = life_of es i in
    let w = stood lanes es high acc i τ (omega (arith, h.from)) in
    rw (w.life, in_tick L.opened (tick_length L) pos τ t h.from h.until)
    (air_local L w.course l t
    (λ u le. w.agree u (let m : u * tick_length L ≤ t * tick_length L = mul-le-mul_right (tick_length L) le in omega (arith, h.from))))

-- ---- a box, seen after more events

-- a box of the life L, begun at tick a, seen after more events: the opening is still the id's latest, or it is over and
-- every cell of the film has been received by its planned tick, before the last event
data Watched (es : List Event) (i : ℕ) (L : Life) (a : ℕ) : Type 0 where
  current : (r : Course) → life_of es i ≡ on_course L r → ((u : ℕ) → u ≤ a → SameAt L r u) → Watched es i L a
  over : ((c n : ℕ) → is_film L c ≡ true → is_planned L a c n ≡ true →
      (f : ReceivedBy es i L a c n) × (moment_of L (suc f.tick) ≤ last_time es)) → Watched es i L a

-- events after a moment don't count at it
pub up_to_skip : (τ : ℕ) (e : Event) (es : List Event) → τ < e.time → up_to τ (e ∷ es) ≡ up_to τ es
unfolding up_to
up_to_skip τ e es lt = rw (lt-leb e.time τ lt) refl

received_skip : (e : Event) (es : List Event) (i : ℕ) (L : Life) (a c n : ℕ) (f : ReceivedBy es i L a c n) →
    moment_of L (suc f.tick) ≤ e.time → ReceivedBy (e ∷ es) i L a c n
received_skip e es i L a c n f le =
    record {
      lane = f.lane;
      tick = f.tick;
      lane_low = f.lane_low;
      from_start = f.from_start;
      by_then = f.by_then;
      same_opening = λ τ h. rw (up_to_skip τ e es (omega (arith, h.until))) (f.same_opening τ h);
      carries = λ τ h. rw (up_to_skip τ e es (omega (arith, h.until))) (f.carries τ h);
    }

-- where a cell is found in a life
record Sight (L : Life) (a c n : ℕ) : Type 0 where
  lane : ℕ
  tick : ℕ
  lane_low : lane < L.film.cap
  from_start : a ≤ tick
  by_then : tick ≤ n
  carries : on_air L lane tick ≡ cell c

-- no count, no admission
nobody : (L : Life) (a : ℕ) → L.rule a ≡ 0 → is_admission L a ≡ true → ⊥
unfolding is_admission
nobody L a e h =
    let rest : Bool = both (not (L.shut a)) (starts (scheme L) (L.rule a) a) in
    false≢true (sym (rw e refl) ∙ both_l (ltb 0 (L.rule a)) rest h)

module _ (lanes : ℕ) (es : List Event) (high : lanes ≤ pool_max) (acc : Accepted lanes es) (i : ℕ) (id : i < titles_max)
    (L : Life) (a : ℕ) (adm : is_admission L a ≡ true) (r : Course) (life : life_of es i ≡ on_course L r)
    (agree : (u : ℕ) → u ≤ a → SameAt L r u) where
  still_admitted : is_admission (on_course L r) a ≡ true
  unfolding is_admission
  still_admitted = rw ((agree a (omega arith)).rule, (agree a (omega arith)).shut) adm

  -- an id never opened admits nobody
  alive : Lively (on_course L r) (latest_of es i)
  alive =
      ⊎_elim
      (λ e. absurd (nobody (on_course L r) a (ap (λ (X : Life). X.rule a) (sym life ∙ e)) still_admitted))
      (λ w. rw life at w)
      (lively lanes es high acc i id)

  sight : (c n : ℕ) → is_film L c ≡ true → is_planned L a c n ≡ true → Sight (on_course L r) a c n
  sight c n film planned =
      let plan : is_planned (on_course L r) a c n ≡ true = rw (agree a (omega arith)).rule planned in
      let f = planned_in_time (on_course L r) alive.ruled a c n still_admitted plan film in
      record { lane = f.0; tick = f.2; lane_low = f.1; from_start = f.3; by_then = f.4; carries = f.5 }

  -- what is seen in the life was on air then
  sight_received : (c n : ℕ) → Sight (on_course L r) a c n → ReceivedBy es i L a c n
  sight_received c n g =
      let pos : 0 < tick_length (life_of es i) = rw life alive.tick_some in
      let then : (τ : ℕ) → InTick L g.tick τ → InTick (life_of es i) g.tick τ =
      λ τ h. rw life (record { from = h.from; until = h.until }) in
      record {
        lane = g.lane;
        tick = g.tick;
        lane_low = g.lane_low;
        from_start = g.from_start;
        by_then = g.by_then;
        same_opening = λ τ h.
            let w = stood lanes es high acc i τ (omega (arith, (then τ h).from)) in
            ap (λ (X : Life). X.opened) (w.life ∙ ap (λ X. on_course X w.course) life);
        carries = λ τ h. air_stood lanes es high acc i g.lane g.tick τ pos (then τ h) ∙ rw life g.carries;
      }

  -- where the id may open again, the cell was seen before
  seen_before : (c n τ : ℕ) → last_time es ≤ τ → is_there_in (life_of es i) τ ≡ false → (g : Sight (on_course L r) a c n) →
      moment_of L (suc g.tick) ≤ τ
  unfolding is_held is_active tick_in held_in
  seen_before c u τ late away g =
      let X : Life = on_course L r in
      let p : ℕ = tick_length L in
      let n : ℕ = tick_in X τ in
      let gone : is_there_in X τ ≡ false = rw life at away in
      let none-rules : r.rule n ≤ 0 = ltb-false 0 (r.rule n) (either_false_l (ltb 0 (r.rule n)) (ltb 0 (held_in X τ)) gone) in
      let none_held : held_in X τ ≤ 0 = ltb-false 0 (held_in X τ) (either_false_r (ltb 0 (r.rule n)) (ltb 0 (held_in X τ)) gone) in
      let from : latest_of es i ≤ τ = omega (arith, newest lanes es high acc i) in
      let now : tick_in X (latest_of es i) ≤ n = tick_mono L.opened p alive.tick_some (latest_of es i) τ from in
      let start : L.opened + n * p ≤ τ = begun L.opened p alive.tick_some τ n (omega (arith, alive.since)) (omega arith) in
      let pos : 0 < p = alive.tick_some in
      let then : is_held X g.lane g.tick ≡ true = rw g.carries refl in
      ⊎_elim
      (λ x. let m : suc g.tick * p ≤ n * p = mul-le-mul_right p (ltb-true g.tick n x) in omega arith)
      (λ x.
      let held : is_held_in X g.lane τ ≡ true =
      held_falls X g.lane n g.tick (ltb-false g.tick n x)
      (λ v lo hi. le-ltb g.lane (r.rule v) (omega (arith, alive.steady v n (omega arith) now))) then in
      absurd (omega (arith, Search.how_many_some (λ l. is_held_in X l τ) L.film.cap g.lane g.lane_low held)))
      (decide (ltb g.tick n))

-- ---- one more event

-- an event after the box's start, other than an opening, turns only later ticks
own_turn : (lanes : ℕ) (es : List Event) → lanes ≤ pool_max → Accepted lanes es → (i τ : ℕ) → Turned es i τ →
    (L : Life) (a : ℕ) → moment_of L a < τ → (r : Course) → life_of es i ≡ on_course L r →
    ((u : ℕ) → u ≤ a → SameAt L r u) → (b : Act) →
    ((X : Life) → life_after X τ b ≡ on_course X (course_after X (tick_in X τ) b)) → Watched (event i τ b ∷ es) i L a
unfolding life_of
own_turn lanes es high acc i τ w L a lt r life agree b turns =
    let X : Life = on_course L r in
    let l = turned_lively lanes es high acc i τ w in
    let pos : 0 < tick_length X = rw life at l.tick_some in
    let since : L.opened ≤ τ = omega arith in
    let on : (τ - L.opened) % tick_length X ≡ 0 = rw life at w.on_tick in
    current (course_after X (tick_in X τ) b)
    (rw (eq-eqb i i refl) (turns (life_of es i) ∙ ap (λ Y. on_course Y (course_after Y (tick_in Y τ) b)) life))
    (λ u le.
    let below : u < tick_in X τ =
    earlier_tick X (moment_of L a) τ u pos since on lt
    (let m : u * tick_length L ≤ a * tick_length L = mul-le-mul_right (tick_length L) le in omega arith) in
    let s = same_before X (tick_in X τ) b u below in
    record { rule = s.rule ∙ (agree u le).rule; shut = s.shut ∙ (agree u le).shut })

-- one more event of the box's own title
own_event : (lanes : ℕ) (es : List Event) → lanes ≤ pool_max → Accepted lanes es → (i τ : ℕ) (b : Act) →
    answer_to lanes es (event i τ b) (life_of es i) b ≡ 0 → (L : Life) (a : ℕ) → is_admission L a ≡ true →
    moment_of L a < τ → (r : Course) → life_of es i ≡ on_course L r → ((u : ℕ) → u ≤ a → SameAt L r u) →
    Watched (event i τ b ∷ es) i L a
unfolding life_of sight_received received_skip
own_event lanes es high acc i τ (Opens f k) h L a adm lt r life agree =
    let o = opening lanes es i τ f k h in
    let id : i < titles_max = omega (arith, o.timely.id) in
    over
    (λ c n film planned.
    let g = sight lanes es high acc i id L a adm r life agree c n film planned in
    let before : moment_of L (suc g.tick) ≤ τ =
    seen_before lanes es high acc i id L a adm r life agree c n τ o.timely.late o.away g in
    (received_skip (event i τ (Opens f k)) es i L a c n (sight_received lanes es high acc i id L a adm r life agree c n g) before, before))
own_event lanes es high acc i τ (Changes k) h L a adm lt r life agree =
    own_turn lanes es high acc i τ (changing lanes es i τ k h).0 L a lt r life agree (Changes k) (λ X. refl)
own_event lanes es high acc i τ Closes h L a adm lt r life agree =
    own_turn lanes es high acc i τ (closing lanes es i τ h) L a lt r life agree Closes (λ X. refl)
own_event lanes es high acc i τ (Doors b) h L a adm lt r life agree =
    own_turn lanes es high acc i τ (doored lanes es i τ b h) L a lt r life agree (Doors b) (λ X. refl)

-- one more event of any title, after the box's start
follow_more : (lanes : ℕ) (e : Event) (es : List Event) → lanes ≤ pool_max → Accepted lanes es → answer lanes es e ≡ 0 →
    (i : ℕ) (L : Life) (a : ℕ) → is_admission L a ≡ true → moment_of L a < e.time → Watched es i L a →
    Watched (e ∷ es) i L a
unfolding life_of received_skip
follow_more lanes e es high acc h i L a adm lt (over f) =
    let late : last_time es ≤ e.time = (in_order lanes es e.title e.time e.act h).late in
    over
    (λ c n film planned.
    let g = f c n film planned in
    (received_skip e es i L a c n g.0 (omega (arith, g.1)), omega (arith, g.1)))
follow_more lanes e es high acc h i L a adm lt (current r life agree) =
    ⊎_elim
    (λ y.
    let q : e.title ≡ i = eqb-true e.title i y in
    rw (← q) (own_event lanes es high acc e.title e.time e.act h L a adm lt r (rw q life) agree))
    (λ y. current r (rw y life) agree)
    (decide (eqb e.title i))

begun_or_more : (lanes : ℕ) (e : Event) (es : List Event) → lanes ≤ pool_max → Accepted lanes es →
    answer lanes es e ≡ 0 → (i τ a : ℕ) → Begins (e ∷ es) i τ a → (Begins es i τ a → Watched es i (life_at es i τ) a) →
    Watched (e ∷ es) i (life_at (e ∷ es) i τ) a
unfolding up_to
begun_or_more lanes e es high acc h i τ a b was =
    ⊎_elim
    (λ x. let L : Life = life_of (e ∷ es) i in
    rw x (current (record { rule = L.rule; shut = L.shut }) refl (λ u le. record { rule = refl; shut = refl })))
    (λ x.
    let lt : τ < e.time = leb-false e.time τ x in
    let q : up_to τ (e ∷ es) ≡ up_to τ es = up_to_skip τ e es lt in
    let b' : Begins es i τ a = record { at_start = rw q at b.at_start; admission = rw q at b.admission } in
    let start : moment_of (life_at es i τ) a < e.time = rw (← b'.at_start) lt in
    rw x (follow_more lanes e es high acc h i (life_at es i τ) a b'.admission start (was b')))
    (decide (leb e.time τ))

-- from the box's start on, the sequence follows its life
follows : (lanes : ℕ) (es : List Event) → lanes ≤ pool_max → Accepted lanes es → (i τ a : ℕ) → Begins es i τ a →
    Watched es i (life_at es i τ) a
unfolding up_to life_of
follows lanes es high none i τ a b =
    current (record { rule = λ u. 0; shut = λ u. false }) refl (λ u le. record { rule = refl; shut = refl })
follows lanes es high (more {e = e} {es = es'} acc h) i τ a b =
    begun_or_more lanes e es' high acc h i τ a b (follows lanes es' high acc i τ a)

-- ---- the demand

-- whatever accepted events follow, a box that begins at an admission finds every cell that holds film on a lane of its title,
-- at or after its start and no later than the tick at which its plan has it
pub planned_received : (lanes : ℕ) (es : List Event) → lanes ≤ pool_max → Accepted lanes es → (i τ a c n : ℕ) →
    i < titles_max → Begins es i τ a → is_film (life_at es i τ) c ≡ true → is_planned (life_at es i τ) a c n ≡ true →
    ReceivedBy es i (life_at es i τ) a c n
planned_received lanes es high acc i τ a c n id b film planned =
    go (follows lanes es high acc i τ a b)
  where
    L : Life
    L = life_at es i τ

    go : Watched es i L a → ReceivedBy es i L a c n
    go (current r life agree) =
        sight_received lanes es high acc i id L a b.admission r life agree c n
        (sight lanes es high acc i id L a b.admission r life agree c n film planned)
    go (over f) = (f c n film planned).0

-- the life at which a box begins is lively
pub begun_lively : (lanes : ℕ) (es : List Event) → lanes ≤ pool_max → Accepted lanes es → (i τ a : ℕ) → i < titles_max →
    Begins es i τ a → Lively (life_at es i τ) (latest_of (up_to τ es) i)
begun_lively lanes es high acc i τ a id b =
    ⊎_elim (λ e. absurd (nobody (life_at es i τ) a (ap (λ (X : Life). X.rule a) e) b.admission)) (λ w. w)
    (lively lanes (up_to τ es) high (up_to_accepted lanes τ es acc) i id)

-- demand 3: so no later than the cell's turn, since the plan has it by then
pub film_comes : (lanes : ℕ) (es : List Event) → lanes ≤ pool_max → Accepted lanes es → (i τ a c : ℕ) →
    i < titles_max → Begins es i τ a → is_film (life_at es i τ) c ≡ true → Received es i (life_at es i τ) a c
film_comes lanes es high acc i τ a c id b film =
    let L : Life = life_at es i τ in
    let ruled = (begun_lively lanes es high acc i τ a id b).ruled in
    let at = admitted L ruled a b.admission in
    let plan = ruled.laws.in_time (L.rule a) a c at.low (ruled.high a) at.start film in
    let r = planned_received lanes es high acc i τ a c plan.0 id b film plan.2 in
    record {
      lane = r.lane;
      tick = r.tick;
      lane_low = r.lane_low;
      from_start = r.from_start;
      by_then = omega (arith, r.by_then, plan.1);
      same_opening = r.same_opening;
      carries = r.carries;
    }
