-- The outlook's promise, shown: every statement of specs/Foreseen. Rests on the laws of the earliest time, of skipped times, of room, and
-- for reached states on what the state tells of the story.
use mathlib.Core.Path.{◌≡◌, refl, sym, ap, subst, ◌∙◌}
use mathlib.Core.Bool.{Bool, true, false, not, false≢true}
use mathlib.Core.Logic.{⊎_elim}
use Prim.Native.Nat.{ℕ, suc, ◌≤◌, ◌<◌, max}
use native.Mathlib.Omega.{arith}
use native.Mathlib.Nat.{le_antisymm}
use lib.Dec.{leb, ltb}
use borrow.Author.Tests.{ltb-true, ltb-false, leb-true, leb-false, le-ltb, le-leb, eq-eqb, ne_eqb, eqb-true, eqb-false, not-true, not-false}
use Rattle.rules.specs.Limits.{either, event_time_max}
use Rattle.rules.specs.Refusals.{pick, first_hit, done, outside_limits, not_there, id_taken, second_event, not_at_slot}
use Rattle.rules.specs.Refusals.{no_lanes, too_soon, past_clock}
use Rattle.rules.proofs.Tests.{decide, fails, both_l, either_false_l, either_false_r}
use Rattle.rules.proofs.Refusals.{hits_of, numbered, distinct, is_listed, cleared, first_hit_lem}
use Rattle.story.specs.declared.Film.{Film}
use Rattle.story.specs.declared.State.{State}
use Rattle.story.specs.declared.Event.{Event}
use Rattle.story.specs.declared.Act.{Act}
use Rattle.story.specs.declared.Act.TheVariants.{Opens, Changes, Closes, Doors}
use Rattle.story.specs.Orders.{Tests}
use Rattle.story.specs.Kept.{absent_mode, title_at, lanes_held, is_there}
use Rattle.story.specs.Next.{call_next}
use Rattle.story.specs.Story.{order_of, act_limits, takes_lanes}
use Rattle.story.specs.Calls.{event_ok, tests_in, call_answer}
use Rattle.story.specs.Runs.{answered}
use Rattle.moments.specs.Moments.{earliest}
use Rattle.moments.proofs.Earliest.{Hits, earliest_hits, earliest_past}
use Rattle.moments.proofs.Falling.{held_falls}
use Rattle.title_verdicts.proofs.Stands.{in_slot}
use Rattle.verdicts.specs.Before.{first_answer}
use Rattle.verdicts.proofs.Event.{in_parts, taken_event}
use Rattle.outlook.specs.Outlook.{asked_at, is_accepted_at, first_accepted, is_mended, when_answer, when_time, is_hit_by, is_allowed}
use Rattle.outlook.specs.Outlook.{next_start, finds_room, room_from, id_free_from}
use Rattle.outlook.specs.Foreseen.{AcceptedWhen, StartBehindEight, RoomBehindNine, FreeBehindFour, Foreseen}
use Rattle.outlook.proofs.Skipped.{clears_clock, there_before}
use Rattle.outlook.proofs.Freed.{on_clock}
use Rattle.outlook.proofs.Rooms.{room_at}
use Rattle.outlook.proofs.Cleared.{eight_left, nine_left}
use Rattle.outlook.proofs.Tried.{start_skips, taken_there}

-- ---- 1. when an event is accepted

-- what lasts of an answer is no 0
lasting_some : (n : ℕ) → pick (is_mended n) past_clock n ≡ 0 → ⊥
lasting_some n h =
    ⊎_elim (λ x. let z : past_clock ≡ 0 = rw x at h in omega arith)
    (λ x. let z : n ≡ 0 = rw x at h in false≢true (sym x ∙ ap is_mended z))
    (decide (is_mended n))

module _ (s : State) (e : Event) where
  -- 0 is answered where the clock has the time
  on_the_clock : when_answer s e ≡ done → first_accepted s e ≤ event_time_max
  unfolding when_answer
  on_the_clock h =
      ⊎_elim (λ x. leb-true (first_accepted s e) event_time_max x) (λ x. absurd (lasting_some (answered s (asked_at e (max e.time s.last))) (rw x at h)))
      (decide (leb (first_accepted s e) event_time_max))

  past_the_clock : (when_answer s e ≡ done → ⊥) → event_time_max < first_accepted s e
  unfolding when_answer
  past_the_clock h =
      ⊎_elim (λ x. absurd (h (rw x refl))) (λ x. leb-false (first_accepted s e) event_time_max x)
      (decide (leb (first_accepted s e) event_time_max))

  time_given : when_answer s e ≡ done → when_time s e ≡ first_accepted s e
  unfolding when_time
  time_given h = rw (le-leb (first_accepted s e) event_time_max (on_the_clock h)) refl

  -- and then it is the earliest; else it is past the clock
  its_time : first_accepted s e ≤ event_time_max → e.time ≤ event_time_max
  unfolding first_accepted
  its_time le =
      ⊎_elim
      (λ x. let late = ltb-true event_time_max e.time x in absurd (omega (arith, earliest_past (is_accepted_at s e) e.time late)))
      (λ x. ltb-false event_time_max e.time x)
      (decide (ltb event_time_max e.time))

  first_hits : e.time ≤ suc event_time_max → Hits (is_accepted_at s e) e.time (first_accepted s e)
  unfolding first_accepted
  first_hits within = earliest_hits (is_accepted_at s e) e.time within

  accepted_when : AcceptedWhen s e
  accepted_when =
      record {
        from_its_time = λ h.
            let hits = first_hits (omega (arith, its_time (on_the_clock h))) in omega (arith, time_given h, hits.after);
        on_the_clock = λ h. omega (arith, time_given h, on_the_clock h);
        accepted = λ h.
            let hits = first_hits (omega (arith, its_time (on_the_clock h))) in
            rw (time_given h) (eqb-true (answered s (asked_at e (first_accepted s e))) 0 (hits.hit (on_the_clock h)));
        refused_before = λ h υ lo hi ok.
            let hits = first_hits (omega (arith, its_time (on_the_clock h))) in
            let before : υ < first_accepted s e = omega (arith, time_given h) in
            eqb-false (answered s (asked_at e υ)) 0 (hits.none υ lo before (clears_clock s e υ ok)) ok;
        never = λ h υ lo ok.
            let early = clears_clock s e υ ok in
            let hits = first_hits (omega (arith)) in
            let past = past_the_clock h in
            eqb-false (answered s (asked_at e υ)) 0 (hits.none υ lo (omega arith) early) ok;
      }

-- ---- what an answer says of the refusals before it

-- a test that fails at a time has its earliest time later
later_first : (q : ℕ → Bool) (τ : ℕ) → τ ≤ event_time_max → q τ ≡ false → τ < earliest q τ
later_first q τ clock off =
    let hits = earliest_hits q τ (omega arith) in
    ⊎_elim (λ x. ltb-true τ (earliest q τ) x)
    (λ x.
    let same : earliest q τ ≡ τ = le_antisymm (ltb-false τ (earliest q τ) x) hits.after in
    absurd (false≢true (sym off ∙ ap q (sym same) ∙ hits.hit (omega arith))))
    (decide (ltb τ (earliest q τ)))

distinct_order : (a : Act) (t : Tests) → distinct (order_of a t) ≡ true
unfolding distinct is_listed
distinct_order (Opens f k) t = refl
distinct_order (Changes k) t = refl
distinct_order Closes t = refl
distinct_order (Doors b) t = refl

-- behind a 1 alone numbers are outside their limits
inside_rest : (b : Bool) (rest : ℕ) → (pick b outside_limits rest ≡ 1 → ⊥) → b ≡ false
inside_rest true rest other = absurd (other refl)
inside_rest false rest other = refl

inside : (a : Act) (t : Tests) → (first_hit (order_of a t) ≡ outside_limits → ⊥) → t.outside ≡ false
unfolding first_hit
inside (Opens f k) t other = inside_rest t.outside _ other
inside (Changes k) t other = inside_rest t.outside _ other
inside Closes t other = inside_rest t.outside _ other
inside (Doors b) t other = inside_rest t.outside _ other

-- behind an 8 the title is there
eight_there : (a : Act) (t : Tests) → first_hit (order_of a t) ≡ not_at_slot → t.there ≡ true
unfolding hits_of numbered distinct is_listed
eight_there (Opens f k) t h = absurd (false≢true (first_hit_lem (order_of (Opens f k) t) refl not_at_slot (omega arith) h).0)
eight_there (Changes k) t h =
    not-false t.there (cleared _ refl (first_hit_lem (order_of (Changes k) t) refl not_at_slot (omega arith) h).1 not_there)
eight_there Closes t h =
    not-false t.there (cleared _ refl (first_hit_lem (order_of Closes t) refl not_at_slot (omega arith) h).1 not_there)
eight_there (Doors b) t h =
    not-false t.there (cleared _ refl (first_hit_lem (order_of (Doors b) t) refl not_at_slot (omega arith) h).1 not_there)

module _ (s : State) (e : Event) where
  answer_hits : (n : ℕ) → 0 < n → answered s e ≡ n → is_hit_by n s e e.time ≡ true
  unfolding call_answer
  answer_hits n some is =
      let t : Tests = tests_in s e.title e.time e.act in
      (first_hit_lem (order_of e.act t) (distinct_order e.act t) n some is).0

  answer_fits : (answered s e ≡ outside_limits → ⊥) → event_ok s e.title e.time ≡ true
  unfolding call_answer
  answer_fits other =
      let ok = event_ok s e.title e.time in
      let all = not-false (act_limits e.act ok) (inside e.act (tests_in s e.title e.time e.act) other) in
      both_l ok (act_limits e.act true) (sym (in_parts e.act ok) ∙ all)

-- ---- 2. behind an 8

module _ (s : State) (e : Event) (eight : answered s e ≡ not_at_slot) where
  fits : event_ok s e.title e.time ≡ true
  fits = answer_fits s e (λ z. let w : not_at_slot ≡ outside_limits = sym eight ∙ z in omega arith)

  clock : e.time ≤ event_time_max
  clock = on_clock s e.title e.time fits

  present : (title_at s e.title).mode ≡ absent_mode → ⊥
  unfolding call_answer
  present = in_slot (title_at s e.title) e.time (eight_there e.act (tests_in s e.title e.time e.act) eight)

  start_is : next_start s e ≡ earliest (is_allowed s e) e.time
  unfolding next_start
  start_is = rw (fits, ne_eqb (title_at s e.title).mode absent_mode present) refl

  allowed_then : next_start s e ≤ event_time_max →
      either (is_hit_by second_event s e (next_start s e)) (either (is_hit_by too_soon s e (next_start s e)) (is_hit_by not_at_slot s e (next_start s e))) ≡ false
  unfolding is_allowed
  allowed_then early =
      not-true _ (rw (← start_is) at ((earliest_hits (is_allowed s e) e.time (omega (arith, clock))).hit (omega (arith, start_is))))

  off_now : is_allowed s e e.time ≡ false
  unfolding is_allowed
  off_now =
      let off : is_hit_by not_at_slot s e e.time ≡ true = answer_hits s e not_at_slot (omega arith) eight in
      rw off (go (is_hit_by second_event s e e.time) (is_hit_by too_soon s e e.time))
    where
      go : (a b : Bool) → not (either a (either b true)) ≡ false
      go true b = refl
      go false true = refl
      go false false = refl

  module _ (early : next_start s e ≤ event_time_max) where
    not_second_then : is_hit_by second_event s e (next_start s e) ≡ false
    not_second_then = either_false_l _ _ (allowed_then early)

    rest_then : either (is_hit_by too_soon s e (next_start s e)) (is_hit_by not_at_slot s e (next_start s e)) ≡ false
    rest_then = either_false_r (is_hit_by second_event s e (next_start s e)) _ (allowed_then early)

    not_soon_then : is_hit_by too_soon s e (next_start s e) ≡ false
    not_soon_then = either_false_l _ _ rest_then

    not_off_then : is_hit_by not_at_slot s e (next_start s e) ≡ false
    not_off_then = either_false_r (is_hit_by too_soon s e (next_start s e)) _ rest_then

  later_start : e.time < next_start s e
  later_start = omega (arith, start_is, later_first (is_allowed s e) e.time clock off_now)

  behind_eight : StartBehindEight s e
  unfolding next_start is_allowed
  behind_eight =
      record {
        later = later_start;
        not_second = not_second_then;
        not_soon = not_soon_then;
        not_off = not_off_then;
        done_or_nine = λ early.
            eight_left s e.title e.time (next_start s e) (omega (arith, later_start)) early e.act eight
            (not_second_then early) (not_soon_then early) (not_off_then early);
        refused_before = λ υ lo hi ok.
            eqb-false (answered s (asked_at e υ)) 0 ((start_skips s e e.time clock).refused υ lo hi) ok;
      }

-- ---- 3. behind a 9

module _ (s : State) (e : Event) (nine : answered s e ≡ no_lanes) where
  only_lanes : first_answer s e ≡ 0
  unfolding call_answer first_answer
  only_lanes =
      let t : Tests = tests_in s e.title e.time e.act in
      (first_hit_lem (order_of e.act t) (distinct_order e.act t) no_lanes (omega arith) nine).1

  nine_clock : e.time ≤ event_time_max
  nine_clock = on_clock s e.title e.time (taken_event s e.title e.time e.act only_lanes)

  room_is : room_from s e ≡ earliest (finds_room s e) e.time
  unfolding room_from
  room_is = rw (eq-eqb (first_answer s e) done only_lanes) refl

  room_hits : Hits (finds_room s e) e.time (room_from s e)
  room_hits = rw room_is (earliest_hits (finds_room s e) e.time (omega (arith, nine_clock)))

  module _ (takes : takes_lanes e.act (title_at s e.title).count ≡ true) where
    -- room is what 9 asks
    by_nine : (υ : ℕ) → finds_room s e υ ≡ not (is_hit_by no_lanes s e υ)
    unfolding finds_room
    by_nine υ = rw takes refl

    abbrev held : ℕ → ℕ
    held υ = lanes_held (call_next s e.title e.time e.act) υ

    by_held : (υ : ℕ) → finds_room s e υ ≡ not (ltb s.pool (held υ))
    unfolding finds_room
    by_held υ = room_at s e.title e.act e.time e.time υ takes

    room_stays : (τ υ : ℕ) → τ ≤ υ → finds_room s e τ ≡ true → finds_room s e υ ≡ true
    room_stays τ υ le h =
        let free : held τ ≤ s.pool = ltb-false s.pool (held τ) (not-true (ltb s.pool (held τ)) (sym (by_held τ) ∙ h)) in
        let less : held υ ≤ held τ = held_falls (call_next s e.title e.time e.act) τ υ le in
        by_held υ ∙ ap not (le-ltb s.pool (held υ) (omega arith))

    has_room : (υ : ℕ) → room_from s e ≤ υ → υ ≤ event_time_max → is_hit_by no_lanes s e υ ≡ false
    has_room υ lo early =
        not-true (is_hit_by no_lanes s e υ) (sym (by_nine υ) ∙ room_stays (room_from s e) υ lo (room_hits.hit (omega arith)))

    opened_then : (f : Film) (k : ℕ) → e.act ≡ Opens f k → room_from s e ≤ event_time_max → answered s (asked_at e (room_from s e)) ≡ 0
    opened_then f k is early =
        let i = e.title in
        let full = subst (λ a. hits_of no_lanes (order_of a (tests_in s i (room_from s e) a)) ≡ false) is (has_room (room_from s e) (omega arith) early) in
        let before = subst (λ a. call_answer s i e.time a ≡ no_lanes) is nine in
        subst (λ a. call_answer s i (room_from s e) a ≡ 0) (sym is) (nine_left s i e.time (room_from s e) room_hits.after early f k before full)

    behind_nine : RoomBehindNine s e
    behind_nine =
        let full : finds_room s e e.time ≡ false =
        by_nine e.time ∙ ap not (answer_hits s e no_lanes (omega arith) nine) in
        record {
          later = omega (arith, room_is, later_first (finds_room s e) e.time nine_clock full);
          has_room = has_room;
          none_before = λ υ lo hi.
              not-false (is_hit_by no_lanes s e υ) (sym (by_nine υ) ∙ room_hits.none υ lo hi (omega (arith, room_hits.high)));
          opens_then = opened_then;
        }

-- ---- 4. behind a 4

module _ (s : State) (e : Event) (four : answered s e ≡ id_taken) where
  four_fits : event_ok s e.title e.time ≡ true
  four_fits = answer_fits s e (λ z. let w : id_taken ≡ outside_limits = sym four ∙ z in omega arith)

  four_clock : e.time ≤ event_time_max
  four_clock = on_clock s e.title e.time four_fits

  by_four : (υ : ℕ) → is_hit_by id_taken s e υ ≡ is_there (title_at s e.title) υ
  by_four υ = taken_there s e e.time four_clock e.act four υ

  abbrev is_free : ℕ → Bool
  is_free υ = not (is_there (title_at s e.title) υ)

  free_is : id_free_from s e.title e.time ≡ earliest is_free e.time
  unfolding id_free_from
  free_is = rw four_fits refl

  free_hits : Hits is_free e.time (id_free_from s e.title e.time)
  free_hits = rw free_is (earliest_hits is_free e.time (omega (arith, four_clock)))

  behind_four : FreeBehindFour s e
  behind_four =
      let t = title_at s e.title in
      let from : ℕ = id_free_from s e.title e.time in
      let there-now : is_free e.time ≡ false = ap not (sym (by_four e.time) ∙ answer_hits s e id_taken (omega arith) four) in
      record {
        later = omega (arith, free_is, later_first is_free e.time four_clock there-now);
        is_free = λ υ lo early.
            by_four υ
            ∙ fails (is_there t υ)
            (λ there. false≢true (sym (not-true (is_there t from) (free_hits.hit (omega arith))) ∙ there_before t from υ lo there));
        none_before = λ υ lo hi.
            by_four υ ∙ not-false (is_there t υ) (free_hits.none υ lo hi (omega (arith, free_hits.high)));
      }

-- 1. to 4., of every state and every event.
pub foreseen : (s : State) (e : Event) → Foreseen s e
foreseen s e =
    record {
      accepted_when = accepted_when s e;
      behind_eight = behind_eight s e;
      behind_nine = behind_nine s e;
      behind_four = behind_four s e;
    }
